-- Walks over bytes: one byte more; and a walk that ends a part at each separator is a walk over the parts. Assumes nothing.
use mathlib.Core.Path.{◌≡◌, refl, ◌∙◌, ap}
use mathlib.Core.Bool.{Bool, true, false, cond}
use mathlib.Core.List.{List, [], ◌∷◌}
use Rattle.std.specs.List.{fold}
use Prim.Native.Nat.{ℕ, suc, ◌+◌, ◌≤◌, ◌<◌}
use native.Mathlib.Numerals.{add-one}
use native.Mathlib.Omega.{arith}
use lib.ListN.{length, drop, get_or, drop_of_length-le}
use lib.Seq.{drop-cons}
use lib.Dec.{eqb}
use Rattle.scope.specs.Text.{parts, parts_on}

-- what is walked from the byte at i on: that byte, and what is walked behind it; past the last byte nothing
module _ {S : Type 0} (f : S → ℕ → S) (s : S) (bs : List ℕ) (i : ℕ) where
  pub fold_next : i < length bs → fold f s (drop i bs) ≡ fold f (f s (get_or bs i 0)) (drop (i + 1) bs)
  fold_next h = rw (add-one, drop-cons bs i 0 h)

  pub fold_none : length bs ≤ i → fold f s (drop i bs) ≡ s
  fold_none h = rw (drop_of_length-le bs h)

-- there is always a first part
pub record Some (ps : List (List ℕ)) : Type 0 where
  pub first : List ℕ
  pub rest : List (List ℕ)
  pub is : ps ≡ first ∷ rest

some_on : (t : Bool) (b : ℕ) (ps : List (List ℕ)) → Some (parts_on t b ps)
some_on true b ps = record { first = []; rest = ps; is = refl }
some_on false b [] = record { first = b ∷ []; rest = []; is = refl }
some_on false b (p ∷ ps) = record { first = b ∷ p; rest = ps; is = refl }

pub some_parts : (z : ℕ) (bs : List ℕ) → Some (parts z bs)
unfolding parts
some_parts z [] = record { first = []; rest = []; is = refl }
some_parts z (b ∷ bs) = some_on (eqb b z) b (parts z bs)

-- there is at most one part more than bytes
on_length : (t : Bool) (b n : ℕ) (ps : List (List ℕ)) → length ps ≤ n + 1 → length (parts_on t b ps) ≤ suc n + 1
on_length true b n ps h = omega arith
on_length false b n [] h = omega arith
on_length false b n (p ∷ ps) h = omega arith

pub parts_length : (z : ℕ) (bs : List ℕ) → length (parts z bs) ≤ length bs + 1
unfolding parts
parts_length z [] = omega arith
parts_length z (b ∷ bs) = on_length (eqb b z) b (length bs) (parts z bs) (parts_length z bs)

module _ {S : Type 0} (z : ℕ) (more : S → ℕ → S) (end : S → S) where
  -- one byte
  abbrev pub walk : S → ℕ → S
  walk s b = cond (eqb b z) (end s) (more s b)

  -- one part
  abbrev pub part : S → List ℕ → S
  part s p = end (fold more s p)

  onto : (t : Bool) (s : S) (b : ℕ) (p : List ℕ) (ps : List (List ℕ)) → fold part (cond t (end s) (more s b)) (p ∷ ps) ≡ fold part s (parts_on t b (p ∷ ps))
  onto true s b p ps = refl
  onto false s b p ps = refl

  -- the end of the last part is the walk's own end
  pub walk_parts : (bs : List ℕ) (s : S) → end (fold walk s bs) ≡ fold part s (parts z bs)
  unfolding parts
  walk_parts [] s = refl
  walk_parts (b ∷ bs) s = let w = some_parts z bs in walk_parts bs (walk s b) ∙ rw w.is (onto (eqb b z) s b w.first w.rest)

  -- the same where the last part isn't ended
  abbrev pub leftover : S → List (List ℕ) → S
  leftover s [] = s
  leftover s (p ∷ []) = fold more s p
  leftover s (p ∷ q ∷ ps) = leftover (part s p) (q ∷ ps)

  left : (t : Bool) (s : S) (b : ℕ) (p : List ℕ) (ps : List (List ℕ)) → leftover (cond t (end s) (more s b)) (p ∷ ps) ≡ leftover s (parts_on t b (p ∷ ps))
  left true s b p ps = refl
  left false s b p [] = refl
  left false s b p (q ∷ ps) = refl

  pub walk_leftover : (bs : List ℕ) (s : S) → fold walk s bs ≡ leftover s (parts z bs)
  unfolding parts
  walk_leftover [] s = refl
  walk_leftover (b ∷ bs) s = let w = some_parts z bs in walk_leftover bs (walk s b) ∙ rw w.is (left (eqb b z) s b w.first w.rest)

-- two walks that agree at each byte agree
pub fold_same : {S B : Type 0} (f g : S → B → S) → ((s : S) (b : B) → f s b ≡ g s b) → (bs : List B) (s : S) → fold f s bs ≡ fold g s bs
fold_same f g e [] s = refl
fold_same f g e (b ∷ bs) s = ap (λ t. fold f t bs) (e s b) ∙ fold_same f g e bs (g s b)

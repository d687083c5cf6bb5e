-- Tests that every member of a list passes. Assumes nothing.
use mathlib.Core.Path.{◌≡◌, refl, sym, ◌∙◌, ap}
use mathlib.Core.Bool.{Bool, true, false, ◌&&◌}
use mathlib.Core.List.{List, [], ◌∷◌, ◌++◌}
use Prim.Native.Nat.{ℕ, zero, suc, ◌<◌}
use native.Mathlib.Omega.{arith}
use lib.ListN.{length, get_or, set, take, drop, take-append-drop, length-take}
use lib.Seq.{get_or-take}
use Rattle.scope.specs.Lists.{every}
use Rattle.scope.proofs.Members.{first_of_lem, second_of, at_in, every_of}

pub every_append : {A : Type 0} (p : A → Bool) (xs ys : List A) → every p (xs ++ ys) ≡ (every p xs && every p ys)
unfolding every
every_append p [] ys = refl
every_append p (x ∷ xs) ys = rw (every_append p xs ys) (go (p x))
  where
    go : (b : Bool) → (b && (every p xs && every p ys)) ≡ ((b && every p xs) && every p ys)
    go true = refl
    go false = refl

-- one member more, at the end
pub every_end : {A : Type 0} (p : A → Bool) (l : List A) (x : A) → every p l ≡ true → p x ≡ true → every p (l ++ (x ∷ [])) ≡ true
unfolding every
every_end p l x h k = rw (every_append p l (x ∷ []), h, k)

-- one member in the place of another
pub every_set : {A : Type 0} (p : A → Bool) (l : List A) (i : ℕ) (x : A) → every p l ≡ true → p x ≡ true → every p (set l i x) ≡ true
unfolding every
every_set p [] i x h k = refl
every_set p (y ∷ l) zero x h k = rw (k, second_of (p y) (every p l) h)
every_set p (y ∷ l) (suc i) x h k = rw (first_of_lem (p y) (every p l) h, every_set p l i x (second_of (p y) (every p l) h) k)

-- what every member passes, every member of a part does
module _ {A : Type 0} (p : A → Bool) (i : ℕ) (l : List A) (e : every p l ≡ true) where
  parts : (every p (take i l) && every p (drop i l)) ≡ true
  parts = sym (every_append p (take i l) (drop i l)) ∙ ap (every p) (take-append-drop i l) ∙ e

  pub every_take : every p (take i l) ≡ true
  every_take = first_of_lem _ _ parts

  pub every_drop : every p (drop i l) ≡ true
  every_drop = second_of (every p (take i l)) _ parts

-- the member number j of the first k
pub every_at : {A : Type 0} (p : A → Bool) (k : ℕ) (l : List A) (d : A) → every p (take k l) ≡ true → (j : ℕ) → j < k → j < length l → p (get_or l j d) ≡ true
every_at p k l d e j h i = every_of p (take k l) e _ (rw get_or-take at (at_in (take k l) j d (rw length-take (omega arith))))

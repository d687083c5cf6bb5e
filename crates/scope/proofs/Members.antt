-- Members of lists: those that `every`, `get_or` and `is_member` speak of; those that stand in a relation to every later one; how many there are if none stands twice. Assumes nothing.
use mathlib.Core.Path.{◌≡◌, refl, sym, ◌∙◌, ap, ap₂, subst}
use mathlib.Core.Logic.{◌⊎◌, ⊎_elim, ◌≢◌}
use mathlib.Core.Bool.{Bool, true, false, ◌&&◌, ◌||◌, false≢true}
use mathlib.Core.List.Memᴰ
use mathlib.Core.List.{List, [], ◌∷◌, ◌++◌, Memᴰ}
use Prim.Native.Nat.{ℕ, zero, suc, ◌+◌, ◌≤◌, ◌<◌}
use native.Mathlib.Nat.{le_antisymm}
use native.Mathlib.Omega.{arith}
use borrow.Author.Tests.{eqb-true, eq-eqb}
use lib.Dec.{eqb}
use lib.ListN.{length, get_or, take}
use Rattle.scope.specs.Lists.{◌∈◌, Pairwise, Distinct, keep, select, every, upward}
use Rattle.scope.specs.Curves.{is_member}
use Rattle.scope.proofs.Lists.{select_are, upward_are}

pub first_of_lem : (a b : Bool) → (a && b) ≡ true → a ≡ true
first_of_lem true b h = refl
first_of_lem false b h = h

pub second_of : (a b : Bool) → (a && b) ≡ true → b ≡ true
second_of true b h = h
second_of false b h = absurd (false≢true h)

module _ {A : Type 0} where
  pub at_in : (l : List A) (k : ℕ) (d : A) → k < length l → get_or l k d ∈ l
  at_in [] k d h = absurd (omega arith)
  at_in (x ∷ l) zero d h = Memᴰ.head refl
  at_in (x ∷ l) (suc k) d h = Memᴰ.tail (at_in l k d (omega arith))

  -- ---- every
  pub every_of : (p : A → Bool) (l : List A) → every p l ≡ true → (a : A) → a ∈ l → p a ≡ true
  unfolding every
  every_of p [] h a m = absurd (Memᴰ.not-nil m)
  every_of p (x ∷ l) h a m =
      let later = every_of p l (second_of (p x) (every p l) h) a in
      ⊎_elim (λ (e : a ≡ x). ap p e ∙ first_of_lem (p x) (every p l) h) (λ (k : a ∈ l). later k) (Memᴰ.cases_cons m)

  pub of_every : (p : A → Bool) (l : List A) → ((a : A) → a ∈ l → p a ≡ true) → every p l ≡ true
  unfolding every
  of_every p [] h = refl
  of_every p (x ∷ l) h = ap₂ ◌&&◌ (h x (Memᴰ.head refl)) (of_every p l (λ a m. h a (Memᴰ.tail m)))

  -- ---- two lists with the same members, both in the order R, are one list
  module _ (R : A → A → Type 0) (asym : (a b : A) → R a b → R b a → ⊥) where
    heads : (x y : A) (l m : List A) → ((z : A) → z ∈ l → R x z) → ((z : A) → z ∈ m → R y z) → x ∈ (y ∷ m) → y ∈ (x ∷ l) → x ≡ y
    heads x y l m h k p q =
        ⊎_elim (λ (e : x ≡ y). e)
        (λ (i : x ∈ m). ⊎_elim (λ (e : y ≡ x). sym e) (λ (j : y ∈ l). absurd (asym x y (h y j) (k x i))) (Memᴰ.cases_cons q))
        (Memᴰ.cases_cons p)

    in_tail : (x y a : A) (l m : List A) → x ≡ y → ((z : A) → z ∈ l → R x z) → a ∈ l → a ∈ (y ∷ m) → a ∈ m
    in_tail x y a l m e h p q =
        ⊎_elim (λ (f : a ≡ y). let r : R x x = subst (R x) (f ∙ sym e) (h a p) in absurd (asym x x r r)) (λ (k : a ∈ m). k) (Memᴰ.cases_cons q)

    pub same_list : (l m : List A) → Pairwise R l → Pairwise R m → ((a : A) → a ∈ l → a ∈ m) → ((a : A) → a ∈ m → a ∈ l) → l ≡ m
    same_list [] [] h k f g = refl
    same_list [] (y ∷ m) h k f g = absurd (Memᴰ.not-nil (g y (Memᴰ.head refl)))
    same_list (x ∷ l) [] h k f g = absurd (Memᴰ.not-nil (f x (Memᴰ.head refl)))
    same_list (x ∷ l) (y ∷ m) h k f g =
        let e : x ≡ y = heads x y l m h.0 k.0 (f x (Memᴰ.head refl)) (g y (Memᴰ.head refl)) in
        ap₂ ◌∷◌ e
        (same_list l m h.1 k.1 (λ a p. in_tail x y a l m e h.0 p (f a (Memᴰ.tail p))) (λ a p. in_tail y x a m l (sym e) k.0 p (g a (Memᴰ.tail p))))

  -- ---- what is left of a list when a member is taken out
  left : {a : A} {l : List A} → Memᴰ a l → List A
  left (Memᴰ.head {xs = l} e) = l
  left (Memᴰ.tail {x = x} m) = x ∷ left m

  length_left : {a : A} {l : List A} (m : Memᴰ a l) → length l ≡ suc (length (left m))
  unfolding left
  length_left (Memᴰ.head e) = refl
  length_left (Memᴰ.tail m) = ap suc (length_left m)

  in_left : {a : A} {l : List A} (b : A) (m : Memᴰ a l) → a ≢ b → b ∈ l → b ∈ left m
  unfolding left
  in_left b (Memᴰ.head {xs = l} e) h k = ⊎_elim (λ f. absurd (h (e ∙ sym f))) (λ (i : b ∈ l). i) (Memᴰ.cases_cons k)
  in_left b (Memᴰ.tail {x = x} {xs = l} m) h k =
      let later = in_left b m h in
      ⊎_elim (λ (f : b ≡ x). Memᴰ.head f) (λ (i : b ∈ l). Memᴰ.tail (later i)) (Memᴰ.cases_cons k)

  no_longer : (l m : List A) → Distinct l → ((a : A) → a ∈ l → a ∈ m) → length l ≤ length m
  no_longer [] m h f = omega arith
  no_longer (x ∷ l) m h f =
      let p = f x (Memᴰ.head refl) in
      let r = no_longer l (left p) h.1 (λ a k. in_left a p (h.0 a k) (f a (Memᴰ.tail k))) in
      omega (arith, length_left p)

  -- two lists with the same members, none of which stands twice in either, are equally long
  pub same_length : (l m : List A) → Distinct l → Distinct m → ((a : A) → a ∈ l → a ∈ m) → ((a : A) → a ∈ m → a ∈ l) → length l ≡ length m
  same_length l m h k f g = le_antisymm (no_longer l m h f) (no_longer m l k g)

  -- one more member at the end
  pairwise_more : (R : A → A → Type 0) (l : List A) (b : A) → Pairwise R l → ((a : A) → a ∈ l → R a b) → Pairwise R (l ++ (b ∷ []))
  pairwise_more R [] b h f = (λ y m. absurd (Memᴰ.not-nil m), tt)
  pairwise_more R (x ∷ l) b h f =
      (λ y m. ⊎_elim (λ (i : y ∈ l). h.0 y i) (λ (i : y ∈ (b ∷ [])). subst (R x) (sym (Memᴰ.eq_of_singleton i)) (f x (Memᴰ.head refl))) (Memᴰ.append_cases l m), pairwise_more R l b h.1 (λ a m. f a (Memᴰ.tail m)))

-- ---- a part of a list whose members stand in R to every later one
-- what stands in R to every later one does so in what is kept
pub pairwise_select : {A : Type 0} (R : A → A → Type 0) (p : A → Bool) (l : List A) → Pairwise R l → Pairwise R (select p l)
unfolding select
pairwise_select R p [] h = tt
pairwise_select R p (x ∷ l) h = go (p x) (pairwise_select R p l h.1)
  where
    go : (b : Bool) → Pairwise R (select p l) → Pairwise R (keep b x (select p l))
    go true k = (λ y m. h.0 y (select_are p l y m).0, k)
    go false k = k

-- the first k of a list stand in R to those that are not among them
pub take_pairwise : {A : Type 0} (R : A → A → Type 0) (k : ℕ) (l : List A) → Pairwise R l → (x y : A) → x ∈ take k l → y ∈ l → (y ∈ take k l → ⊥) → R x y
take_pairwise R zero l h x y m i out = absurd (Memᴰ.not-nil m)
take_pairwise R (suc k) [] h x y m i out = absurd (Memᴰ.not-nil m)
take_pairwise {A = A} R (suc k) (z ∷ l) h x y m i out =
    let later : y ∈ l = ⊎_elim (λ (e : y ≡ z). absurd (out (Memᴰ.head e))) (λ (j : y ∈ l). j) (Memᴰ.cases_cons i) in
    ⊎_elim (λ (e : x ≡ z). subst (λ (w : A). R w y) (sym e) (h.0 y later))
    (λ (j : x ∈ take k l). take_pairwise R k l h.1 x y j later (λ o. out (Memᴰ.tail o)))
    (Memᴰ.cases_cons m)

-- ---- the rows that `is_member` finds
pub member_in : (x : ℕ) (l : List ℕ) → is_member x l ≡ true → x ∈ l
member_in x [] h = absurd (false≢true h)
member_in x (y ∷ l) h = go (eqb x y) refl h (member_in x l)
  where
    go : (b : Bool) → eqb x y ≡ b → (b || is_member x l) ≡ true → (is_member x l ≡ true → x ∈ l) → x ∈ y ∷ l
    go true e h r = Memᴰ.head (eqb-true x y e)
    go false e h r = Memᴰ.tail (r h)

pub in_member : (x : ℕ) (l : List ℕ) → x ∈ l → is_member x l ≡ true
in_member x [] i = absurd (Memᴰ.not-nil i)
in_member x (y ∷ l) i = go (eqb x y) refl (in_member x l) (Memᴰ.cases_cons i)
  where
    go : (b : Bool) → eqb x y ≡ b → (x ∈ l → is_member x l ≡ true) → (x ≡ y) ⊎ (x ∈ l) → (b || is_member x l) ≡ true
    go true e r w = refl
    go false e r w = ⊎_elim (λ q. absurd (false≢true (sym e ∙ eq-eqb x y q))) r w

-- ---- the numbers from lo on
pub upward_distinct : (lo n : ℕ) → Distinct (upward lo n)
unfolding upward
upward_distinct lo zero = tt
upward_distinct lo (suc n) = pairwise_more ◌≢◌ (upward lo n) (lo + n) (upward_distinct lo n) (λ a m. let w = (upward_are lo n a).0 m in omega arith)

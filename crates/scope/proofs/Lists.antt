-- Laws of the list functions that the definitions use. Assumes nothing.
use mathlib.Core.Path.{◌≡◌, refl, sym, ap, ◌∙◌}
use mathlib.Core.Logic.{◌↔◌, ◌⊎◌, inl, inr, ⊎_elim}
use mathlib.Core.Bool.{Bool, true, false, ◌&&◌, false≢true}
use mathlib.Core.List.Memᴰ
use mathlib.Core.List.{List, [], ◌∷◌, ◌++◌, append_assoc, Memᴰ}
use Prim.Native.Nat.{ℕ, zero, suc, ◌+◌, ◌≤◌, ◌<◌}
use native.Mathlib.Numerals.{add-one}
use native.Mathlib.Omega.{arith}
use borrow.Author.Tests.{eqb-true, eqb-false}
use lib.Dec.{eqb}
use lib.ListN.{length, get_or, set, take, drop, length-append}
use lib.Seq.{drop-cons, set_at}
use Rattle.scope.specs.Lists.{upward, keep, select}

-- ---- a slice that is filled from its start: p stands there, n entries long, and v is stored behind it
pub store_more : {A : Type 0} (p l : List A) (n : ℕ) (v : A) → length p ≡ n → n < length l → set (p ++ drop n l) n v ≡ (p ++ (v ∷ [])) ++ drop (n + 1) l
store_more p l n v h k = rw (add-one, append_assoc, drop-cons l n v k) (set_at p (get_or l n v) (drop (suc n) l) v n h)

-- ---- select
pub select_append : {A : Type 0} (p : A → Bool) (xs ys : List A) → select p (xs ++ ys) ≡ select p xs ++ select p ys
unfolding select
select_append p [] ys = refl
select_append p (x ∷ xs) ys = rw (select_append p xs ys) (go (p x))
  where
    go : (b : Bool) → keep b x (select p xs ++ select p ys) ≡ keep b x (select p xs) ++ select p ys
    go true = refl
    go false = refl

-- what passes one test and then another passes both
pub select_both : {A : Type 0} (p q : A → Bool) (xs : List A) → select q (select p xs) ≡ select (λ x. p x && q x) xs
unfolding select
select_both p q [] = refl
select_both p q (x ∷ xs) = go (p x) (select_both p q xs)
  where
    go : (b : Bool) → select q (select p xs) ≡ select (λ x. p x && q x) xs → select q (keep b x (select p xs)) ≡ keep (b && q x) x (select (λ x. p x && q x) xs)
    go true h = ap (keep (q x) x) h
    go false h = h

-- what is kept stood there and passed, and all that passes is kept
pub select_are : {A : Type 0} (p : A → Bool) (xs : List A) (x : A) → Memᴰ x (select p xs) → Memᴰ x xs × (p x ≡ true)
unfolding select
select_are p [] x i = absurd (Memᴰ.not-nil i)
select_are p (y ∷ xs) x i = go (p y) refl (λ j. let (k, t) = select_are p xs x j in (Memᴰ.tail k, t)) i
  where
    go : (b : Bool) → p y ≡ b → (Memᴰ x (select p xs) → Memᴰ x (y ∷ xs) × (p x ≡ true)) → Memᴰ x (keep b y (select p xs)) → Memᴰ x (y ∷ xs) × (p x ≡ true)
    go true e rest j = ⊎_elim (λ w. (Memᴰ.head w, rw w e)) rest (Memᴰ.cases_cons j)
    go false e rest j = rest j

pub select_all : {A : Type 0} (p : A → Bool) (xs : List A) (x : A) → Memᴰ x xs → p x ≡ true → Memᴰ x (select p xs)
unfolding select
select_all p [] x i t = absurd (Memᴰ.not-nil i)
select_all p (y ∷ xs) x i t = go (p y) refl (λ j. select_all p xs x j t) (Memᴰ.cases_cons i)
  where
    go : (b : Bool) → p y ≡ b → (Memᴰ x xs → Memᴰ x (select p xs)) → (x ≡ y) ⊎ Memᴰ x xs → Memᴰ x (keep b y (select p xs))
    go true e rest (inl w) = Memᴰ.head w
    go true e rest (inr j) = Memᴰ.tail (rest j)
    go false e rest (inl w) = absurd (false≢true (sym e ∙ sym (ap p w) ∙ t))
    go false e rest (inr j) = rest j

-- ---- take
pub take_in : {A : Type 0} (k : ℕ) (l : List A) (x : A) → Memᴰ x (take k l) → Memᴰ x l
take_in zero l x i = absurd (Memᴰ.not-nil i)
take_in (suc k) [] x i = absurd (Memᴰ.not-nil i)
take_in (suc k) (y ∷ l) x i = ⊎_elim (λ e. Memᴰ.head e) (λ j. Memᴰ.tail (take_in k l x j)) (Memᴰ.cases_cons i)

-- ---- upward
pub length_upward : (lo k : ℕ) → length (upward lo k) ≡ k
unfolding upward
length_upward lo zero = refl
length_upward lo (suc k) = length-append (upward lo k) _ ∙ rw (length_upward lo k, add-one)

pub upward_are : (lo k x : ℕ) → Memᴰ x (upward lo k) ↔ ((lo ≤ x) × (x < lo + k))
unfolding upward
upward_are lo zero x = (λ i. absurd (Memᴰ.not-nil i), λ h. absurd (omega arith))
upward_are lo (suc k) x = (
  λ i. ⊎_elim (λ w. let (l, h) = (upward_are lo k x).0 w in (l, omega arith)) (λ w. let e = Memᴰ.eq_of_singleton w in (omega arith, omega arith)) (Memᴰ.append_cases (upward lo k) i),
  λ h. go (eqb x (lo + k)) refl h.0 h.1 (upward_are lo k x).1,
)
  where
    go : (b : Bool) → eqb x (lo + k) ≡ b → lo ≤ x → x < lo + suc k → ((lo ≤ x) × (x < lo + k) → Memᴰ x (upward lo k)) → Memᴰ x (upward lo k ++ ((lo + k) ∷ []))
    go true e l h r = Memᴰ.append_right (upward lo k) (Memᴰ.head (eqb-true x (lo + k) e))
    go false e l h r = let ne = eqb-false x (lo + k) e in Memᴰ.append_left _ (r (l, omega arith))

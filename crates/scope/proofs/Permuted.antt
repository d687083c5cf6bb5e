-- Of proposed permutations "only a true one is accepted": `is_permutation` holds exactly if every index below L stands in the list, nothing stands twice, and nothing is out of range; and then the list has L members. Assumes nothing.
use mathlib.Core.Path.{◌≡◌, refl, sym, ◌∙◌, ap₂}
use mathlib.Core.Logic.{⊎_elim, ◌↔◌}
use mathlib.Core.Bool.{Bool, true, false, ◌&&◌}
use mathlib.Core.List.Memᴰ
use mathlib.Core.List.{List, [], ◌∷◌}
use Prim.Native.Nat.{ℕ, zero, suc, ◌≤◌, ◌<◌}
use native.Mathlib.Omega.{arith}
use borrow.Author.Tests.{ltb-true, lt-ltb, eqb-true, eq-eqb}
use lib.Dec.{ltb, eqb}
use lib.ListN.{length}
use Rattle.scope.specs.Lists.{◌∈◌, Distinct, upward, select, every}
use Rattle.scope.specs.Sorted.{Permutes}
use Rattle.scope.specs.Permutations.{times, is_permutation}
use Rattle.scope.proofs.Lists.{length_upward, upward_are}
use Rattle.scope.proofs.Members.{first_of_lem, second_of, every_of, of_every, same_length, upward_distinct}

-- ---- how often i stands in a list
module _ (i : ℕ) where
  times_same : (x : ℕ) (l : List ℕ) → i ≡ x → times i (x ∷ l) ≡ suc (times i l)
  unfolding select
  times_same x l e = rw (eq-eqb i x e)

  -- with one more member it stands there no less often
  times_more : (x : ℕ) (l : List ℕ) → times i l ≤ times i (x ∷ l)
  unfolding select
  times_more x l = go (eqb i x) refl
    where
      go : (b : Bool) → eqb i x ≡ b → times i l ≤ times i (x ∷ l)
      go true e = rw e (omega arith)
      go false e = rw e (omega arith)

  in_times : (l : List ℕ) → i ∈ l → 0 < times i l
  in_times [] m = absurd (Memᴰ.not-nil m)
  in_times (x ∷ l) m =
      let later = in_times l in
      ⊎_elim (λ (e : i ≡ x). omega (arith, times_same x l e)) (λ (k : i ∈ l). omega (arith, later k, times_more x l)) (Memᴰ.cases_cons m)

  times_in : (l : List ℕ) → 0 < times i l → i ∈ l
  unfolding select
  times_in [] h = absurd (omega arith)
  times_in (x ∷ l) h = go (eqb i x) refl (times_in l)
    where
      go : (b : Bool) → eqb i x ≡ b → (0 < times i l → i ∈ l) → i ∈ (x ∷ l)
      go true e later = Memᴰ.head (eqb-true i x e)
      go false e later = Memᴰ.tail (later (rw e at h))

  once : (l : List ℕ) → Distinct l → times i l ≤ 1
  unfolding select
  once [] h = omega arith
  once (x ∷ l) h = go (eqb i x) refl (once l h.1)
    where
      none : i ≡ x → (n : ℕ) → times i l ≡ n → n ≡ 0
      none e zero t = refl
      none e (suc n) t = absurd (h.0 i (times_in l (omega arith)) (sym e))

      go : (b : Bool) → eqb i x ≡ b → times i l ≤ 1 → times i (x ∷ l) ≤ 1
      go true e later = rw e (omega (arith, none (eqb-true i x e) (times i l) refl))
      go false e later = rw e later

distinct_of : (l : List ℕ) → ((i : ℕ) → i ∈ l → times i l ≤ 1) → Distinct l
distinct_of [] h = tt
distinct_of (x ∷ l) h = (
  λ y m e. absurd (omega (arith, times_same y x l (sym e), in_times y l m, h y (Memᴰ.tail m))),
  distinct_of l (λ i m. omega (arith, times_more i x l, h i (Memᴰ.tail m))),
)

pub permutation_is : (L : ℕ) (l : List ℕ) → (is_permutation L l ≡ true) ↔ Permutes L l
unfolding is_permutation
permutation_is L l = (there, back)
  where
    one : ℕ → Bool
    one i = eqb (times i l) 1

    below : ℕ → Bool
    below v = ltb v L

    there : (every one (upward 0 L) && every below l) ≡ true → Permutes L l
    there h =
        let ones : (i : ℕ) → i < L → times i l ≡ 1 = λ i k. eqb-true (times i l) 1 (every_of one (upward 0 L) (first_of_lem _ _ h) i ((upward_are 0 L i).1 (omega arith, omega arith))) in
        let belows : (i : ℕ) → i ∈ l → i < L = λ i m. ltb-true i L (every_of below l (second_of (every one (upward 0 L)) _ h) i m) in
        record {
          all = λ i k. times_in i l (omega (arith, ones i k));
          distinct = distinct_of l (λ i m. omega (arith, ones i (belows i m)));
          inside = belows;
        }

    back : Permutes L l → (every one (upward 0 L) && every below l) ≡ true
    back p =
        ap₂ ◌&&◌
        (of_every one (upward 0 L) (λ i m. let k : i < L = omega (arith, (upward_are 0 L i).0 m) in eq-eqb (times i l) 1 (omega (arith, once i l p.distinct, in_times i l (p.all i k)))))
        (of_every below l (λ i m. lt-ltb i L (p.inside i m)))

pub permutation_length : (L : ℕ) (l : List ℕ) → Permutes L l → length l ≡ L
permutation_length L l p =
    same_length l (upward 0 L) p.distinct (upward_distinct 0 L) (λ i m. (upward_are 0 L i).1 (omega arith, omega (arith, p.inside i m))) (λ i m. p.all i (omega (arith, (upward_are 0 L i).0 m)))
    ∙ length_upward 0 L

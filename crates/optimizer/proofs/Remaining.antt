-- The candidates of a range, from its front: those that an iterator has left. Assumes nothing.
use Rattle.std.proofs.Common.{◌≡◌, ℕ, zero, suc, ◌+◌, ◌-◌, ◌<◌, ◌≤◌, List, [], ◌∷◌, ◌++◌, not, true, false, Bool, refl, ap, sym, arith, add-zero, length, set, length-append}
use mathlib.Core.List.Memᴰ
use Rattle.scope.specs.Lists.{upward, select, keep, holding, ◌∈◌}
use Rattle.scope.specs.Asked.{Shortest}
use Rattle.scope.specs.Candidates.{is_barred, first_row, range_size, candidates}
use Rattle.scope.proofs.Candidates.{candidates_are}
use Rattle.scope.proofs.Lists.{store_more, length_upward}
use Rattle.optimizer.specs.Remaining.{free_between, Each}
use Rattle.scope.specs.Allowed.{Allowed}

upward_front : (lo k : ℕ) → upward lo (suc k) ≡ lo ∷ upward (lo + 1) k
unfolding upward
upward_front lo zero = rw add-zero
upward_front lo (suc k) = let e : lo + suc k ≡ lo + 1 + k = omega arith in rw (upward_front lo k, e)

module _ (ps : List ℕ) (a e : ℕ) where
  pub none_left : e ≤ a → free_between ps a e ≡ []
  unfolding free_between upward select
  none_left h = let z : e - a ≡ 0 = omega arith in rw z

  front : (b : Bool) → is_barred ps a ≡ b → a < e → free_between ps a e ≡ elim b [ true ↦ free_between ps (a + 1) e | false ↦ a ∷ free_between ps (a + 1) e ]
  unfolding free_between select
  front true h l = let z : e - a ≡ suc (e - (a + 1)) = omega arith in rw (z, upward_front, h)
  front false h l = let z : e - a ≡ suc (e - (a + 1)) = omega arith in rw (z, upward_front, h)

  pub barred_passed : a < e → is_barred ps a ≡ true → free_between ps a e ≡ free_between ps (a + 1) e
  barred_passed l h = front true h l

  pub free_first : a < e → is_barred ps a ≡ false → free_between ps a e ≡ a ∷ free_between ps (a + 1) e
  free_first l h = front false h l

-- ---- the candidates are the allowed rows, and no more than the range has rows
each_member : (P : ℕ → Type 0) (l : List ℕ) → ((x : ℕ) → x ∈ l → P x) → Each P l
each_member P [] h = tt
each_member P (x ∷ l) h = (h x (Memᴰ.head refl), each_member P l (λ y m. h y (Memᴰ.tail m)))

pub each_candidate : (P : ℕ → Type 0) (s : Shortest) (ps : List ℕ) (a e : ℕ) → ((x : ℕ) → Allowed s ps a e x → P x) → Each P (candidates s ps a e)
each_candidate P s ps a e h = each_member P (candidates s ps a e) (λ x m. h x ((candidates_are s ps a e x).0 m))

few : (p : ℕ → Bool) (l : List ℕ) → length (select p l) ≤ length l
unfolding select
few p [] = omega arith
few p (x ∷ l) = go (p x) (few p l)
  where
    go : (b : Bool) → length (select p l) ≤ length l → length (keep b x (select p l)) ≤ length (x ∷ l)
    go true h = omega arith
    go false h = omega arith

pub candidates_few : (s : Shortest) (ps : List ℕ) (a e : ℕ) → length (candidates s ps a e) ≤ range_size s a e
unfolding candidates
candidates_few s ps a e = omega (arith, few (λ x. not (is_barred ps x)) (upward (first_row s a) (range_size s a e)), length_upward (first_row s a) (range_size s a e))

-- ---- one more is stored behind those in front
pub stored_next : (front out₀ out : List ℕ) (n x : ℕ) → n ≡ length front → out ≡ holding front out₀ → n < length out₀ → set out n x ≡ holding (front ++ (x ∷ [])) out₀
stored_next front out₀ out n x k h l =
    let one : length (front ++ (x ∷ [])) ≡ n + 1 = rw length-append (omega arith) in
    rw (one, h, ← k) (store_more front out₀ n x (sym k) l)

-- while one is left to come, there is room behind those in front
pub place_left : (front left next cands : List ℕ) (n x size : ℕ) → n ≡ length front → front ++ left ≡ cands → left ≡ x ∷ next → length cands ≤ size → n < size
place_left front left next cands n x size k e h l = let all = ap length e in let one = ap length h in omega (arith, simp length-append at all)

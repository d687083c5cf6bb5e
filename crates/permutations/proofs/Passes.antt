-- Passes over a list of permutations, one after another. Assumes nothing.
use Rattle.std.proofs.Common.{◌≡◌, ℕ, ◌+◌, ◌*◌, ◌<◌, ◌≤◌, Bool, true, false, not, ◌||◌, eqb, ltb, List, length, sym, refl, ap, ◌∙◌, true≢false, mul-le-mul_right, suc-mul, arith, length-drop, length-take-le, ltb-false, eqb-true}
use borrow.Author.Tests.{not-false}
use Rattle.scope.specs.Lists.{every, upward}
use Rattle.scope.specs.Permutations.{times, is_permutation, block, wrong_permutations}
use Rattle.scope.specs.Refusals.{most_permutations}
use Rattle.scope.proofs.Lists.{upward_are}
use Rattle.scope.proofs.Members.{second_of, every_of, of_every}
use Rattle.permutations.specs.Marks.{Apart, PassedAll, all_true}
use Rattle.scope.proofs.Candidates.{or_false}
use Rattle.permutations.proofs.Times.{refute, each_once}

-- permutation number q of P lies within the list
pub block_within : (q P L : ℕ) → q < P → q * L + L ≤ P * L
block_within q P L h = omega (arith, suc-mul q L, mul-le-mul_right L h)

module _ (P L : ℕ) (permutations : List ℕ) where
  -- each is as long as it should be
  pub block_length : length permutations ≡ P * L → (q : ℕ) → q < P → length (block L permutations q) ≡ L
  block_length e q h = length-take-le L _ (rw length-drop (omega (arith, block_within q P L h)))

  each_true : all_true P L permutations ≡ true → (q : ℕ) → q < P → is_permutation L (block L permutations q) ≡ true
  each_true t q h = every_of (λ p. is_permutation L (block L permutations p)) (upward 0 P) t q ((upward_are 0 P q).1 (omega arith, omega arith))

  pub block_inside : all_true P L permutations ≡ true → (q : ℕ) → q < P → every (λ v. ltb v L) (block L permutations q) ≡ true
  unfolding is_permutation
  block_inside t q h = second_of (every (λ i. eqb (times i (block L permutations q)) 1) (upward 0 L)) _ (each_true t q h)

  pub one_refuted : (q : ℕ) → q < P → is_permutation L (block L permutations q) ≡ false → all_true P L permutations ≡ false
  one_refuted q h e = refute _ (λ t. true≢false (sym (each_true t q h) ∙ e))

  -- all values below L stand apart in each, and so all are true permutations
  all_apart : length permutations ≡ P * L → ((q : ℕ) → q < P → Apart L 0 L (block L permutations q)) → all_true P L permutations ≡ true
  all_apart e apart = of_every _ _ (λ q m. let h : q < P = omega (arith, (upward_are 0 P q).0 m) in
      each_once (block L permutations q) L (block_length e q h) (apart q h).inside (λ v k. (apart q h).once v (omega arith) k))

  -- passes for every value tell
  pub passed_whole : length permutations ≡ P * L → (wrong : Bool) → PassedAll P L 0 L permutations wrong → wrong ≡ not (all_true P L permutations)
  passed_whole e true h = sym (ap not (h.refuted refl))
  passed_whole e false h = sym (ap not (all_apart e (h.apart refl)))

  -- of none there is nothing to refute
  pub none_true : P ≡ 0 → all_true P L permutations ≡ true
  none_true e = of_every _ _ (λ q m. absurd (omega (arith, e, (upward_are 0 P q).0 m)))

  pub one_wrong : {low high : ℕ} → all_true P L permutations ≡ false → PassedAll P L low high permutations true
  one_wrong e = record { refuted = λ t. e; apart = λ f. absurd (true≢false f) }

-- ---- what is not refused
module _ (P L : ℕ) (permutations : List ℕ) where
  pub right_all : wrong_permutations P L permutations ≡ false → (P ≤ most_permutations) × (length permutations ≡ P * L) × (all_true P L permutations ≡ true)
  unfolding wrong_permutations
  right_all e =
      let (rest, all) = or_false (ltb most_permutations P || not (eqb (length permutations) (P * L))) _ e in
      let (few, count) = or_false (ltb most_permutations P) _ rest in
      (ltb-false most_permutations P few, eqb-true (length permutations) (P * L) (not-false _ count), not-false _ all)

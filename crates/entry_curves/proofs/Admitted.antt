-- What a call that is not refused can hand to `gain_from_likelihoods` and `permutation_count`: all that they require. Assumes nothing.
use mathlib.Core.Path.{◌≡◌}
use mathlib.Core.Bool.{true, false, not, ◌&&◌}
use Prim.Native.Nat.{◌-◌, ◌*◌, ◌≤◌}
use native.Mathlib.Omega.{arith}
use borrow.Author.Tests.{ltb-false, leb-false, eqb-true, not-false}
use lib.Dec.{eqb}
use lib.ListN.{length}
use Rattle.scope.specs.Lists.{every}
use Rattle.scope.specs.Asked.{end_of}
use Rattle.scope.specs.Refusals.{first_of, most_length, most_curves, most_permutations}
use Rattle.scope.specs.Permutations.{wrong_permutations}
use Rattle.scope.specs.Calls.{wrong_lengths, first_length, CurveAsked, curve_tests, curve_refusal, PermutationAsked, permutation_tests}
use Rattle.scope.proofs.Candidates.{or_false, one_at_most, not_outside}
use Rattle.scope.proofs.Members.{first_of_lem, second_of}
use Rattle.control.proofs.Clean.{passed}
use Rattle.permutations.proofs.Passes.{right_all}

pub curve_admitted : (a : CurveAsked) → curve_refusal a ≡ 0 → (length a.l1 ≡ length a.l0) × (length a.l0 ≤ a.room)
unfolding curve_refusal wrong_lengths every
curve_admitted a e =
    let t = passed (curve_tests a) tt e in
    let (same, size) = or_false (not (eqb (length a.l0) (length a.l0) && (eqb (length a.l1) (length a.l0) && true))) _ t.1.1.0 in
    let second = second_of (eqb (length a.l0) (length a.l0)) _ (not-false _ same) in
    (eqb-true (length a.l1) (length a.l0) (first_of_lem _ true second), ltb-false a.room (length a.l0) t.1.0)

pub record Admitted (a : PermutationAsked) : Type 0 where
  pub count : (1 ≤ a.k) × (a.k ≤ most_curves)
  pub margin : (1 ≤ a.shortest.m) × (2 * a.shortest.m ≤ first_length a.curves)
  pub lengths : wrong_lengths (first_length a.curves) a.curves ≡ false
  pub true_ones : wrong_permutations a.P (first_length a.curves) a.permutations ≡ false
  pub few : a.P ≤ most_permutations

pub permutation_admitted : (a : PermutationAsked) → first_of (permutation_tests a) ≡ 0 → Admitted a
permutation_admitted a e =
    let t = passed (permutation_tests a) tt e in
    let long = leb-false (end_of a.shortest (first_length a.curves) - 0) (2 * a.shortest.m) t.1.1.1.0 in
    record {
      count = not_outside most_curves a.k t.1.1.1.1.1.0;
      margin = ((not_outside most_length a.shortest.m t.0).0, omega (arith, one_at_most a.shortest));
      lengths = t.1.1.1.1.1.1.0;
      true_ones = t.1.1.1.1.0;
      few = (right_all a.P (first_length a.curves) a.permutations t.1.1.1.1.0).0;
    }

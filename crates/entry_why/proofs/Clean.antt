-- What holds where a call for why is not refused. Assumes nothing.
use mathlib.Core.Path.{◌≡◌}
use Prim.Native.Nat.{◌≤◌, ◌<◌}
use borrow.Author.Tests.{ltb-false, leb-false}
use lib.ListN.{length, drop}
use Rattle.scope.specs.Refusals.{most_layers, first_of, wrong_layers}
use Rattle.scope.specs.Origin.{origin_room}
use Rattle.scope.specs.Draws.{most_stored}
use Rattle.scope.specs.Calls.{run_tests}
use Rattle.scope.specs.Why.{WhyAsked, why_tests, why_refusal}
use Rattle.scope.proofs.Candidates.{or_false}
use Rattle.control.specs.declared.refusal.Refusal.{Refusal}
use Rattle.control.specs.Refused.{number_of}
use Rattle.control.proofs.Clean.{passed, both_pass}
use Rattle.prepared.proofs.Clean.{by_first, run_clean, RunFits, run_fits}

-- a run's refusal is the call's
pub why_by_run : (a : WhyAsked) (r : Refusal) → number_of r ≡ first_of (run_tests a.matrix a.settings) → number_of r ≡ why_refusal a
unfolding why_refusal
why_by_run a r is = by_first (run_tests a.matrix a.settings) (drop 9 (why_tests a)) r is

pub record WhyClean (a : WhyAsked) : Type 0 where
  pub run : RunFits a.matrix a.settings a.sums a.records
  pub records_fit : most_stored a.settings.source ≤ a.records
  pub layers_few : length a.settings.source.layers ≤ most_layers
  pub text_fits : origin_room ≤ a.text
  pub row_within : a.row < a.matrix.n

pub why_clean : (a : WhyAsked) → why_refusal a ≡ 0 → WhyClean a
unfolding why_refusal wrong_layers
why_clean a e =
    let (run, rest) = both_pass (run_tests a.matrix a.settings) (drop 9 (why_tests a)) tt e in
    let p = passed (drop 9 (why_tests a)) tt rest in
    let fit = ltb-false a.records (most_stored a.settings.source) p.1.0 in
    record {
      run = run_fits a.matrix a.settings a.sums a.records run p.0 fit p.1.1.1.0;
      records_fit = fit;
      layers_few = ltb-false most_layers (length a.settings.source.layers) (or_false _ _ (run_clean a.matrix a.settings run).layers).0;
      text_fits = ltb-false a.text origin_room p.1.1.0;
      row_within = leb-false a.matrix.n a.row p.1.1.1.1.0;
    }

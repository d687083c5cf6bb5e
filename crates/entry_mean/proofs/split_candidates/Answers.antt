-- `split_candidates` meets its contract: the refusal, and nothing is told; or the candidates.
use Rattle.std.proofs.Common.{◌≡◌, Err, sym, rules}
use Rattle.entry_mean.proofs.Clean.{candidates_clean, candidates_refused, candidates_given}
use Rattle.entry_mean.proofs.split_candidates.Goals as goal

pub returns-in_err-candidates_refusal : goal.returns-in_err-candidates_refusal
returns-in_err-candidates_refusal c =
    let bad : c.from_residual.result ≡ Err c.in_err-candidates_refusal.field-0.0 = search rules in
    rw bad (candidates_refused _ c.args.rows.now c.in_err-candidates_refusal.field-0.0 c.in_err-candidates_refusal.ensures)

pub split_candidates-requires-clause-start_le_stop : goal.split_candidates-requires-clause-start_le_stop
split_candidates-requires-clause-start_le_stop c = let f = candidates_clean _ (sym c.in_ok-candidates_refusal.ensures) in (f.ordered, f.within, f.length_fits)

pub split_candidates-requires-clause-stop_in_bounds : goal.split_candidates-requires-clause-stop_in_bounds
split_candidates-requires-clause-stop_in_bounds c = (candidates_clean _ (sym c.in_ok-candidates_refusal.ensures)).fits

pub returns : goal.returns
returns c = candidates_given _ c.args.rows.now c.split_candidates.result c.in_ok-candidates_refusal.ensures c.split_candidates.ensures.count c.split_candidates.ensures.rows

-- `find_best_split` meets its contract: the refusal, and nothing is told; or the best split, with the sums left.
use Rattle.std.proofs.Common.{sym, ap, ◌∙◌, arith}
use lib.Seq.{length-take-le}
use Rattle.scope.specs.Refusals.{refused}
use Rattle.control.specs.Settings.{matrix_of}
use Rattle.optimizer.specs.Records.{best_split_told}
use Rattle.change_in_mean.proofs.Room.{sums_part, row_within}
use Rattle.entry_mean.proofs.Clean.{search_clean, search_refused, search_given}
use Rattle.entry_mean.proofs.find_best_split.Goals as goal

pub returns-in-Err : goal.returns-in-Err
returns-in-Err c =
    let left = search_refused _ c.args.sums.now c.in-Err.refusal c.in-Err.ensures in
    record { answer = ap refused c.number.ensures ∙ left.answer; sums = left.sums }

pub calculate_cumsum-requires : goal.calculate_cumsum-requires
calculate_cumsum-requires c = let f = search_clean _ (sym c.in_default.ensures) in (f.sums.shape.columns.0, omega (arith, f.sums.total, f.sums.fits))

pub sums_len-len-requires : goal.sums_len-len-requires
sums_len-len-requires c = let f = search_clean _ (sym c.in_default.ensures) in (f.sums.shape.rows.1, f.sums.shape.columns.1)

pub slice_bounds-gain-end : goal.slice_bounds-gain-end
slice_bounds-gain-end c = let f = search_clean _ (sym c.in_default.ensures) in omega (arith, f.sums.fits)

pub slice_bounds-gain-end-2 : goal.slice_bounds-gain-end-2
slice_bounds-gain-end-2 c = let f = search_clean _ (sym c.in_default.ensures) in sym (length-take-le _ _ (omega (arith, f.sums.fits)))

pub find_best_split-requires-clause-start_le_stop : goal.find_best_split-requires-clause-start_le_stop
find_best_split-requires-clause-start_le_stop c = let f = search_clean _ (sym c.in_default.ensures) in (f.seg.0, omega (arith, f.seg, f.sums.shape.rows), f.length_fits)

pub find_best_split-requires-clause-d_in_bounds : goal.find_best_split-requires-clause-d_in_bounds
find_best_split-requires-clause-d_in_bounds c =
    let f = search_clean _ (sym c.in_default.ensures) in
    let a = c.args in
    rw c.sums_len-len.ensures (row_within a.segment.stop.0 a.matrix.n a.matrix.d _ f.seg.1 (omega (arith, f.sums.fits)))

pub returns : goal.returns
returns c =
    let f = search_clean _ (sym c.in_default.ensures) in
    let sums = c.calculate_cumsum.ensures in
    search_given _ c.args.sums.now (best_split_told c.find_best_split.result) f c.in_default.ensures sums (sums_part (matrix_of c.args.matrix) _ f.sums c.args.sums.now c.sums_len-len.ensures sums) c.find_best_split.ensures

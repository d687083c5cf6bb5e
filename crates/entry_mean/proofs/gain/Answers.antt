-- `gain` meets its contract: the refusal, and nothing is told; or the gain, with the sums left.
use Rattle.std.proofs.Common.{◌≡◌, Err, sym, arith, rules}
use lib.Seq.{length-take-le}
use Rattle.control.specs.Settings.{matrix_of}
use Rattle.change_in_mean.proofs.Room.{sums_part, row_within}
use Rattle.entry_mean.proofs.Clean.{gain_clean, gain_refused, gain_given}
use Rattle.entry_mean.proofs.gain.Goals as goal

pub returns-in_err-gain_refusal : goal.returns-in_err-gain_refusal
returns-in_err-gain_refusal c =
    let bad : c.from_residual.result ≡ Err c.in_err-gain_refusal.field-0.0 = search rules in
    rw bad (gain_refused _ c.args.sums.now c.in_err-gain_refusal.field-0.0 c.in_err-gain_refusal.ensures)

pub calculate_cumsum-requires : goal.calculate_cumsum-requires
calculate_cumsum-requires c = let f = gain_clean _ (sym c.in_ok-gain_refusal.ensures) in (f.sums.shape.columns.0, omega (arith, f.sums.total, f.sums.fits))

pub sums_len-len-requires : goal.sums_len-len-requires
sums_len-len-requires c = let f = gain_clean _ (sym c.in_ok-gain_refusal.ensures) in (f.sums.shape.rows.1, f.sums.shape.columns.1)

pub slice_bounds-gain-end : goal.slice_bounds-gain-end
slice_bounds-gain-end c = let f = gain_clean _ (sym c.in_ok-gain_refusal.ensures) in omega (arith, f.sums.fits)

pub slice_bounds-gain-end-2 : goal.slice_bounds-gain-end-2
slice_bounds-gain-end-2 c = let f = gain_clean _ (sym c.in_ok-gain_refusal.ensures) in sym (length-take-le _ _ (omega (arith, f.sums.fits)))

pub gain-requires : goal.gain-requires
gain-requires c =
    let f = gain_clean _ (sym c.in_ok-gain_refusal.ensures) in
    let a = c.args in
    (f.at.0, f.at.1, omega (arith, f.seg, f.sums.shape.rows), rw c.sums_len-len.ensures (row_within a.segment.stop.0 a.matrix.n a.matrix.d _ f.seg.1 (omega (arith, f.sums.fits))))

pub returns : goal.returns
returns c =
    let f = gain_clean _ (sym c.in_ok-gain_refusal.ensures) in
    let sums = c.calculate_cumsum.ensures in
    gain_given _ c.args.sums.now c.gain.result f.sums c.in_ok-gain_refusal.ensures sums (sums_part (matrix_of c.args.matrix) _ f.sums c.args.sums.now c.sums_len-len.ensures sums) c.gain.ensures

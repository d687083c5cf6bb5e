-- `fed_tree` meets its contract: a refusal is handed on; else what is prepared is ready to be grown, and growing it leaves what the call tells.
use Rattle.std.proofs.Common.{◌≡◌, refl, rules, Err, length-take-le, sym}
use Rattle.entry_tree.proofs.Whole.{fed_refused, fed_within, fed_readied, fed_left}
use Rattle.entry_tree.proofs.fed_tree.Goals as goal

pub returns-in_err-prepared : goal.returns-in_err-prepared
returns-in_err-prepared c =
    let is : c.from_residual.result ≡ Err c.in_err-prepared.field-0.0 = search rules in
    rw is (fed_refused _ _ _ _ _ _ c.in_err-prepared.ensures)

pub slice_bounds-gain-end : goal.slice_bounds-gain-end
slice_bounds-gain-end c = sym (length-take-le _ _ (fed_within _ _ _ _ _ _ c.in_ok-prepared.ensures))

pub binary_segmentation-counts-requires : goal.binary_segmentation-counts-requires
binary_segmentation-counts-requires c = fed_readied _ _ _ _ _ _ _ c.in_ok-prepared.ensures refl c.prepare.auto.rows c.prepare.auto.gains

pub returns : goal.returns
returns c = fed_left _ _ _ _ _ _ _ c.in_ok-prepared.ensures refl _ _ c.binary_segmentation-counts.ensures

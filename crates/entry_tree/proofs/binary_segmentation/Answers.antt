-- `binary_segmentation` meets its contract: a refusal is handed on; else what is prepared is ready to be grown, and growing it leaves what the call tells.
use Rattle.std.proofs.Common.{◌≡◌, refl, arith, rules, Err, length-take-le, sym}
use Rattle.entry_tree.proofs.Whole.{tree_refused, tree_within, tree_readied, tree_left}
use Rattle.entry_tree.proofs.binary_segmentation.Goals as goal

pub returns-in_err-prepared : goal.returns-in_err-prepared
returns-in_err-prepared c =
    let is : c.from_residual.result ≡ Err c.in_err-prepared.field-0.0 = search rules in
    rw is (tree_refused _ _ _ _ _ c.in_err-prepared.ensures)

pub slice_bounds-gain-end : goal.slice_bounds-gain-end
slice_bounds-gain-end c = let w = tree_within _ _ _ _ _ c.in_ok-prepared.ensures in omega (arith, w, c.prepare.auto.sums)

pub slice_bounds-gain-end-2 : goal.slice_bounds-gain-end-2
slice_bounds-gain-end-2 c =
    let w = tree_within _ _ _ _ _ c.in_ok-prepared.ensures in
    sym (length-take-le _ _ (omega (arith, w, c.prepare.auto.sums)))

pub binary_segmentation-counts-requires : goal.binary_segmentation-counts-requires
binary_segmentation-counts-requires c = tree_readied _ _ _ _ _ _ c.in_ok-prepared.ensures refl c.prepare.auto.rows c.prepare.auto.gains

pub returns : goal.returns
returns c = tree_left _ _ _ _ _ _ c.in_ok-prepared.ensures refl _ _ c.binary_segmentation-counts.ensures

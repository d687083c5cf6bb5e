-- `wrong_layers` meets its contract: too many, or a value that is none.
use Rattle.std.proofs.Common.{rules, ◌≡◌, true, false, not, ap}
use Rattle.std.proofs.lemmas.Iterator.{cases_from_all, YieldsList-from_slice}
use borrow.Author.Tests.{tests, lt-ltb, le-ltb}
use lib.ListN.{length}
use Rattle.scope.specs.Refusals.{is_layer, wrong_layers}
use Rattle.control.proofs.Values.{every_cases}
use Rattle.layers.proofs.wrong_layers.Goals as goal

pub returns-then-layers-gt-MOST_LAYERS : goal.returns-then-layers-gt-MOST_LAYERS
unfolding wrong_layers
returns-then-layers-gt-MOST_LAYERS c = rw (lt-ltb _ _ c.if-layers-gt-MOST_LAYERS.true)

pub returns-else-layers-gt-MOST_LAYERS : goal.returns-else-layers-gt-MOST_LAYERS
unfolding wrong_layers
returns-else-layers-gt-MOST_LAYERS c =
    rw (le-ltb 64 (length c.args.layers.now) c.if-layers-gt-MOST_LAYERS.false)
    (ap not (every_cases is_layer c.args.layers.now c.all.result (cases_from_all _ _ _ (λ x. is_layer x ≡ true) (λ x. is_layer x ≡ false) c.all.ensures.ran (YieldsList-from_slice c.args.layers.now cc) (λ x q k. search (rules, tests)) (λ x q k. search (rules, tests)))))

-- `all_finite` meets its contract.
use Rattle.std.proofs.Common.{rules, ◌≡◌, true, false}
use Rattle.std.proofs.lemmas.Iterator.{cases_from_all, YieldsList-from_slice}
use borrow.Author.Tests.{tests}
use Rattle.scope.specs.Floats.{is_finite}
use Rattle.control.proofs.Values.{every_cases}
use Rattle.control.proofs.all_finite.Goals as goal

pub returns : goal.returns
returns c = every_cases is_finite c.args.values.now c.all.result (cases_from_all _ _ _ (λ x. is_finite x ≡ true) (λ x. is_finite x ≡ false) c.all.ensures.ran (YieldsList-from_slice c.args.values.now cc) (λ x q k. search (rules, tests)) (λ x q k. search (rules, tests)))

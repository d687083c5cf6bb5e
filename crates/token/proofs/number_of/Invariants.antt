-- What the loop of `number_of` keeps.
use Rattle.std.proofs.Common.{◌≡◌, take}
use Rattle.std.specs.List.{fold}
use Rattle.token.specs.Walk.{digit_more}
use Rattle.token.specs.declared.Digits.TheVariants.{Empty}
use Rattle.token.proofs.number_of.Given as goal

abbrev pub invariant-loop-b : goal.invariant-loop-b
invariant-loop-b l = l.digits ≡ fold digit_more Empty (take l.b-index l.field)

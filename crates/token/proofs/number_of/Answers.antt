-- `number_of` meets its contract: its digits are the walk over the field.
use Rattle.std.proofs.Common.{◌∙◌, ap, arith, take_all}
use Rattle.std.specs.List.{fold}
use Rattle.token.specs.Walk.{digit_more, as_number}
use Rattle.token.specs.declared.Digits.TheVariants.{Empty}
use Rattle.token.proofs.Numbers.{walked_number}
use Rattle.token.proofs.number_of.Goals as goal

pub returns : goal.returns
returns c =
    let field = c.args.field.now in
    c.value.ensures ∙ ap as_number (c.loop-b.invariant ∙ ap (fold digit_more Empty) (take_all c.loop-b.b-index field (omega arith))) ∙ walked_number field

-- `put_decimal` meets its contract: the fewest digits of a number below 2^64 are those that the definitions write.
use Rattle.std.proofs.Common.{◌∙◌, ap, arith, length}
use Rattle.report.proofs.Texts.{decimal_fewest, decimal_most}
use Rattle.report.proofs.Page.put_decimal.Goals as goal

pub put_text-requires : goal.put_text-requires
put_text-requires c =
    let d = c.decimal-k in
    omega (arith, ap length (d.ensures.digits ∙ decimal_fewest d.result c.args.v d.ensures.len (omega arith)))

pub returns : goal.returns
returns c =
    let d = c.decimal-k in
    let text = d.ensures.digits ∙ decimal_fewest d.result c.args.v d.ensures.len (omega arith) in
    record { written = rw (← text) c.put_text.ensures; most = omega (arith, ap length text, decimal_most c.args.v) }

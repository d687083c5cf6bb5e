-- `put_number` meets its contract: the digits, then the byte.
use Rattle.std.proofs.Common.{arith}
use Rattle.report.proofs.Pages.{put_then}
use Rattle.report.proofs.Texts.{decimal_most}
use Rattle.report.proofs.Page.put_number.Goals as goal

pub put_decimal-requires : goal.put_decimal-requires
put_decimal-requires c = omega (arith, decimal_most c.args.v)

pub returns-clause-written : goal.returns-clause-written
returns-clause-written c = put_then c.put_decimal.ensures.written c.put_byte.ensures

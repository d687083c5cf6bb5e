-- `put_last_origin` meets its contract: the origin, then LF.
use Rattle.std.proofs.Common.{arith}
use Rattle.scope.specs.Text.{line}
use Rattle.optimizer.specs.Records.{to_origin}
use Rattle.report.proofs.Texts.{origin_most}
use Rattle.report.proofs.Pages.{put_then}
use Rattle.report.proofs.Page.put_last_origin.Goals as goal

pub put_origin-requires : goal.put_origin-requires
put_origin-requires c = omega (arith, origin_most (to_origin c.args.origin))

pub returns-clause-written : goal.returns-clause-written
unfolding line
returns-clause-written c = put_then c.put_origin.ensures.written c.put_byte.ensures

-- `answer` meets its contract: what is written is right.
use Rattle.std.proofs.Common.{arith}
use Rattle.answers.proofs.Said.{written_said, text_some}
use Rattle.answers.proofs.answer.Goals as goal

pub returns : goal.returns
returns c =
    let put = c.put_answer.ensures in
    let w = written_said c.args.read c.args.cells.now c.args.forbidden.now c.args.out.now _ _ put.written.written (omega arith) in
    let some = text_some c.args.read c.args.cells.now c.args.forbidden.now in
    record { written = w.0; said = w.1.0; least = omega (arith, put.written.written.end_is); most = w.1.1 }

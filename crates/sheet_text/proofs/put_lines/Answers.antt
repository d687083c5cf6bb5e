-- `put_lines` meets its contract: a line for each row so far.
use Rattle.std.proofs.Common.{arith}
use Rattle.stored.specs.Records.{records_of}
use Rattle.report.proofs.Pages.{put_none, put_then}
use Rattle.sheet_text.specs.Lines.{lines_of}
use Rattle.sheet_text.proofs.Looked.{lines_next, lines_all}
use Rattle.sheet_text.proofs.put_lines.Goals as goal

pub loop-row-init : goal.loop-row-init
unfolding lines_of
loop-row-init c = record { written = put_none; most = omega arith }

pub loop-row-preserved : goal.loop-row-preserved
loop-row-preserved c =
    let so_far = c.loop-row.invariant in
    let line = c.put_line.ensures in
    record {
      written = rw (← lines_next (records_of c.args.records) c.args.cuts.now c.loop-row.row-index (omega arith)) (put_then so_far.written line.written);
      most = omega arith;
    }

pub returns : goal.returns
returns c =
    let all = lines_all (records_of c.args.records) c.args.cuts.now c.loop-row.row-index (omega arith) in
    record { written = rw (← all) c.loop-row.invariant.written; most = omega arith }

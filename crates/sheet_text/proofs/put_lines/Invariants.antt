-- What the loop of `put_lines` keeps: the lines of the rows so far stand, in at most `line_room` bytes each.
use Rattle.std.proofs.Common.{◌+◌, ◌*◌, ◌≤◌, take}
use Rattle.stored.specs.Records.{records_of}
use Rattle.report.specs.Fields.{line_room}
use Rattle.report.specs.Written.{Put}
use Rattle.sheet_text.specs.Lines.{lines_of}
use Rattle.sheet_text.proofs.put_lines.Given as goal

abbrev pub invariant-loop-row : goal.invariant-loop-row
invariant-loop-row l = record {
  written : Put l.initial.page (lines_of (records_of l.records) (take l.row-index l.cuts)) l.page;
  most : l.page.at ≤ l.initial.page.at + line_room * l.row-index;
}

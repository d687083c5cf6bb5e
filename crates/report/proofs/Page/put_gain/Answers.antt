-- `put_gain` meets its contract: the word and the fields, one after another.
use Rattle.std.specs.Float.{binary64}
use Rattle.std.specs.Float.Ieee.{to_bits}
use Rattle.scope.specs.Text.{decimal, hex_of}
use Rattle.report.specs.Fields.{ended_by}
use Rattle.report.proofs.Pages.{put_then, field_then}
use Rattle.report.proofs.Page.put_gain.Goals as goal

pub returns-clause-written : goal.returns-clause-written
unfolding ended_by
returns-clause-written c =
    let gain = rw c.bits_of.ensures at c.put_hex.ensures.written in
    put_then c.put_text.ensures
    (field_then (decimal c.args.row.0) c.put_number.ensures.written (field_then (hex_of 16 (to_bits binary64 c.args.gain)) (put_then gain c.put_byte.ensures) c.put_ends.ensures.written))

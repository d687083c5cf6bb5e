-- `store_segment` meets its contract: the search's record, or none.
use Rattle.std.proofs.Common.{refl}
use Rattle.scope.specs.Gain.{gain_of}
use Rattle.control.specs.Settings.{shortest_of}
use Rattle.optimizer.specs.Records.{to_record}
use Rattle.optimizer.proofs.Answered.{record_some, refused_none}
use Rattle.stored.proofs.Flat.{put_none}
use Rattle.segmentation.proofs.store_segment.Goals as goal

pub returns-in_default : goal.returns-in_default
returns-in_default c =
    let s = c.args in
    rw (refused_none (gain_of s.gain.sums.now s.gain.d) (shortest_of s.allowed.shortest) s.allowed.forbidden.now s.segment.start.0 s.segment.stop.0 _ c.in_default.ensures)
    (put_none s.at s.rows.now s.gains.now)

pub returns : goal.returns
returns c =
    let s = c.args in
    let put = c.put_record.ensures in
    let found = record_some (gain_of s.gain.sums.now s.gain.d) (shortest_of s.allowed.shortest) s.allowed.forbidden.now s.segment.start.0 s.segment.stop.0 (to_record c.in-Ok.found) c.in-Ok.ensures in
    rw (found, ← c.with_origin.ensures) (record { rows_hold = put.rows; gains_hold = put.gains; told = refl })

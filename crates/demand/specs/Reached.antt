-- The segments that are reached, and the cuts: what "is cut there" means, with no tree. Assumes nothing.
use Rattle.std.specs.Prelude.{◌≡◌, Bool, true, false, ℕ, ◌≤◌}
use Rattle.std.proofs.Math.Option.{some}
use Rattle.std.specs.Float.Ieee.{lt}
use Rattle.scope.specs.Allowed.{Allowed}
use Rattle.scope.specs.Lists.{◌∈◌}
use Rattle.scope.specs.Origin as origin
use Rattle.scope.specs.Grid.{Record}
use Rattle.scope.specs.Layers.{StoredSegment, labelled}
use Rattle.scope.specs.Tree.{Run, direct, Verdict, uncut, cut, stored_records, verdict}

-- what becomes of [start, stop): the verdict where the records are those of the stored segments alone
unfoldable pub ruling : Run → ℕ → ℕ → Verdict
ruling q start stop = verdict q (stored_records q) start stop

abbrev pub is_cut : Verdict → Bool
is_cut (uncut o) = false
is_cut (cut r) = true

-- the whole run is reached, and so are both parts of a reached segment that is cut
pub data Reached (q : Run) : ℕ → ℕ → Type 0 where
  run : Reached q 0 q.n
  left : {start stop : ℕ} {r : Record} → Reached q start stop → ruling q start stop ≡ cut r → Reached q start r.split
  right : {start stop : ℕ} {r : Record} → Reached q start stop → ruling q start stop ≡ cut r → Reached q r.split stop

-- r is the chosen record of a reached segment that is cut
pub record Chosen (q : Run) (r : Record) : Type 0 where
  pub start : ℕ
  pub stop : ℕ
  pub reached : Reached q start stop
  pub is : ruling q start stop ≡ cut r

-- some reached segment is cut at the row x
pub record CutAt (q : Run) (x : ℕ) : Type 0 where
  pub by : Record
  pub chosen : Chosen q by
  pub at : x ≡ by.split

-- what holds of the chosen record r of a cut of [start, stop): it lies inside; its split is an allowed row of its own ends, and its gain is the gain
-- there; and that gain exceeds the threshold
pub record CutBy (q : Run) (start stop : ℕ) (r : Record) : Type 0 where
  pub left : start ≤ r.start
  pub right : r.stop ≤ stop
  pub row : Allowed q.shortest q.forbidden r.start r.stop r.split
  pub own : r.gain ≡ q.gain r.start r.stop r.split
  pub exceeds : lt q.threshold r.gain ≡ true

-- where the record r that [start, stop) chooses comes from, as its origin tells: it is the segment's own; or that of a stored segment inside, with its origin
pub data CameFrom (q : Run) (start stop : ℕ) (r : Record) : Type 0 where
  itself : r.origin ≡ origin.direct → direct q start stop ≡ some r → CameFrom q start stop r
  within : {s : StoredSegment}
      → s ∈ q.segments
      → start ≤ s.start
      → s.stop ≤ stop
      → labelled s.origin (direct q s.start s.stop) ≡ some r
      → CameFrom q start stop r

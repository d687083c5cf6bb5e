-- A call for the tree, before it is grown: what it is asked, and what is left where nothing is refused.
use Rattle.std.specs.Prelude.{◌≡◌, List, [], ℕ, Float, length, Result}
use Rattle.scope.specs.Asked.{Matrix, Settings}
use Rattle.scope.specs.Refusals.{unless, told_unless}
use Rattle.scope.specs.Grid.{Record}
use Rattle.scope.specs.Tree.{stored_records}
use Rattle.scope.specs.Calls.{sums_of, sums_room, TreeAsked, run_of, tree_refusal}
use Rattle.scope.specs.Calls as scope
use Rattle.scope.specs.Feed.{State, sums_in, fed_run, fed_refusal}
use Rattle.control.specs.declared.refusal.Refusal.{Refusal}
use Rattle.control.specs.Refused.{told}
use Rattle.stored.specs.Flat.{record_room}
use Rattle.segmentation.specs.Segments.{Slices, Held}
use Rattle.prepared.specs.declared.Room.{Room}
use Rattle.prepared.specs.declared.Prepared.{Prepared}

-- the code's room, as the definitions'
abbrev pub room_of : Room → scope.Room
room_of r = record { sums = r.sums; records = r.records; nodes = r.nodes; cuts = r.cuts }

-- the room where these slices are lent, and others for so many nodes and cuts
abbrev pub room_in : Slices → ℕ → ℕ → scope.Room
room_in lent nodes cuts = record { sums = length lent.sums; records = record_room lent.rows lent.gains; nodes = nodes; cuts = cuts }

abbrev pub tree_asked : Matrix → Settings → Slices → ℕ → ℕ → TreeAsked
tree_asked x s lent nodes cuts = record { matrix = x; settings = s; room = room_in lent nodes cuts }

-- how many sums stand, and how many records
abbrev pub standing_of : Prepared → ℕ × ℕ
standing_of p = (p.len, p.stored)

-- where this number applies, or 0: the slices hold what is told of the sums, of which so many stand, and the stored segments' records
pub record Prepares (standing : ℕ) (sums : List Float) (records : List Record) (number : ℕ) (r : Result Prepared Refusal) (before after : Slices) : Type 0 where
  pub answer : told standing_of r ≡ unless number (standing, length records)
  pub held : Held (told_unless number sums) (told_unless number records) before after

-- a call for the tree
abbrev pub TreePrepares : TreeAsked → Result Prepared Refusal → Slices → Slices → Type 0
TreePrepares a r before after = Prepares (sums_room a.matrix) (sums_of a.matrix) (stored_records (run_of a.matrix a.settings)) (tree_refusal a) r before after

-- one for the later sheet: nothing is told to the sums
abbrev pub FedPrepares : State → Settings → ℕ → ℕ → Result Prepared Refusal → Slices → Slices → Type 0
FedPrepares st s nodes cuts r before after = Prepares (sums_in st) [] (stored_records (fed_run st s before.sums)) (fed_refusal st s (room_in before nodes cuts)) r before after

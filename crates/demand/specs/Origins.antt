-- Where cuts come from: what holds of `direct` and of every stored segment's origin holds of each origin that is told. proofs/Origins.antt has both records, for
-- every run with m and n at least 1. Assumes nothing.
use Rattle.std.specs.Prelude.{◌≡◌, [], ℕ, ◌^◌, ◌≤◌, ◌<◌, length}
use Rattle.std.proofs.Math.Option.{some}
use Rattle.scope.specs.Lists.{◌∈◌}
use Rattle.scope.specs.Asked.{Matrix, Settings}
use Rattle.scope.specs.Refusals.{most_layers}
use Rattle.scope.specs.Origin.{Origin, direct, origin_room}
use Rattle.scope.specs.Grid.{Record}
use Rattle.scope.specs.Layers.{Segment, StoredSegment}
use Rattle.scope.specs.Tree.{Run, stored_records, choice, tree_of, cuts}
use Rattle.scope.specs.Calls.{run_of}
use Rattle.scope.specs.Why.{cut, text_of, why_of}

pub record Origins (q : Run) : Type 1 where
  -- a choice's origin
  pub choices : (P : Origin → Type 0) → P direct → ((s : StoredSegment) → s ∈ q.segments → P s.origin)
      → (start stop : ℕ) (r : Record) → choice q (stored_records q) start stop ≡ some r → P r.origin
  -- the origin that is told of a row that is a cut
  pub told : (P : Origin → Type 0) → P direct → ((s : StoredSegment) → s ∈ q.segments → P s.origin)
      → (x : ℕ) → x < q.n → (g : Segment) (o : Origin) → why_of q x ≡ cut g o → P o
  -- so where nothing is stored each cut is direct
  pub sheet_direct : q.segments ≡ [] → (r : Record) → r ∈ cuts (tree_of q) → r.origin ≡ direct
  pub told_direct : q.segments ≡ [] → (x : ℕ) → x < q.n → (g : Segment) (o : Origin) → why_of q x ≡ cut g o → o ≡ direct

-- "in 25 lent bytes or more": what is told of a row has room, as at most 64 layers are admitted and a draw's number has at most 20 digits
abbrev pub TextRoom : Matrix → Settings → Type 0
TextRoom x s = length s.source.layers ≤ most_layers → length s.source.draws ≤ 2 ^ 64 → (row : ℕ) → row < x.n → length (text_of (why_of (run_of x s) row)) ≤ origin_room

-- A line field by field: what the code keeps of it.
use Rattle.std.specs.Prelude.{ℕ, ◌+◌, ◌*◌, Bool, true, false, cond, not, ◌||◌, List, ℤ, nat_le, nat_lt, slice_set, Float}
use Rattle.std.proofs.Math.Option.{Option, none, some}
use Rattle.std.specs.Float.Ieee.{of_int}
use Rattle.std.specs.Float.{binary64}
use Rattle.scope.specs.Text.{positive, negative}
use Rattle.scope.specs.Program.{is_reading}
use Rattle.token.specs.declared.Token.{Token}
use Rattle.token.specs.declared.Word.{Word}
use Rattle.token.specs.declared.Word.TheVariants.{Empty, C, Cf, Cfg, N, No, R, Ro, Row, Other}
use Rattle.token.specs.Walk.{as_plain, as_number, as_cell, as_bits}
use Rattle.line.specs.declared.Number.{Number}
use Rattle.line.specs.declared.Number.TheVariants.{D, M, A, B}
use Rattle.line.specs.declared.Place.{Place}
use Rattle.line.specs.declared.Place.TheVariants.{Threshold, Cells, Malformed}
use Rattle.line.specs.declared.Given.{Given}
use Rattle.line.specs.declared.Event.{Event}
use Rattle.line.specs.declared.Event.TheVariants.{Nothing, Cell, Pair}
use Rattle.line.specs.declared.Ended.{Ended}

-- one more, up to a top
abbrev pub up_to : ℕ → ℕ → ℕ
up_to top k = cond (nat_lt k top) (k + 1) k

-- before the first line
abbrev pub nothing : Given
nothing = record { n = 0; d = 0; m = 0; threshold = 0; pairs = 0; cells = 0; wide = false }

-- ---- a field has ended
abbrev pub onward : Place → Given → Ended
onward p g = record { place = p; given = g; event = Nothing }

abbrev pub malformed : Given → Ended
malformed g = onward Malformed g

abbrev pub with_cfg : Given → ℕ → ℕ → ℕ → ℕ → Given
with_cfg g n d m t = record { n = n; d = d; m = m; threshold = t; pairs = g.pairs; cells = g.cells; wide = g.wide }

abbrev pub with_pair : Given → Given
with_pair g = record { n = g.n; d = g.d; m = g.m; threshold = g.threshold; pairs = up_to 65 g.pairs; cells = g.cells; wide = g.wide }

abbrev pub with_cell : Given → Bool → Given
with_cell g w = record { n = g.n; d = g.d; m = g.m; threshold = g.threshold; pairs = g.pairs; cells = up_to 2049 g.cells; wide = g.wide || w }

abbrev pub place_of : Word → Place
place_of Empty = Malformed
place_of C = Malformed
place_of Cf = Malformed
place_of Cfg = Place.Number Number.N
place_of N = Malformed
place_of No = Place.Number A
place_of R = Malformed
place_of Ro = Malformed
place_of Row = Place.Row
place_of Other = Malformed

abbrev pub number_at : Number → Given → ℕ → Ended
number_at Number.N g v = onward (Place.Number D) (with_cfg g v g.d g.m g.threshold)
number_at D g v = onward (Place.Number M) (with_cfg g g.n v g.m g.threshold)
number_at M g v = onward Threshold (with_cfg g g.n g.d v g.threshold)
number_at A g v = onward (Place.Number (B v)) g
number_at (B a) g v = record { place = Place.No; given = with_pair g; event = Pair g.pairs a v }

abbrev pub number_end : Number → Given → Option ℕ → Ended
number_end x g none = malformed g
number_end x g (some v) = number_at x g v

abbrev pub bits_end : Given → Option ℕ → Ended
bits_end g none = malformed g
bits_end g (some t) = onward Place.Cfg (with_cfg g g.n g.d g.m t)

abbrev pub cell_at : ℕ → Given → Bool → Float → Ended
cell_at k g w x = record { place = Cells (k + 1); given = with_cell g w; event = Cell g.cells x }

abbrev pub cell_end : ℕ → Given → Option ℤ → Ended
cell_end k g none = malformed g
cell_end k g (some z) = cell_at k g (not (is_reading z)) (of_int binary64 z)

-- what digits behind a minus, or not, are
abbrev pub signed : Bool → Option ℕ → Option ℤ
signed true o = negative o
signed false o = positive o

-- "a `row` has 1 to 64 cells"
abbrev pub cell_after : ℕ → Given → Option ℤ → Ended
cell_after k g c = cond (nat_lt k 64) (cell_end k g c) (malformed g)

-- what a field is, as each thing that it may be
pub record Reads : Type 0 where
  pub word : Word
  pub number : Option ℕ
  pub cell : Option ℤ
  pub bits : Option ℕ

abbrev pub reads : Token → Reads
reads t = record { word = t.word; number = as_number (as_plain t.cell); cell = as_cell t.cell; bits = as_bits t.hex }

abbrev pub ended : Place → Given → Reads → Ended
ended Place.Word g r = onward (place_of r.word) g
ended (Place.Number x) g r = number_end x g r.number
ended Threshold g r = bits_end g r.bits
ended Place.Row g r = cell_end 0 g r.cell
ended (Cells k) g r = cell_after k g r.cell
ended Place.Cfg g r = malformed g
ended Place.No g r = malformed g
ended Malformed g r = malformed g

-- ---- what is stored: the first 2,048 cells and the first 64 pairs, where there is room
abbrev pub stored_cell : ℕ → Float → List Float → List Float
stored_cell k x l = cond (nat_le 2048 k) l (slice_set l k x)

abbrev pub stored_pair : ℕ → ℕ → ℕ → List ℕ → List ℕ
stored_pair k a b l = cond (nat_le 64 k) l (slice_set (slice_set l (2 * k) a) (2 * k + 1) b)

abbrev pub stored_cells : Event → List Float → List Float
stored_cells Nothing l = l
stored_cells (Cell k x) l = stored_cell k x l
stored_cells (Pair k a b) l = l

abbrev pub stored_forbidden : Event → List ℕ → List ℕ
stored_forbidden Nothing l = l
stored_forbidden (Cell k x) l = l
stored_forbidden (Pair k a b) l = stored_pair k a b l

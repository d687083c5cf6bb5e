-- Records in lent memory: "start, stop, best split" and the origin's kind and number as five whole numbers in one slice, "and its max gain" in another, record
-- after record.
use Rattle.std.specs.Prelude.{◌≡◌, Bool, ◌&&◌, List, [], ◌∷◌, ℕ, zero, suc, ◌+◌, ◌*◌, ◌/◌, min, leb, Float, length, get_or, drop}
use Rattle.std.specs.Float.{nan}
use Rattle.std.proofs.lemmas.List.Edits.{sets}
use Rattle.scope.specs.Origin.{kind_of, number_of, origin_of}
use Rattle.scope.specs.Grid.{Record}

-- the whole numbers of records, and their gains
abbrev pub flat_rows : List Record → List ℕ
flat_rows [] = []
flat_rows (r ∷ rs) = r.start ∷ r.stop ∷ r.split ∷ kind_of r.origin ∷ number_of r.origin ∷ flat_rows rs

abbrev pub gains_of : List Record → List Float
gains_of [] = []
gains_of (r ∷ rs) = r.gain ∷ gains_of rs

-- the record that stands at a place, and the first k records
abbrev pub record_at : List ℕ → List Float → ℕ → Record
record_at rows gains k = record {
  start = get_or rows (5 * k) 0;
  stop = get_or rows (5 * k + 1) 0;
  split = get_or rows (5 * k + 2) 0;
  gain = get_or gains k nan;
  origin = origin_of (get_or rows (5 * k + 3) 0) (get_or rows (5 * k + 4) 0);
}

unfoldable pub records_in : List ℕ → List Float → ℕ → List Record
records_in rows gains zero = []
records_in rows gains (suc k) = record_at rows gains 0 ∷ records_in (drop 5 rows) (drop 1 gains) k

-- the records rs were stored from a place on, one after the other: what the slices hold then, and the place after them
pub record Put (rs : List Record) (at : ℕ) (rows : List ℕ) (gains : List Float) (rows' : List ℕ) (gains' : List Float) (next : ℕ) : Type 0 where
  pub rows_hold : rows' ≡ sets rows (5 * at) (flat_rows rs)
  pub gains_hold : gains' ≡ sets gains at (gains_of rs)
  pub told : next ≡ at + length rs

-- the records rs stand at the front, and there are `count` of them: to store them again changes nothing
abbrev pub Standing : List Record → List ℕ → List Float → ℕ → Type 0
Standing rs rows gains count = Put rs 0 rows gains rows gains count

-- the record at a place lies inside [start, stop), whatever its gain: the test of `inside`
abbrev pub inside_at : ℕ → ℕ → List ℕ → ℕ → Bool
inside_at start stop rows k = leb start (get_or rows (5 * k) 0) && leb (get_or rows (5 * k + 1) 0) stop

-- how many records fit into two slices: five whole numbers and one gain each
abbrev pub record_room : List ℕ → List Float → ℕ
record_room rows gains = min (length rows / 5) (length gains)

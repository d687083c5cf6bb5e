-- What a call is asked, in small records: a later setting is one field of one of them.
use Rattle.std.specs.Prelude.{Bool, true, false, cond, List, [], ℕ, ◌+◌, Float}

-- "A matrix is a lent f64 slice, row after row": n rows of d columns
pub record Matrix : Type 0 where
  pub cells : List Float
  pub n : ℕ
  pub d : ℕ

-- the shortest part that a split may leave: m rows; and whether the end is closed, so that the last part may have m rows too
pub record Shortest : Type 0 where
  pub m : ℕ
  pub closed : Bool

-- m with the setting "off by default and then as the Rust", and on
abbrev pub off : ℕ → Shortest
off m = record { m = m; closed = false }

abbrev pub on : ℕ → Shortest
on m = record { m = m; closed = true }

-- "The range stops one short at the right end." One row more with the closed end: no other rule looks at the setting
unfoldable pub one_more : Shortest → ℕ
one_more s = cond s.closed 1 0

-- the row that x+m stays below for a split x of [start, stop): stop, or one more
abbrev pub end_of : Shortest → ℕ → ℕ
end_of s stop = stop + one_more s

-- what a run's stored segments come from: the layers' values; or draws, which stand flat, start then stop, and W, the most records to store
pub record Source : Type 0 where
  pub layers : List Float
  pub draws : List ℕ
  pub W : ℕ

-- neither layers nor draws
abbrev pub nothing : Source
nothing = record { layers = []; draws = []; W = 0 }

-- the settings of a run; the forbidden pairs stand flat, a then b
pub record Settings : Type 0 where
  pub shortest : Shortest
  pub threshold : Float
  pub forbidden : List ℕ
  pub source : Source

-- Whether a row can be a neighbour.
use Rattle.std.specs.Prelude.{Bool, not, ◌&&◌, ℕ, leb, ltb, eqb}

-- another row than this, in the segment
abbrev pub is_near : ℕ → ℕ → ℕ → ℕ → Bool
is_near start stop row other = not (eqb other row) && (leb start other && ltb other stop)

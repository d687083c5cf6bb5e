-- Fields as they stand in a line, and the room that a line takes.
use Rattle.std.specs.Prelude.{List, [], ◌∷◌, ◌++◌, ℕ}
use Rattle.scope.specs.Text.{tab}

-- fields parted by tabs, and the byte after the last: LF where the line ends there, a tab where it goes on
unfoldable pub ended_by : ℕ → List (List ℕ) → List ℕ
ended_by end [] = end ∷ []
ended_by end (f ∷ []) = f ++ (end ∷ [])
ended_by end (f ∷ g ∷ fs) = f ++ (tab ∷ ended_by end (g ∷ fs))

-- the most bytes that a line of the sheet's program has, a cut's: `cut`, three numbers of 20 digits, 16 hex digits, an origin of 26 bytes, five tabs and LF
abbrev pub line_room : ℕ
line_room = 111

-- The sheet's text, from the rows that are cut and the records that were made.
use Rattle.std.specs.Prelude.{cond, List, [], ◌∷◌, ◌++◌, ℕ, eqb, length, Option, None, Some}
use Rattle.scope.specs.Grid.{Record}
use Rattle.scope.specs.Text.{bytes, decimal, line}
use Rattle.scope.specs.Program.{cut_line}

-- the first record that splits at x
unfoldable pub first_at : ℕ → List Record → Option Record
first_at x [] = None
first_at x (r ∷ rs) = cond (eqb r.split x) (Some r) (first_at x rs)

-- its line, if there is one
abbrev pub line_of : Option Record → List ℕ
line_of None = []
line_of (Some r) = cut_line r

-- for each row, in order, the line of the first record that splits there
unfoldable pub lines_of : List Record → List ℕ → List ℕ
lines_of rs [] = []
lines_of rs (x ∷ xs) = line_of (first_at x rs) ++ lines_of rs xs

-- the sheet, from the number of nodes, the records and the rows that are cut
abbrev pub sheet_of : ℕ → List Record → List ℕ → List ℕ
sheet_of nodes rs xs = line (bytes "cuts" ∷ decimal (length xs) ∷ []) ++ lines_of rs xs ++ line (bytes "nodes" ∷ decimal nodes ∷ [])

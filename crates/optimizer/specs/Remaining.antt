-- What an iterator over the candidates has left.
use Rattle.std.specs.Prelude.{ℕ, ◌-◌, List, [], ◌∷◌, not}
use Rattle.scope.specs.Lists.{upward, select}
use Rattle.scope.specs.Candidates.{is_barred}
use Rattle.rows.specs.declared.Position.{Position}
use Rattle.optimizer.specs.declared.candidates.Candidates.{Candidates}

-- a row as the definitions count it
abbrev pub row_of : Position → ℕ
row_of p = p.0

-- the rows from a to the one before e that no pair bars, ascending
unfoldable pub free_between : List ℕ → ℕ → ℕ → List ℕ
free_between forbidden a e = select (λ x. not (is_barred forbidden x)) (upward a (e - a))

abbrev pub rows_left : Candidates → List ℕ
rows_left c = free_between c.forbidden.now c.next c.end

-- P holds of each of the rows
abbrev pub Each : (ℕ → Type 0) → List ℕ → Type 0
Each P [] = Unit {0}
Each P (x ∷ xs) = P x × Each P xs

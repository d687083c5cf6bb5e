-- The guesses by value, as a list.
use Rattle.std.specs.Prelude.{List, [], ◌∷◌, ℕ}
use Rattle.two_step_search.specs.declared.Guesses.{Guesses}
use Rattle.two_step_search.specs.declared.Guesses.TheVariants.{NoGuess, One, Two, Three}

abbrev pub rows_of : Guesses → List ℕ
rows_of NoGuess = []
rows_of (One first) = first.0 ∷ []
rows_of (Two first second) = first.0 ∷ second.0 ∷ []
rows_of (Three first second third) = first.0 ∷ second.0 ∷ third.0 ∷ []

-- A list that is lent or not, as the definitions' list that is given or not.
use Rattle.std.specs.Prelude.{List, ℕ, Option as Lent, Some, None}
use Rattle.std.specs.Borrow.{Bor}
use Rattle.std.proofs.Math.Option.{Option, none, some}

abbrev pub list_lent : Lent (Bor (List ℕ)) → Option (List ℕ)
list_lent (Some forbidden) = some forbidden.now
list_lent None = none

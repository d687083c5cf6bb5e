-- What is told of a row: the code's values beside the definitions'.
use Rattle.std.specs.Prelude.{ℕ, Option, Some, None}
use Rattle.scope.specs.Why as scope
use Rattle.rows.specs.Segments.{to_segment}
use Rattle.optimizer.specs.Records.{to_origin}
use Rattle.reasons.specs.declared.Why.{Why}
use Rattle.reasons.specs.declared.Why.TheVariants as why

-- what the enum says
abbrev pub to_why : Why → scope.Why
to_why (why.Cut g o) = scope.cut (to_segment g) (to_origin o)
to_why (why.TooNear g) = scope.too_near (to_segment g)
to_why (why.Barred a b g) = scope.barred a b (to_segment g)
to_why (why.NoNumber g) = scope.no_number (to_segment g)
to_why (why.NotAbove gain g) = scope.not_above gain (to_segment g)

-- the pair that bars, or none
abbrev pub to_barring : Option (ℕ × ℕ) → scope.Barring
to_barring (Some pair) = scope.by pair.0 pair.1
to_barring None = scope.free

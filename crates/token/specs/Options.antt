-- What the code answers where there may be nothing, as the definitions'.
use Rattle.std.specs.Prelude.{Option, Some, None}
use Rattle.std.proofs.Math.Option as maybe
use Rattle.std.proofs.Math.Option.{none, some}

-- a value that may be missing, as the definitions have it
abbrev pub option_of : {A : Type 0} → Option A → maybe.Option A
option_of None = none
option_of (Some x) = some x

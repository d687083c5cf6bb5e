-- What the call leaves: its answer, and what each lent slice holds.
use Rattle.std.specs.Prelude.{◌≡◌, List, ℕ, Result}
use Rattle.scope.specs.Asked.{Matrix, Shortest, Source}
use Rattle.scope.specs.Calls.{StoredTold, stored_call}
use Rattle.control.specs.declared.refusal.Refusal.{Refusal}
use Rattle.control.specs.Refused.{told}
use Rattle.segmentation.specs.Segments.{Slices, stored_asked, Held}

-- what follows where these are lent
abbrev pub stored_told : Matrix → Shortest → List ℕ → Source → Slices → StoredTold
stored_told x short forbidden source lent = stored_call (stored_asked x short forbidden source lent)

-- the records of the stored segments, flat, and the prefix sums
pub record StoredLeft (x : Matrix) (short : Shortest) (forbidden : List ℕ) (source : Source) (r : Result ℕ Refusal) (before after : Slices) : Type 0 where
  pub answer : told (λ n. n) r ≡ (stored_told x short forbidden source before).answer
  pub held : Held (stored_told x short forbidden source before).sums (stored_told x short forbidden source before).records before after

-- What the slices for sums and records hold: nothing new where a call is refused, else what is told. Assumes nothing.
use mathlib.Core.Path.{◌≡◌, refl}
use mathlib.Core.List.{List}
use Prim.Native.Nat.{ℕ}
use lib.Ieee.{Float}
use Rattle.scope.specs.Refusals.{told_unless}
use Rattle.scope.specs.Grid.{Record}
use Rattle.control.specs.declared.refusal.Refusal.{Refusal}
use Rattle.control.specs.Refused.{number_of}
use Rattle.control.proofs.Follows.{held_refused, held_given}
use Rattle.stored.specs.Flat.{flat_rows, gains_of}
use Rattle.segmentation.specs.Segments.{Slices, Held}

-- r is the refusal that the definition gives
pub none_held : (r : Refusal) {no : ℕ} → number_of r ≡ no → (sums : List Float) (records : List Record) (before : Slices) → Held (told_unless no sums) (told_unless no records) before before
none_held r is sums records before =
    record {
      sums_are = held_refused r is (λ l. l) sums before.sums refl;
      rows_are = held_refused r is flat_rows records before.rows refl;
      gains_are = held_refused r is gains_of records before.gains refl;
    }

-- no test holds
pub all_held : {no : ℕ} → 0 ≡ no → (sums : List Float) (records : List Record) (before : Slices) {after : Slices} → Held sums records before after
    → Held (told_unless no sums) (told_unless no records) before after
all_held none sums records before h =
    record {
      sums_are = held_given none (λ l. l) sums before.sums h.sums_are;
      rows_are = held_given none flat_rows records before.rows h.rows_are;
      gains_are = held_given none gains_of records before.gains h.gains_are;
    }

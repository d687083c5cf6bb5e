-- "So the first of equal gains wins and NaN never does": the best of some records in the words that a reader checks, beside the fold (Grid).
use Rattle.std.specs.Prelude.{◌≡◌, Bool, true, false, Float}
use mathlib.Core.List.{List, ◌∷◌, ◌++◌, Memᴰ}
use Rattle.std.specs.Float.{nan, inf, fin}
use Rattle.std.specs.Float.Ieee.{lt}
use Rattle.scope.specs.Grid.{Record}

-- a NaN is no number; an infinity is one
abbrev pub numeric : Float → Bool
numeric nan = false
numeric (inf s) = true
numeric (fin s m e) = true

-- w is what becomes of b after the records rs: b itself, if no record's gain is greater; else the record of rs whose gain is greater than b's
-- and than every earlier numeric one, and than which no later one is greater
pub data FirstGreatest (b : Record) (rs : List Record) (w : Record) : Type 0 where
  kept : w ≡ b → ((r : Record) → Memᴰ r rs → lt b.gain r.gain ≡ false) → FirstGreatest b rs w
  taken : (earlier later : List Record)
      → rs ≡ earlier ++ (w ∷ later)
      → lt b.gain w.gain ≡ true
      → ((r : Record) → Memᴰ r earlier → numeric r.gain ≡ true → lt r.gain w.gain ≡ true)
      → ((r : Record) → Memᴰ r later → lt w.gain r.gain ≡ false)
      → FirstGreatest b rs w

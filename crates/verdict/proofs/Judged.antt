-- A segment is judged: by what its search finds, and by its choice. Assumes nothing.
use mathlib.Core.Path.{◌≡◌, sym, ◌∙◌, ap}
use mathlib.Core.Bool.{true, false}
use mathlib.Core.List.{List}
use mathlib.Core.Option.{some}
use Prim.Native.Nat.{ℕ}
use lib.Ieee.{lt}
use Rattle.scope.specs.Grid.{Record, best}
use Rattle.scope.specs.Refusals.{refused, given}
use Rattle.scope.specs.Tree.{Run, direct, inside, choice, verdict}
use Rattle.optimizer.specs.declared.optimizer_result.GainRecord.{GainRecord}
use Rattle.optimizer.specs.Records.{to_record, searched}
use Rattle.optimizer.proofs.Answered.{record_some, record_ends, refused_none}
use Rattle.verdict.specs.declared.Verdict.TheVariants.{WithoutChoice, Uncut, Cut}
use Rattle.verdict.specs.Rules.{Rules}

-- by the search's answer, and where that is a record by the choice c
module _ (q : Run) (rs : List Record) (start stop : ℕ) where
  pub judged_none : (k : ℕ) → refused k ≡ searched q.gain q.shortest q.forbidden start stop → Rules q rs start stop WithoutChoice
  unfolding verdict choice
  judged_none k answer = let none_is = refused_none q.gain q.shortest q.forbidden start stop k answer in (none_is, rw none_is)

  module _ (d : GainRecord) (answer : given (to_record d) ≡ searched q.gain q.shortest q.forbidden start stop) where
    found : direct q start stop ≡ some (to_record d)
    found = record_some q.gain q.shortest q.forbidden start stop (to_record d) answer

    -- the records inside its segment are those inside [start, stop)
    same_inside : inside d.start.0 d.stop.0 rs ≡ inside start stop rs
    same_inside = let (a, e) = record_ends q.gain q.shortest q.forbidden start stop (to_record d) answer in rw (a, e)

    module _ (c : GainRecord) (chosen : to_record c ≡ best (to_record d) (inside d.start.0 d.stop.0 rs)) where
      chosen_is : choice q rs start stop ≡ some (to_record c)
      unfolding choice
      chosen_is = rw found (ap some (sym (chosen ∙ ap (best (to_record d)) same_inside)))

      pub judged_cut : lt q.threshold c.max_gain ≡ true → Rules q rs start stop (Cut d c)
      unfolding verdict
      judged_cut t = (found, rw (chosen_is, t))

      pub judged_uncut : lt q.threshold c.max_gain ≡ false → Rules q rs start stop (Uncut d c)
      unfolding verdict
      judged_uncut t = (found, rw (chosen_is, t))

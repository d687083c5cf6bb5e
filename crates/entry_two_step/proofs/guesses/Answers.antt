-- `guesses` meets its contract: the refusal, or the guesses with the list or without it.
use Rattle.std.proofs.Common.{◌≡◌, ℕ, List, Err, refl, sym, ap, ◌∙◌, rules}
use mathlib.Core.Option.{some}
use Rattle.rows.specs.declared.Segment.{Segment}
use Rattle.control.specs.declared.settings.Shortest.{Shortest}
use Rattle.std.specs.Borrow.{Bor}
use Rattle.scope.specs.Calls.{GuessesAsked}
use Rattle.control.specs.Settings.{shortest_of}
use Rattle.entry_two_step.proofs.Clean.{guesses_clean, listed_is, lent_is, guesses_refused, guesses_given}
use Rattle.entry_two_step.proofs.guesses.Goals as goal

-- the guesses with the list that is looked at
abbrev asked : ℕ → Shortest → List ℕ → Segment → GuessesAsked
asked n s l segment = record { n = n; shortest = shortest_of s; forbidden = some l; start = segment.start.0; stop = segment.stop.0 }

pub returns-in_err-guesses_refusal : goal.returns-in_err-guesses_refusal
returns-in_err-guesses_refusal c =
    let looked = ap (λ (b : Bor (List ℕ)). b.now) c.unwrap_or.ensures ∙ listed_is c.args.forbidden _ refl in
    let bad : c.from_residual.result ≡ Err c.in_err-guesses_refusal.field-0.0 = search rules in
    record { answer = rw bad (guesses_refused _ c.unwrap_or.result.now looked c.in_err-guesses_refusal.field-0.0 c.in_err-guesses_refusal.ensures) }

pub guesses_listed-requires-clause-start_le_stop : goal.guesses_listed-requires-clause-start_le_stop
guesses_listed-requires-clause-start_le_stop c = let f = guesses_clean (asked c.args.n c.args.shortest c.unwrap_or.result.now c.args.segment) (sym c.in_ok-guesses_refusal.ensures) in (f.ordered, f.within, f.length_fits)

pub guesses_listed-requires-clause-nonzero : goal.guesses_listed-requires-clause-nonzero
guesses_listed-requires-clause-nonzero c = (guesses_clean (asked c.args.n c.args.shortest c.unwrap_or.result.now c.args.segment) (sym c.in_ok-guesses_refusal.ensures)).some_row

pub guesses_between-requires : goal.guesses_between-requires
guesses_between-requires c = let f = guesses_clean (asked c.args.n c.args.shortest c.unwrap_or.result.now c.args.segment) (sym c.in_ok-guesses_refusal.ensures) in (f.ordered, f.within, f.length_fits)

pub returns-in-Some : goal.returns-in-Some
returns-in-Some c =
    let a = c.args in
    let looked = ap (λ (b : Bor (List ℕ)). b.now) c.unwrap_or.ensures ∙ listed_is a.forbidden _ refl in
    let given = lent_is a.forbidden c.unwrap_or.result.now c.in-Some.field-0 c.in-Some.is looked in
    record { answer = guesses_given _ c.unwrap_or.result.now looked _ c.in_ok-guesses_refusal.ensures (rw given at c.guesses_listed.ensures) }

pub returns-in-None : goal.returns-in-None
returns-in-None c =
    let a = c.args in
    let looked = ap (λ (b : Bor (List ℕ)). b.now) c.unwrap_or.ensures ∙ listed_is a.forbidden _ refl in
    record { answer = guesses_given _ c.unwrap_or.result.now looked _ c.in_ok-guesses_refusal.ensures (rw c.in-None.is c.guesses_between.ensures) }

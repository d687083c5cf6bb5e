-- What is written for a reading is the program's text for whichever input was read so, from the first byte on, in lots of any sizes. Assumes nothing.
use mathlib.Core.Path.{◌≡◌, ◌∙◌, ap}
use mathlib.Core.List.{List, foldl, flatten}
use Prim.Native.Nat.{ℕ, ◌-◌, ◌^◌, ◌≤◌, ◌<◌}
use lib.Ieee.{Float}
use lib.ListN.{length, take}
use Rattle.scope.specs.Asked.{Matrix, Settings}
use Rattle.scope.specs.Calls.{run_of}
use Rattle.scope.specs.Program.{or_refused, deck_run}
use Rattle.scope.specs.Why.{Why, cut, too_near, barred, no_number, not_above, why_refusal, why_of}
use Rattle.scope.specs.WhyText.{why_line, asked_text, why_program}
use Rattle.demand.specs.Printed.{AnswersWhy}
use Rattle.report.specs.Written.{Written}
use Rattle.report.proofs.Texts.{written_so, line_some, refused_some}
use Rattle.std.specs.Prelude.{Result, Ok, Err}
use Rattle.line.specs.declared.Given.{Given}
use Rattle.deck.specs.declared.BadLine.{BadLine}
use Rattle.deck.specs.Walk.{start, run, fed, read_of}
use Rattle.deck.specs.Meaning.{read_text, Said}
use Rattle.deck.proofs.Said.{Gives, said, lots_said}
use Rattle.limits.proofs.Held.{text_same}
use Rattle.why_answers.specs.Answered.{asked_held, row_number, given_number, why_text}
use Rattle.why_answers.proofs.Limits.{past, row_left, asked_is}
use Rattle.why_answers.proofs.Printed.{answers}

module _ (x : ℕ) where
  gives : Gives (why_text x) (asked_text x)
  unfolding why_text row_number
  gives cells₀ forbidden₀ room g cells forbidden r told =
      let deck = told.deck in
      text_same cells₀ forbidden₀ room g cells forbidden r told (λ (m : Matrix) (s : Settings). why_refusal (asked_held x m s)) (λ (m : Matrix) (s : Settings). why_line x (why_of (run_of m s) x)) (past deck x) (row_left deck x)
      ∙ ap (λ (k : ℕ). or_refused k (why_line x (why_of (deck_run deck) x))) (asked_is deck x)

  -- THE LAW: of what stands at the start of a slice
  pub written_said : (read : Result Given BadLine) (cells : List Float) (forbidden out out' : List ℕ) (r : ℕ) → Written out 0 (read_text (why_text x) read cells forbidden) out' r → r ≤ length out
      → Written out 0 (read_text (why_text x) read cells forbidden) out' r × (Said (AnswersWhy x) read cells forbidden (take r out') × (r ≤ length out'))
  unfolding why_program
  written_said read cells forbidden out out' r w h =
      written_so (Said (AnswersWhy x) read cells forbidden) (said (why_text x) (asked_text x) gives (AnswersWhy x) (answers x) read cells forbidden) w h

  -- there is always a text: it is a line
  why_some : (w : Why) → 1 ≤ length (why_line x w)
  why_some (cut g o) = line_some _
  why_some (too_near g) = line_some _
  why_some (barred a b g) = line_some _
  why_some (no_number g) = line_some _
  why_some (not_above gain g) = line_some _

  pub text_some : (read : Result Given BadLine) (cells : List Float) (forbidden : List ℕ) → 1 ≤ length (read_text (why_text x) read cells forbidden)
  unfolding why_text
  text_some (Err b) cells forbidden = line_some _
  text_some (Ok g) cells forbidden = refused_some (given_number x g cells forbidden) _ (why_some _)

  -- a whole input, in lots
  pub program_said : (cells₀ : List Float) (forbidden₀ : List ℕ) → 2048 ≤ length cells₀ → 128 ≤ length forbidden₀ → (lots : List (List ℕ)) → length (flatten lots) < 2 ^ 64 - 2
      → let s = foldl fed (run start cells₀ forbidden₀) lots in read_text (why_text x) (read_of s.state) s.cells s.forbidden ≡ why_program x (flatten lots)
  unfolding why_program
  program_said = lots_said (why_text x) (asked_text x) gives

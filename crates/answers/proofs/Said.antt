-- What is written for a reading is the program's text for whichever input was read so, from the first byte on, in lots of any sizes. Assumes nothing.
use mathlib.Core.Path.{◌≡◌, refl, ◌∙◌}
use mathlib.Core.List.{List, foldl, flatten}
use Prim.Native.Nat.{ℕ, zero, suc, ◌-◌, ◌^◌, ◌≤◌, ◌<◌}
use lib.Ieee.{Float}
use lib.ListN.{length, take}
use Rattle.scope.specs.Tree.{tree_of}
use Rattle.scope.specs.Asked.{Matrix, Settings}
use Rattle.scope.specs.Calls.{run_of, tree_refusal}
use Rattle.scope.specs.Program.{deck_refusal, deck_text, sheet_text, or_refused, program}
use Rattle.demand.specs.Printed.{Answers}
use Rattle.report.specs.Written.{Written}
use Rattle.report.proofs.Texts.{written_so, line_some, lines_some, refused_some}
use Rattle.std.specs.Prelude.{Result, Ok, Err}
use Rattle.line.specs.declared.Given.{Given}
use Rattle.deck.specs.declared.BadLine.{BadLine}
use Rattle.deck.specs.Walk.{start, run, fed, read_of}
use Rattle.deck.specs.Meaning.{read_text, Said}
use Rattle.deck.proofs.Said.{Gives, said, lots_said}
use Rattle.limits.specs.Held.{or_else}
use Rattle.limits.proofs.Held.{text_same}
use Rattle.answers.specs.Answered.{lent, tree_number, given_number, given_text}
use Rattle.answers.proofs.Limits.{tree_clean}
use Rattle.answers.proofs.Printed.{answers}

or_none : (no : ℕ) (text : List ℕ) → or_refused (or_else no 0) text ≡ or_refused no text
or_none zero text = refl
or_none (suc k) text = refl

gives : Gives given_text deck_text
unfolding given_text tree_number
gives cells₀ forbidden₀ room g cells forbidden r told =
    text_same cells₀ forbidden₀ room g cells forbidden r told (λ (x : Matrix) (s : Settings). tree_refusal (record { matrix = x; settings = s; room = lent }))
    (λ (x : Matrix) (s : Settings). sheet_text (tree_of (run_of x s))) 0 (tree_clean told.deck)
    ∙ or_none (deck_refusal told.deck) _

-- THE LAW: of what stands at the start of a slice
pub written_said : (read : Result Given BadLine) (cells : List Float) (forbidden out out' : List ℕ) (r : ℕ) → Written out 0 (read_text given_text read cells forbidden) out' r → r ≤ length out
    → Written out 0 (read_text given_text read cells forbidden) out' r × (Said Answers read cells forbidden (take r out') × (r ≤ length out'))
unfolding program
written_said read cells forbidden out out' r w h = written_so (Said Answers read cells forbidden) (said given_text deck_text gives Answers answers read cells forbidden) w h

-- there is always a text: it has a line at least
pub text_some : (read : Result Given BadLine) (cells : List Float) (forbidden : List ℕ) → 1 ≤ length (read_text given_text read cells forbidden)
unfolding given_text sheet_text
text_some (Err b) cells forbidden = line_some _
text_some (Ok g) cells forbidden = refused_some (given_number g cells forbidden) _ (lines_some _ _)

-- a whole input, in lots
pub program_said : (cells₀ : List Float) (forbidden₀ : List ℕ) → 2048 ≤ length cells₀ → 128 ≤ length forbidden₀ → (lots : List (List ℕ)) → length (flatten lots) < 2 ^ 64 - 2
    → let x = foldl fed (run start cells₀ forbidden₀) lots in read_text given_text (read_of x.state) x.cells x.forbidden ≡ program (flatten lots)
unfolding program
program_said = lots_said given_text deck_text gives

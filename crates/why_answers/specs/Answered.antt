-- What is written for a deck of which a row is asked, from what is held of it.
use Rattle.std.specs.Prelude.{◌≡◌, List, ℕ, Float, length, Result, Ok}
use Rattle.scope.specs.Asked.{Matrix, Settings}
use Rattle.scope.specs.Refusals.{unless, told_unless}
use Rattle.scope.specs.Program.{or_refused}
use Rattle.scope.specs.Why.{WhyAsked, why_refusal, text_of, why_of}
use Rattle.scope.specs.WhyText.{why_line}
use Rattle.demand.specs.Because.{Because}
use Rattle.line.specs.declared.Given.{Given}
use Rattle.limits.specs.Limits.{given_refusal}
use Rattle.limits.specs.Held.{matrix_held, settings_held, run_held, or_else}
use Rattle.control.specs.declared.refusal.Refusal.{Refusal}
use Rattle.control.specs.Refused.{told}
use Rattle.reasons.specs.Answers.{to_why}
use Rattle.entry_why.specs.declared.Explained.{Explained}

-- what is asked of the row x, in the room that is lent: sums, no records, and the text
abbrev pub asked_held : ℕ → Matrix → Settings → WhyAsked
asked_held x m s = record { matrix = m; settings = s; row = x; sums = 2112; records = 0; text = 25 }

unfoldable pub row_number : ℕ → Given → List Float → List ℕ → ℕ
row_number x g cells forbidden = why_refusal (asked_held x (matrix_held g cells) (settings_held g forbidden))

-- ---- what is told: the definitions' answer, which is so, and how long the text is that goes with it
pub record Tells (x : ℕ) (g : Given) (cells : List Float) (forbidden : List ℕ) (r : Result Explained Refusal) : Type 0 where
  pub answer_is : told (λ e. to_why e.why) r ≡ unless (row_number x g cells forbidden) (why_of (run_held g cells forbidden) x)
  pub written : (e : Explained) → r ≡ Ok e → e.written ≡ length (told_unless (row_number x g cells forbidden) (text_of (why_of (run_held g cells forbidden) x)))
  pub because : (e : Explained) → r ≡ Ok e → Because (run_held g cells forbidden) x (to_why e.why)

-- ---- the number that applies, and the text. proofs/Said.antt has that a deck that was read and is not refused has this number 8 for a row at or past n, and else none
abbrev pub given_number : ℕ → Given → List Float → List ℕ → ℕ
given_number x g cells forbidden = or_else (given_refusal g forbidden) (row_number x g cells forbidden)

unfoldable pub why_text : ℕ → Given → List Float → List ℕ → List ℕ
why_text x g cells forbidden = or_refused (given_number x g cells forbidden) (why_line x (why_of (run_held g cells forbidden) x))

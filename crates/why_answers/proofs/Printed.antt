-- The program's text answers its input: of a deck and a row that are not refused, the line tells what is so. Assumes nothing.
use mathlib.Core.Path.{◌≡◌, ◌∙◌}
use mathlib.Core.List.{List}
use Prim.Native.Nat.{ℕ}
use Rattle.scope.specs.Program.{Deck, deck_run}
use Rattle.scope.specs.Why.{why_of}
use Rattle.scope.specs.WhyText.{why_line, asked_refusal, asked_text, why_program}
use Rattle.demand.specs.Printed.{AnswersWhy}
use Rattle.demand.proofs.Because.{justified}
use Rattle.demand.proofs.Origins.{origins}
use Rattle.deck.proofs.Said.{reads_text}
use Rattle.limits.proofs.Clean.{deck_clean, nothing_stored}
use Rattle.why_answers.proofs.Limits.{asked_free}

line_text : (x : ℕ) (deck : Deck) → asked_refusal deck x ≡ 0 → asked_text x deck ≡ why_line x (why_of (deck_run deck) x)
line_text x deck free = rw free

pub answers : (x : ℕ) (input text : List ℕ) → text ≡ why_program x input → AnswersWhy x input text
unfolding why_program
answers x input text is =
    record {
      is = is;
      printed = λ deck made free.
          let (clean, within) = asked_free deck x free in
          let f = deck_clean deck clean in
          record {
            why = why_of (deck_run deck) x;
            because = (justified (deck_run deck) f.length_fits.0 f.sizes.rows.0).so x within;
            line_is = is ∙ reads_text (asked_text x) input deck made ∙ line_text x deck free;
            itself = (origins (deck_run deck) f.length_fits.0 f.sizes.rows.0).told_direct (nothing_stored deck) x within;
          };
    }

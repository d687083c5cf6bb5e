-- The program's text answers its input: a deck that is not refused has the demand, and its lines are those of its run's tree. Assumes nothing.
use mathlib.Core.Path.{◌≡◌, ◌∙◌}
use mathlib.Core.List.{List}
use Prim.Native.Nat.{ℕ}
use Rattle.scope.specs.Tree.{tree_of}
use Rattle.scope.specs.Program.{Deck, deck_run, deck_refusal, deck_text, sheet_text, program}
use Rattle.demand.specs.Printed.{Answers}
use Rattle.demand.proofs.Demand.{demand}
use Rattle.demand.proofs.Origins.{origins}
use Rattle.deck.proofs.Said.{reads_text}
use Rattle.limits.proofs.Clean.{deck_clean, nothing_stored}

sheet_text_lem : (deck : Deck) → deck_refusal deck ≡ 0 → deck_text deck ≡ sheet_text (tree_of (deck_run deck))
sheet_text_lem deck clean = rw clean

pub answers : (input text : List ℕ) → text ≡ program input → Answers input text
unfolding program
answers input text is =
    record {
      is = is;
      printed = λ deck made clean.
          let f = deck_clean deck clean in
          record {
            demand = demand (deck_run deck) f.length_fits.0 f.sizes.rows.0;
            lines = is ∙ reads_text deck_text input deck made ∙ sheet_text_lem deck clean;
            itself = (origins (deck_run deck) f.length_fits.0 f.sizes.rows.0).sheet_direct (nothing_stored deck);
          };
    }

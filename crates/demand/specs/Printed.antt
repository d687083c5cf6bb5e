-- What the programs print. The sheet's: its text, and of a deck that is not refused the demand on its run, whose tree the lines are of. The one that answers why:
-- its text, and of a deck and a row that are not refused what is told, which is so. Assumes nothing.
use Rattle.std.specs.Prelude.{◌≡◌, List, ℕ}
use Rattle.scope.specs.Lists.{◌∈◌}
use Rattle.scope.specs.Origin.{Origin, direct}
use Rattle.scope.specs.Grid.{Record}
use Rattle.scope.specs.Layers.{Segment}
use Rattle.scope.specs.Tree.{tree_of, cuts}
use Rattle.scope.specs.Program.{Deck, Reads, deck_run, deck_refusal, sheet_text, program}
use Rattle.scope.specs.Why.{Why, cut}
use Rattle.scope.specs.WhyText.{why_line, asked_refusal, why_program}
use Rattle.demand.specs.Demand.{Demand}
use Rattle.demand.specs.Because.{Because}

-- the sheet of a deck
pub record Printed (deck : Deck) (text : List ℕ) : Type 0 where
  -- the demand on its run
  pub demand : Demand (deck_run deck)
  -- the lines: how many cuts that run's tree has, each from left to right, and how many nodes
  pub lines : text ≡ sheet_text (tree_of (deck_run deck))
  -- each cut's origin is "always `direct` there"
  pub itself : (r : Record) → r ∈ cuts (tree_of (deck_run deck)) → r.origin ≡ direct

-- the answer to an input
pub record Answers (input text : List ℕ) : Type 0 where
  pub is : text ≡ program input
  pub printed : (deck : Deck) → Reads input deck → deck_refusal deck ≡ 0 → Printed deck text

-- ---- why: the line of a deck's row x
pub record PrintedWhy (deck : Deck) (x : ℕ) (text : List ℕ) : Type 0 where
  pub why : Why
  -- it is so of its run
  pub because : Because (deck_run deck) x why
  pub line_is : text ≡ why_line x why
  -- a cut's origin is direct here too
  pub itself : (g : Segment) (o : Origin) → why ≡ cut g o → o ≡ direct

-- the answer to an input, where the row x is asked
pub record AnswersWhy (x : ℕ) (input text : List ℕ) : Type 0 where
  pub is : text ≡ why_program x input
  pub printed : (deck : Deck) → Reads input deck → asked_refusal deck x ≡ 0 → PrintedWhy deck x text

-- What is written for a deck, from what is held of it.
use Rattle.std.specs.Prelude.{◌≡◌, List, ℕ, Float, Result}
use Rattle.scope.specs.Lists.{holding}
use Rattle.scope.specs.Refusals.{unless, told_unless}
use Rattle.scope.specs.Tree.{tree_of, records_of, sheet}
use Rattle.scope.specs.Calls.{Room, counts_of, tree_refusal}
use Rattle.scope.specs.Program.{sheet_text, or_refused}
use Rattle.control.specs.declared.refusal.Refusal.{Refusal}
use Rattle.control.specs.Refused.{told}
use Rattle.stored.specs.Flat.{flat_rows, gains_of}
use Rattle.line.specs.declared.Given.{Given}
use Rattle.limits.specs.Limits.{given_refusal}
use Rattle.limits.specs.Held.{matrix_held, settings_held, run_held, or_else}
use Rattle.entry_tree.specs.Answers.{to_counts, node_room}
use Rattle.entry_tree.specs.declared.Grown.{Grown}

-- the room that is lent to the deck's tree
abbrev pub lent : Room
lent = record { sums = 2112; records = 509; nodes = node_room; cuts = 254 }

unfoldable pub tree_number : Given → List Float → List ℕ → ℕ
tree_number g cells forbidden = tree_refusal (record { matrix = matrix_held g cells; settings = settings_held g forbidden; room = lent })

-- ---- what its tree leaves: counts or a number, records, and the rows that are cut
pub record Grew (g : Given) (cells : List Float) (forbidden rows : List ℕ) (gains : List Float) (cuts rows' : List ℕ) (gains' : List Float) (cuts' : List ℕ) (r : Result Grown Refusal) : Type 0 where
  pub answer_is : told to_counts r ≡ unless (tree_number g cells forbidden) (counts_of (run_held g cells forbidden))
  pub rows_are : rows' ≡ holding (flat_rows (told_unless (tree_number g cells forbidden) (records_of (run_held g cells forbidden)))) rows
  pub gains_are : gains' ≡ holding (gains_of (told_unless (tree_number g cells forbidden) (records_of (run_held g cells forbidden)))) gains
  pub cuts_are : cuts' ≡ holding (told_unless (tree_number g cells forbidden) (sheet (tree_of (run_held g cells forbidden)))) cuts

-- ---- the number that applies, and the text. proofs/Said.antt has that a deck that was read and is not refused has a tree that is not refused either
abbrev pub given_number : Given → List Float → List ℕ → ℕ
given_number g cells forbidden = or_else (given_refusal g forbidden) (tree_number g cells forbidden)

unfoldable pub given_text : Given → List Float → List ℕ → List ℕ
given_text g cells forbidden = or_refused (given_number g cells forbidden) (sheet_text (tree_of (run_held g cells forbidden)))

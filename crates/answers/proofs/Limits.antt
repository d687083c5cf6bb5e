-- The tree of a deck that is not refused is not refused either. Assumes nothing.
use mathlib.Core.Path.{◌≡◌, ◌∙◌}
use mathlib.Core.List.{[], ◌∷◌}
use Prim.Native.Nat.{ℕ, ◌+◌, ◌-◌, ◌/◌, ◌≤◌}
use native.Mathlib.Nat.{div-le_self}
use native.Mathlib.Omega.{arith}
use borrow.Author.Tests.{le-ltb}
use Rattle.scope.specs.Lists.{every}
use Rattle.scope.specs.Refusals.{no7}
use Rattle.scope.specs.Layers.{layers_total}
use Rattle.scope.specs.Draws.{any_past, pairs_of, no8_draws}
use Rattle.scope.specs.Tree.{most_nodes}
use Rattle.scope.specs.Calls.{tree_refusal}
use Rattle.scope.specs.Asked.{off, nothing}
use Rattle.scope.specs.Program.{Deck, deck_matrix, deck_settings}
use Rattle.scope.proofs.ClosedEnd.{as_the_rust}
use Rattle.entry_tree.specs.Answers.{node_room}
use Rattle.entry_tree.proofs.Room.{room_is}
use Rattle.limits.proofs.Clean.{DeckClean, run_passes}
use Rattle.answers.specs.Answered.{lent}

pub few_nodes : (n m : ℕ) → n ≤ 256 → most_nodes n (off m) ≤ 509
few_nodes n m h = omega (arith, (as_the_rust m).nodes n, div-le_self (n - 1) m)

-- what the deck's own limits leave, the tree takes
pub tree_clean : (deck : Deck) → DeckClean deck → tree_refusal (record { matrix = deck_matrix deck; settings = deck_settings deck; room = lent }) ≡ 0
unfolding tree_refusal layers_total every any_past pairs_of
tree_clean deck clean =
    let most = most_nodes deck.n (off deck.m) in
    let nodes = few_nodes deck.n deck.m clean.sizes.rows.1 in
    run_passes deck clean (no7 (0 + most) 509 ∷ no7 most node_room ∷ no7 ((most - 1) / 2) 254 ∷ no8_draws deck.n nothing ∷ [])
    ∙ rw (le-ltb 509 (0 + most) (omega arith), le-ltb node_room most (omega (arith, room_is)), le-ltb 254 ((most - 1) / 2) (omega arith))

-- Feeding one byte more, none, lot after lot, and past a malformed line. Assumes nothing.
use mathlib.Core.Path.{◌≡◌, refl, sym, ap, ◌∙◌}
use lib.Ieee.{Float}
use Rattle.std.specs.Prelude.{Ok, Err}
use Rattle.std.proofs.lemmas.List.Sums.{fold-append}
use mathlib.Core.List.{List, [], ◌∷◌, ◌++◌}
use Prim.Native.Nat.{ℕ, ◌+◌, ◌<◌, ◌≤◌}
use lib.ListN.{length, drop, get_or}
use Rattle.token.proofs.Parts.{fold_next, fold_none}
use Rattle.deck.specs.declared.BadLine.{BadLine}
use Rattle.deck.specs.declared.Open.{Open}
use Rattle.deck.specs.declared.Moved.{Moved}
use Rattle.line.specs.Walk.{stored_cells, stored_forbidden}
use Rattle.deck.specs.Walk.{State, Run, run, open_step, step_run, fed}

-- one byte more: of a line that is begun
pub fed_next : (o : Open) (cells : List Float) (forbidden bs : List ℕ) (i : ℕ) {y : Run} {m : Moved} {cells' : List Float} {forbidden' : List ℕ} → y ≡ fed (run (Ok o) cells forbidden) (drop i bs)
    → i < length bs → m ≡ open_step o (get_or bs i 0) → cells' ≡ stored_cells m.event cells → forbidden' ≡ stored_forbidden m.event forbidden
    → y ≡ fed (run m.state cells' forbidden') (drop (i + 1) bs)
unfolding fed
fed_next o cells forbidden bs i e h moved cells_after forbidden_after =
    rw (cells_after, forbidden_after, moved) (e ∙ fold_next step_run (run (Ok o) cells forbidden) bs i h)

pub fed_none : (x : Run) (bs : List ℕ) (i : ℕ) → length bs ≤ i → fed x (drop i bs) ≡ x
unfolding fed
fed_none x bs i h = fold_none step_run x bs i h

-- two lots are one, wherever the input is cut
pub fed_lots : (x : Run) (bs cs : List ℕ) → fed x (bs ++ cs) ≡ fed (fed x bs) cs
unfolding fed
fed_lots x bs cs = fold-append step_run x bs cs

-- past a malformed line nothing changes
pub fed_lost : (bad : BadLine) (cells : List Float) (forbidden bs : List ℕ) → fed (run (Err bad) cells forbidden) bs ≡ run (Err bad) cells forbidden
unfolding fed
fed_lost bad cells forbidden [] = refl
fed_lost bad cells forbidden (b ∷ bs) = fed_lost bad cells forbidden bs

-- what it comes to, part by part
pub came : {x : Run} {s : State} {cells : List Float} {forbidden : List ℕ} → x ≡ run s cells forbidden → (s ≡ x.state) × (cells ≡ x.cells) × (forbidden ≡ x.forbidden)
came e = (sym (ap (λ (x : Run). x.state) e), sym (ap (λ (x : Run). x.cells) e), sym (ap (λ (x : Run). x.forbidden) e))

-- `order::insert_row` meets its contract. Before the hole stand rows that are nearer; those behind it are as they came. Assumes nothing.
use mathlib.Core.Path.{◌≡◌, refl, sym, ap, ◌∙◌}
use mathlib.Core.Bool.{true, false}
use mathlib.Core.List.{List, [], ◌∷◌, ◌++◌, append_assoc}
use Prim.Native.Nat.{ℕ, suc, ◌+◌, ◌≤◌, ◌<◌}
use native.Mathlib.Numerals.{add-one}
use native.Mathlib.Omega.{arith}
use lib.Ieee.{Float}
use lib.ListN.{length, get_or, take, drop, set, length-set, drop_of_length-le}
use lib.Seq.{drop-cons, set_split, take-suc-set, drop-set-lt}
use Rattle.scope.specs.Neighbours.{is_nearer, insert}
use Rattle.order.specs.Rows.{Below}
use Rattle.order.proofs.Ordered.{later, here}
use Rattle.order.proofs.insert_row.Goals as goal
use Rattle.order.proofs.insert_row.Goals.{else-loop-next-test, then-loop-next-test+then-not-is_nearer}
use Rattle.order.proofs.insert_row.Invariants.{State}

module _ {ds : List Float} {row : ℕ} {out₀ out : List ℕ} {hole : ℕ} (s : State ds row out₀ out hole) where
  next : hole + 1 < length out → drop (hole + 1) out ≡ get_or out (hole + 1) 0 ∷ drop (hole + 1 + 1) out
  next h = rw (add-one (hole + 1)) (drop-cons out (hole + 1) 0 h)

  rows-from : hole + 1 < length out → Below (length ds) (get_or out (hole + 1) 0 ∷ drop (hole + 1 + 1) out)
  rows-from h = rw (next h) at s.rows

  moved : hole + 1 < length out → is_nearer ds (get_or out (hole + 1) 0) row ≡ true → State ds row out₀ (set out hole (get_or out (hole + 1) 0)) (hole + 1)
  moved h e =
      let y = get_or out (hole + 1) 0 in
      let r : drop (hole + 1 + 1) (set out hole y) ≡ drop (hole + 1 + 1) out = drop-set-lt (hole + 1 + 1) out hole y (omega arith) in
      let t : take (hole + 1) (set out hole y) ≡ take hole out ++ (y ∷ []) = ap (λ (n : ℕ). take n (set out hole y)) (add-one hole) ∙ take-suc-set out hole y (omega arith) in
      record {
        within = omega (arith, s.long);
        long = length-set out hole y ∙ s.long;
        rows = rw r (λ i k. rows-from h (suc i) (omega arith));
        held = rw (r, t, append_assoc) (rw (next h, later ds row y (drop (hole + 1 + 1) out) e) at s.held);
      }

  -- the row belongs into the hole
  placed : insert ds row (drop (hole + 1) out) ≡ row ∷ drop (hole + 1) out → set out hole row ≡ insert ds row (drop 1 out₀)
  placed e = set_split out hole row (omega (arith, s.long, s.within)) ∙ rw (← add-one hole) (rw e at s.held)

  placed-last : length out ≤ hole + 1 → set out hole row ≡ insert ds row (drop 1 out₀)
  unfolding insert
  placed-last h = placed (rw (drop_of_length-le out h))

  placed-before : hole + 1 < length out → is_nearer ds (get_or out (hole + 1) 0) row ≡ false → set out hole row ≡ insert ds row (drop 1 out₀)
  placed-before h e = placed (rw (next h) (here ds row (get_or out (hole + 1) 0) (drop (hole + 1 + 1) out) e))

pub loop-next-init : goal.loop-next-init
loop-next-init c = let p = c.requires in (refl, record { within = p.2; long = refl; rows = p.4; held = refl })

pub is_nearer-requires : goal.is_nearer-requires
is_nearer-requires c =
    let s = c.loop-next.invariant in
    (c.requires.0, rw s.0 (rows-from s.1 (omega arith) 0 (omega arith)), c.requires.1)

pub loop-next-preserved : goal.loop-next-preserved
loop-next-preserved c =
    let s = c.loop-next.invariant in
    let near = rw s.0 at (sym c.is_nearer.ensures ∙ c.if-not-is_nearer.false) in
    (refl, rw s.0 (moved s.1 (omega arith) near))

pub returns : goal.returns
returns c =
    let s = c.loop-next.invariant in
    elim c.loop-next-test.branch [
      | else-loop-next-test w ↦ placed-last s.1 (omega arith)
      | then-loop-next-test+then-not-is_nearer w ↦ placed-before s.1 (omega arith) (rw s.0 at (sym w.is_nearer.ensures ∙ w.if-not-is_nearer.true))
    ]

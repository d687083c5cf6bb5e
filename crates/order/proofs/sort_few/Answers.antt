-- `order::sort_few` meets its contract. From place k on the rows are in order. Assumes nothing.
use mathlib.Core.Path.{◌≡◌, refl, ap, ◌∙◌}
use mathlib.Core.List.{List}
use Prim.Native.Nat.{ℕ, suc, ◌+◌, ◌-◌, ◌≤◌, ◌<◌}
use native.Mathlib.Nat.{add-zero, sub-zero}
use native.Mathlib.Omega.{arith}
use borrow.Rule.Slice.PartMut.{put_mid}
use lib.Ieee.{Float}
use lib.ListN.{length, take, drop, length-append, length-drop}
use lib.Seq.{drop_at, drop-drop, drop-length, length-take-le}
use Rattle.scope.specs.Neighbours.{insert, ordered}
use Rattle.order.specs.Rows.{Below}
use Rattle.order.proofs.Parts.{rest_is, put_rest}
use Rattle.scope.proofs.Ordering.{ordered_length}
use Rattle.order.proofs.Ordered.{below_ordered}
use Rattle.order.proofs.sort_few.Goals as goal
use Rattle.order.proofs.sort_few.Invariants.{State}

start : (ds : List Float) (lo : ℕ) (out : List ℕ) → State ds lo out out (length out)
unfolding ordered
start ds lo out = let e : length out - length out ≡ 0 = omega arith in record { within = omega arith; long = refl; held = rw (drop-length out, e) }

module _ {ds : List Float} {lo : ℕ} {out₀ out : List ℕ} {k : ℕ} (s : State ds lo out₀ out k) (more : 0 < k) where
  behind : drop 1 (take (length out - (k - 1)) (drop (k - 1) out)) ≡ ordered ds (lo + k) (length out₀ - k)
  behind = let e : k - 1 + 1 ≡ k = omega arith in rw (rest_is out (k - 1), drop-drop 1 (k - 1) out, e) s.held

  rows : lo + length out₀ ≤ length ds → Below (length ds) (drop 1 (take (length out - (k - 1)) (drop (k - 1) out)))
  rows h = rw behind (below_ordered ds (length ds) (lo + k) (length out₀ - k) (omega (arith, s.within)))

  part : length (take (length out - (k - 1)) (drop (k - 1) out)) ≡ length out₀ - (k - 1)
  part = ap length (rest_is out (k - 1)) ∙ length-drop (k - 1) out ∙ ap (λ (l : ℕ). l - (k - 1)) s.long

  next : {e : List ℕ} → e ≡ insert ds (lo + (k - 1)) (drop 1 (take (length out - (k - 1)) (drop (k - 1) out))) → State ds lo out₀ (put_mid (k - 1) (length out - (k - 1)) out e) (k - 1)
  unfolding ordered
  next {e} f =
      let a : length out₀ - (k - 1) ≡ suc (length out₀ - k) = omega (arith, s.within) in
      let b : lo + k ≡ suc (lo + (k - 1)) = omega arith in
      let g : e ≡ ordered ds (lo + (k - 1)) (length out₀ - (k - 1)) = rw a (rw (behind, b) at f) in
      let t : length (take (k - 1) out) ≡ k - 1 = length-take-le (k - 1) out (omega (arith, s.within, s.long)) in
      record {
        within = omega (arith, s.within);
        long = ap length (put_rest out e (k - 1)) ∙ length-append (take (k - 1) out) e ∙ rw (t, g, ordered_length ds (lo + (k - 1)) (length out₀ - (k - 1))) (omega (arith, s.within));
        held = rw (put_rest out e (k - 1)) (drop_at (take (k - 1) out) e (k - 1) t ∙ g);
      }

finish : {ds : List Float} {lo : ℕ} {out₀ out : List ℕ} {k : ℕ} → State ds lo out₀ out k → k ≤ 0 → out ≡ ordered ds lo (length out₀)
finish {k = k} s h = let e : k ≡ 0 = omega arith in rw (e, add-zero, sub-zero) at s.held

pub loop-k-init : goal.loop-k-init
loop-k-init c = start _ _ _

pub insert_row-requires : goal.insert_row-requires
insert_row-requires c =
    let s = c.loop-k.invariant in
    let more = c.loop-k-test.true in
    let l = part s more in
    (c.requires.0, omega (arith, s.within), omega (arith, l, s.within), omega (arith, l), rows s more c.requires.1)

pub loop-k-preserved : goal.loop-k-preserved
loop-k-preserved c = next c.loop-k.invariant c.loop-k-test.true c.insert_row.ensures

pub returns : goal.returns
returns c = finish c.loop-k.invariant c.loop-k-test.false

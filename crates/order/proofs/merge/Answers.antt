-- `order::merge` meets its contract. After k turns the first k rows and the last k of the merge are stored; what is between them
-- is the merge of what is left of both lists, whether one looks from the front or from the back. Assumes nothing.
use mathlib.Core.Path.{◌≡◌, refl, sym, ap, ◌∙◌}
use mathlib.Core.Bool.{Bool, true, false, cond, not}
use mathlib.Core.List.{List, [], ◌∷◌, ◌++◌, append-nil, append_assoc}
use Prim.Native.Nat.{ℕ, suc, ◌+◌, ◌-◌, ◌*◌, ◌≤◌, ◌<◌}
use native.Mathlib.Nat.{sub-zero}
use native.Mathlib.Numerals.{add-one}
use native.Mathlib.Omega.{arith}
use mir.Val.{bool_byte}
use lib.Ieee.{Float}
use lib.ListN.{length, get_or, take, drop, set, length-set, length-drop, take-append-drop}
use lib.Seq.{drop-cons, drop-length, drop-drop, drop_at, take-length, take-suc-set, take-set-le, drop-set-lt, set_split, length-take-le, get_or-set_same}
use Rattle.scope.specs.Neighbours.{is_nearer}
use Rattle.order.specs.Rows.{merged, Halves}
use Rattle.order.proofs.Parts.{rest_is}
use Rattle.order.proofs.Ordered.{below_drop}
use Rattle.order.proofs.Merging.{next_front, next_back, length_merged}
use Rattle.order.proofs.merge.Goals as goal
use Rattle.order.proofs.merge.Invariants.{State}

bit : (t : Bool) → bool_byte t ≤ 1
bit true = omega arith
bit false = omega arith

-- two stores, one before the other
module _ (out : List ℕ) (k e w z : ℕ) (apart : k < e) (inside : e < length out) where
  before-it : take (k + 1) (set (set out k w) e z) ≡ take k out ++ (w ∷ [])
  before-it = take-set-le (k + 1) (set out k w) e z (omega arith) ∙ ap (λ (i : ℕ). take i (set out k w)) (add-one k) ∙ take-suc-set out k w (omega arith)

  behind-it : drop e (set (set out k w) e z) ≡ z ∷ drop (e + 1) out
  behind-it =
      let m : e < length (set out k w) = omega (arith, length-set out k w) in
      drop-cons (set (set out k w) e z) e 0 (omega (arith, length-set (set out k w) e z))
      ∙ rw (get_or-set_same (set out k w) e z 0 m, drop-set-lt (suc e) (set out k w) e z (omega arith), drop-set-lt (suc e) out k w (omega arith), add-one)

module _ {ds : List Float} {a b : List ℕ} {n : ℕ} (h : Halves ds a b) (total : n ≡ length a + length b) where
  start : {out : List ℕ} → length out ≡ n → State ds a b n out 0 (length a) 0
  unfolding merged
  start {out} e =
      let q : n - 0 - length a ≡ length b = omega arith in
      record {
        turns = omega arith;
        firsts = omega arith;
        lasts = omega arith;
        behind = omega arith;
        long = e;
        front = refl;
        back = rw (q, take-length a, take-length b, sub-zero, ← e, drop-length out, append-nil);
      }

  module _ {out : List ℕ} {taken left k : ℕ} (s : State ds a b n out taken left k) where
    -- a turn: t and w are what the front gives, u and z what the back gives
    module _ (more : k < length a) {t u : Bool} {w z : ℕ}
        (ft : t ≡ is_nearer ds (get_or b (k - taken) 0) (get_or a taken 0)) (fw : w ≡ cond t (get_or b (k - taken) 0) (get_or a taken 0))
        (bu : u ≡ is_nearer ds (get_or b (n - k - left - 1) 0) (get_or a (left - 1) 0)) (bz : z ≡ cond u (get_or a (left - 1) 0) (get_or b (n - k - left - 1) 0)) where
      apart : k < n - k - 1
      apart = omega (arith, h.even)

      inside : n - k - 1 < length out
      inside = omega (arith, s.long, h.even)

      front-on : take (k + 1) (set (set out k w) (n - k - 1) z) ++ merged ds (drop (taken + bool_byte (not t)) a) (drop (k + 1 - (taken + bool_byte (not t))) b) ≡ merged ds a b
      front-on =
          let f = next_front ds a b taken (k - taken) t (omega (arith, s.firsts)) (omega (arith, h.even)) (sym ft) in
          rw (before-it out k (n - k - 1) w z apart inside, append_assoc, fw, ← at_second t s.firsts) (rw f at s.front)
        where
          at_second : (t : Bool) → taken ≤ k → k - taken + bool_byte t ≡ k + 1 - (taken + bool_byte (not t))
          at_second true l = omega arith
          at_second false l = omega arith

      back_on : merged ds (take (left - bool_byte u) a) (take (n - (k + 1) - (left - bool_byte u)) b) ++ drop (n - (k + 1)) (set (set out k w) (n - k - 1) z) ≡ merged ds a b
      back_on =
          let f = next_back ds a b h.numbers h.first_order h.second_order left (n - k - left) u (omega (arith, s.behind)) s.lasts (omega (arith, s.lasts, h.even)) (omega (arith, s.behind)) (sym bu) in
          let e : n - (k + 1) ≡ n - k - 1 = omega arith in
          let g : n - k - 1 + 1 ≡ n - k = omega (arith, h.even) in
          rw (← at_second u s.behind, e, behind-it out k (n - k - 1) w z apart inside, g, bz) (rw (f, append_assoc) at s.back)
        where
          at_second : (u : Bool) → length a ≤ left + k → n - k - left - bool_byte (not u) ≡ n - (k + 1) - (left - bool_byte u)
          at_second true l = omega arith
          at_second false l = omega arith

      next : State ds a b n (set (set out k w) (n - k - 1) z) (taken + bool_byte (not t)) (left - bool_byte u) (k + 1)
      next =
          record {
            turns = omega arith;
            firsts = omega (arith, bit (not t), s.firsts);
            lasts = omega (arith, s.lasts);
            behind = omega (arith, bit u, s.behind);
            long = length-set (set out k w) (n - k - 1) z ∙ length-set out k w ∙ s.long;
            front = front-on;
            back = back_on;
          }

    -- all rows are stored, or all but the one between the two ends
    between : List ℕ
    between = merged ds (drop taken a) (drop (k - taken) b)

    left_over : drop (n - k) (merged ds a b) ≡ drop (n - k) out
    left_over =
        ap (drop (n - k)) (sym s.back)
        ∙ drop_at (merged ds (take left a) (take (n - k - left) b)) (drop (n - k) out) (n - k)
        (length_merged ds (take left a) (take (n - k - left) b)
        ∙ rw (length-take-le left a s.lasts, length-take-le (n - k - left) b (omega (arith, s.behind))) (omega (arith, s.lasts, s.turns, h.even)))

    from_front : drop k (merged ds a b) ≡ between
    unfolding between
    from_front = ap (drop k) (sym s.front) ∙ drop_at (take k out) between k (length-take-le k out (omega (arith, s.long, s.turns)))

    finish-even : length a ≤ k → n ≡ 2 * length a → out ≡ merged ds a b
    unfolding between
    finish-even done e =
        let f : n - k ≡ k = omega (arith, s.turns) in
        sym (take-append-drop k out) ∙ ap (λ (l : List ℕ). take k out ++ l) (sym (rw f at left_over) ∙ from_front) ∙ s.front

    finish-odd : length a ≤ k → (n ≡ 2 * length a → ⊥) → {w : ℕ} → w ≡ get_or (merged ds (drop taken a) (drop (length a - taken) b)) 0 0 → set out (length a) w ≡ merged ds a b
    unfolding between
    finish-odd done e {w} f =
        let g : n - k ≡ suc k = omega (arith, s.turns, h.even, h.odd, e) in
        let la : length a ≡ k = omega (arith, s.turns) in
        let rest : drop 1 between ≡ drop (suc k) out = ap (drop 1) (sym from_front) ∙ drop-drop 1 k (merged ds a b) ∙ rw (add-one k) (rw g at left_over) in
        let some : 0 < length between = omega (arith, ap length (sym from_front) ∙ length-drop k (merged ds a b), length_merged ds a b, s.turns) in
        let v : w ≡ get_or between 0 0 = rw la at f in
        rw la (set_split out k w (omega (arith, s.long)) ∙ ap (λ (l : List ℕ). take k out ++ l) (rw (v, ← rest) (sym (drop-cons between 0 0 some))) ∙ s.front)

pub loop-k-init : goal.loop-k-init
loop-k-init c = let p = c.requires in start p.0 p.1 refl

pub compare-front-requires : goal.compare-front-requires
compare-front-requires c = let p = c.requires.0 in (p.first.few, p.first.rows c.loop-k.taken (omega arith), p.second.rows _ (omega arith))

pub overflow_add-taken : goal.overflow_add-taken
overflow_add-taken c = omega (arith, bit (not c.compare-front.result.second))

pub overflow_sub-left-in-loop-k : goal.overflow_sub-left-in-loop-k
overflow_sub-left-in-loop-k c = omega (arith, bit c.compare-back.result.second)

pub compare-back-requires : goal.compare-back-requires
compare-back-requires c = let p = c.requires.0 in (p.first.few, p.first.rows _ (omega arith), p.second.rows _ (omega arith))

pub loop-k-preserved : goal.loop-k-preserved
loop-k-preserved c =
    let p = c.requires in
    let at = c.loop-k in
    let f = c.compare-front.ensures in
    let g = c.compare-back.ensures in
    next p.0 p.1 at.invariant c.loop-k-test.true f.second_value f.near_value.0 g.second_value g.near_value.1

pub shape_of-out-then-n-half : goal.shape_of-out-then-n-half
shape_of-out-then-n-half c = c.loop-k.invariant.long

pub returns-then-n-half : goal.returns-then-n-half
returns-then-n-half c =
    let p = c.requires in
    let at = c.loop-k in
    finish-even p.0 p.1 at.invariant c.loop-k-test.false c.if-n-half.true

pub first_row-requires : goal.first_row-requires
first_row-requires c =
    let p = c.requires.0 in
    rw (rest_is c.args.a.now c.loop-k.taken, rest_is c.args.b.now (length c.args.a.now - c.loop-k.taken))
    (p.first.few, below_drop _ _ c.loop-k.taken p.first.rows, below_drop _ _ (length c.args.a.now - c.loop-k.taken) p.second.rows, omega (arith, length-drop (length c.args.a.now - c.loop-k.taken) c.args.b.now))

pub shape_of-out : goal.shape_of-out
shape_of-out c = simp length-set c.loop-k.invariant.long

pub returns : goal.returns
returns c =
    let p = c.requires in
    let at = c.loop-k in
    finish-odd p.0 p.1 at.invariant c.loop-k-test.false c.if-n-half.false (rw (rest_is c.args.a.now c.loop-k.taken, rest_is c.args.b.now (length c.args.a.now - c.loop-k.taken)) at c.first_row.ensures)

-- Where a row stands in the tree: at the cut of the reached segment that is cut there, or in the uncut reached segment that holds it, and nowhere else.
-- Assumes nothing.
use mathlib.Core.Path.{◌≡◌, refl, sym, ◌∙◌, ap}
use mathlib.Core.Bool.{Bool, true, false, cond, true≢false}
use Prim.Native.Nat.{ℕ, ◌≤◌, ◌<◌}
use native.Mathlib.Omega.{arith}
use native.Mathlib.Decide.{dec_le}
use borrow.Author.Tests.{ltb-true, ltb-false, lt-ltb, le-ltb, eqb-true, eq-eqb, ne_eqb}
use lib.Dec.{ltb, eqb}
use Rattle.scope.specs.Origin.{Origin}
use Rattle.scope.specs.Grid.{Record}
use Rattle.scope.specs.Layers.{Segment}
use Rattle.scope.specs.Tree.{Run, Tree, node}
use Rattle.scope.specs.Why.{Place, at_cut, uncut_in, place_of}
use Rattle.scope.proofs.Never.{never}
use Rattle.demand.specs.Reached.{ruling, is_cut, Reached, run, left, right, CutAt}
use Rattle.demand.specs.Grows.{Grows, as_leaf, as_node}
use Rattle.demand.specs.Because.{CutOf, HeldBy}
use Rattle.demand.proofs.Cut.{cut_far}
use Rattle.demand.proofs.Grows.{parts_of}

-- ---- one step down
module _ (x start stop : ℕ) (r : Record) (s t : Tree) where
  pub place_at : x ≡ r.split → place_of x (node start stop r s t) ≡ at_cut (record { start = start; stop = stop }) r.origin
  unfolding place_of
  place_at e = rw (eq-eqb x r.split e)

  pub place_left : x < r.split → place_of x (node start stop r s t) ≡ place_of x s
  unfolding place_of
  place_left h = rw (ne_eqb x r.split (λ e. omega arith), lt-ltb x r.split h)

  pub place_right : r.split < x → place_of x (node start stop r s t) ≡ place_of x t
  unfolding place_of
  place_right h = rw (ne_eqb x r.split (λ e. omega arith), le-ltb x r.split (omega arith))

module _ (q : Run) (least : 1 ≤ q.shortest.m) where
  -- a reached segment has rows, and they are the run's
  pub reached_fits : 1 ≤ q.n → (start stop : ℕ) → Reached q start stop → (start < stop) × (stop ≤ q.n)
  reached_fits n start stop run = (omega arith, omega arith)
  reached_fits n start stop (left {stop = z} {r = r} h c) =
      let (l, u) = reached_fits n start z h in let far = cut_far q start z r c in (omega (arith, far.left), omega (arith, far.right))
  reached_fits n start stop (right {start = z} {r = r} h c) =
      let (l, u) = reached_fits n z stop h in let far = cut_far q z stop r c in (omega (arith, far.right), u)

  module _ (x : ℕ) where
    -- ---- a row that some reached segment is cut at, and that segment
    pub cut_of_lem : CutAt q x → (g : Segment) × (o : Origin) × CutOf q x g o
    cut_of_lem c = (record { start = c.chosen.start; stop = c.chosen.stop }, c.by.origin, record { by = c.by; reached = c.chosen.reached; is = c.chosen.is; at = c.at; from = refl })

    pub of_cut : (g : Segment) (o : Origin) → CutOf q x g o → CutAt q x
    of_cut g o c = record { by = c.by; chosen = record { start = g.start; stop = g.stop; reached = c.reached; is = c.is }; at = c.at }

    -- ---- down: what a place in a reached segment's tree says
    record Uncut (g : Segment) : Type 0 where
      reached : Reached q g.start g.stop
      uncut : is_cut (ruling q g.start g.stop) ≡ false
      low : g.start ≤ x
      high : x < g.stop

    abbrev Stands : Place → Type 0
    Stands (at_cut g o) = CutOf q x g o
    Stands (uncut_in g) = Uncut g

    stands : (start stop : ℕ) (t : Tree) → Grows q start stop t → Reached q start stop → start ≤ x → x < stop → Stands (place_of x t)
    unfolding place_of
    stands start stop t (as_leaf h) at l u = record { reached = at; uncut = ap is_cut h; low = l; high = u }
    stands start stop t (as_node {r = r} {s = s} {t = v} h a b) at l u =
        go (eqb x r.split) (ltb x r.split) refl refl (λ j. stands start r.split s a (left at h) l j) (λ j. stands r.split stop v b (right at h) j u)
      where
        go : (e c : Bool) → eqb x r.split ≡ e → ltb x r.split ≡ c → (x < r.split → Stands (place_of x s)) → (r.split ≤ x → Stands (place_of x v))
            → Stands (cond e (at_cut (record { start = start; stop = stop }) r.origin) (cond c (place_of x s) (place_of x v)))
        go true c i j below above = record { by = r; reached = at; is = h; at = eqb-true x r.split i; from = refl }
        go false true i j below above = below (ltb-true x r.split j)
        go false false i j below above = above (ltb-false x r.split j)

    -- ---- up: in a reached segment's tree a row stands as in the whole, unless it is the first of a right part
    module _ (T : Tree) (whole : Grows q 0 q.n T) where
      same_place : (start stop : ℕ) → Reached q start stop → start ≤ x → x < stop → (start ≡ x → CutAt q x → ⊥) → (t : Tree) × Grows q start stop t × (place_of x t ≡ place_of x T)
      same_place start stop run l u f = (T, whole, refl)
      same_place start stop (left {stop = z} {r = r} h c) l u f =
          let far = cut_far q start z r c in
          let (t, g, e) = same_place start z h l (omega (arith, far.right)) f in
          let p = parts_of q start z r t c g in
          (p.left, p.grows_left, sym (place_left x start z r p.left p.right u) ∙ sym (ap (place_of x) p.is) ∙ e)
      same_place start stop (right {start = z} {r = r} h c) l u f =
          let far = cut_far q z stop r c in
          let above : r.split < x = go (dec_le x r.split) in
          let (t, g, e) = same_place z stop h (omega (arith, far.left)) u (λ k. absurd (omega (arith, far.left))) in
          let p = parts_of q z stop r t c g in
          (p.right, p.grows_right, sym (place_right x z stop r p.left p.right above) ∙ sym (ap (place_of x) p.is) ∙ e)
        where
          go : Dec (x ≤ r.split) → r.split < x
          go (yes w) = absurd (f (omega (arith, l)) (of_cut (record { start = z; stop = stop }) r.origin (record { by = r; reached = h; is = c; at = omega (arith, l); from = refl })))
          go (no w) = omega arith

      pub cut_place : (g : Segment) (o : Origin) → CutOf q x g o → place_of x T ≡ at_cut g o
      cut_place g o c =
          let far = cut_far q g.start g.stop c.by c.is in
          let (t, k, e) = same_place g.start g.stop c.reached (omega (arith, far.left, c.at)) (omega (arith, far.right, c.at)) (λ i. absurd (omega (arith, far.left, c.at))) in
          let p = parts_of q g.start g.stop c.by t c.is k in
          sym e ∙ ap (place_of x) p.is ∙ place_at x g.start g.stop c.by p.left p.right c.at ∙ rw c.from

      pub leaf_place : (start stop : ℕ) (t : Tree) → Grows q start stop t → is_cut (ruling q start stop) ≡ false → place_of x t ≡ uncut_in (record { start = start; stop = stop })
      unfolding place_of
      leaf_place start stop t (as_leaf h) u = refl
      leaf_place start stop t (as_node h a b) u = absurd (true≢false (sym (ap is_cut h) ∙ u))

      pub held_place : (g : Segment) → HeldBy q x g → place_of x T ≡ uncut_in g
      held_place g h =
          let (t, k, e) = same_place g.start g.stop h.reached h.low h.high (λ i. h.no_cut) in
          sym e ∙ leaf_place g.start g.stop t k h.uncut

      -- ---- so of a row of the run
      module _ (row : x < q.n) where
        pub place_cut : (g : Segment) (o : Origin) → place_of x T ≡ at_cut g o → CutOf q x g o
        place_cut g o e = rw e at (stands 0 q.n T whole run (omega arith) row)

        pub place_held : (g : Segment) → place_of x T ≡ uncut_in g → HeldBy q x g
        place_held g e =
            let w : Uncut g = rw e at (stands 0 q.n T whole run (omega arith) row) in
            record { no_cut = λ c. let (h, o, k) = cut_of_lem c in let f = cut_place h o k in never (cc); reached = w.reached; uncut = w.uncut; low = w.low; high = w.high }

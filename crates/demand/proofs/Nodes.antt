-- The node list shows the reached segments, each once. Assumes nothing.
use mathlib.Core.Path.{◌≡◌, refl, ap}
use mathlib.Core.Logic.{◌↔◌, ⊎_elim}
use mathlib.Core.List.Memᴰ
use mathlib.Core.List.{List, [], ◌∷◌, ◌++◌, map, map-append}
use Prim.Native.Nat.{ℕ, ◌+◌, ◌≤◌, ◌<◌}
use native.Mathlib.Omega.{arith}
use Rattle.scope.specs.Lists.{◌∈◌, Distinct}
use Rattle.scope.specs.Layers.{Segment}
use Rattle.scope.specs.Tree.{Run, Tree, leaf, node, nodes, node_count}
use Rattle.demand.specs.Reached.{Reached, run, left, right}
use Rattle.demand.specs.Grows.{Grows, as_leaf, as_node}
use Rattle.demand.specs.Told.{segment_of}
use Rattle.demand.proofs.Cut.{cut_far}
use Rattle.demand.proofs.Grows.{lifted}

-- the segments of a tree, in preorder
unfoldable pub segments : Tree → List Segment
segments (leaf start stop o) = record { start = start; stop = stop } ∷ []
segments (node start stop r s t) = record { start = start; stop = stop } ∷ (segments s ++ segments t)

pub nodes_segments : (p : ℕ) (t : Tree) → map segment_of (nodes p t) ≡ segments t
unfolding nodes segments
nodes_segments p (leaf start stop o) = refl
nodes_segments p (node start stop r s t) = rw (map-append segment_of, nodes_segments (p + 1) s, nodes_segments (p + 1 + node_count s) t)

-- a fact of a node's segment and of those of both parts
everywhere : (start stop : ℕ) (xs ys : List Segment) (P : Segment → Type 0) → P (record { start = start; stop = stop }) → ((s : Segment) → s ∈ xs → P s)
    → ((s : Segment) → s ∈ ys → P s) → (s : Segment) → s ∈ record { start = start; stop = stop } ∷ (xs ++ ys) → P s
everywhere start stop xs ys P f g h s i = ⊎_elim (λ e. rw e f) (λ j. ⊎_elim (g s) (h s) (Memᴰ.append_cases xs j)) (Memᴰ.cases_cons i)

module _ (q : Run) where
  off_nodes : (start stop : ℕ) (t : Tree) → Grows q start stop t → Reached q start stop → (s : Segment) → s ∈ segments t → Reached q s.start s.stop
  unfolding segments
  off_nodes start stop t (as_leaf h) at s i = rw (Memᴰ.eq_of_singleton i) at
  off_nodes start stop t (as_node {r = r} {s = l} {t = u} h x y) at s i =
      everywhere start stop (segments l) (segments u) (λ s. Reached q s.start s.stop) at (off_nodes start r.split l x (left at h)) (off_nodes r.split stop u y (right at h)) s i

  first_segment : (start stop : ℕ) (t : Tree) → Grows q start stop t → record { start = start; stop = stop } ∈ segments t
  unfolding segments
  first_segment start stop t (as_leaf h) = Memᴰ.head refl
  first_segment start stop t (as_node h x y) = Memᴰ.head refl

  module _ (T : Tree) (whole : Grows q 0 q.n T) where
    onto_nodes : (s : Segment) → Reached q s.start s.stop → s ∈ segments T
    unfolding segments
    onto_nodes s at =
        let (t, g, f) = lifted q T whole (λ t. s ∈ segments t) (λ a e r l u i. Memᴰ.tail (Memᴰ.append_left _ i)) (λ a e r l u i. Memᴰ.tail (Memᴰ.append_right (segments l) i)) s.start s.stop at in
        f (first_segment s.start s.stop t g)

    pub on_nodes : (s : Segment) → s ∈ map segment_of (nodes 0 T) ↔ Reached q s.start s.stop
    on_nodes s = rw (nodes_segments 0 T) (off_nodes 0 q.n T whole run s, onto_nodes s)

-- ---- each once
distinct_append : {A : Type 0} (xs ys : List A) → Distinct xs → Distinct ys → ((x : A) → x ∈ xs → x ∈ ys → ⊥) → Distinct (xs ++ ys)
distinct_append [] ys h k apart = k
distinct_append (x ∷ xs) ys h k apart = (
  λ y i. ⊎_elim (h.0 y) (λ j e. apart x (Memᴰ.head refl) (Memᴰ.cast e j)) (Memᴰ.append_cases xs i),
  distinct_append xs ys h.1 k (λ y i j. apart y (Memᴰ.tail i) j),
)

-- a tree's segments lie in [start, stop), none is empty, and each stands once
record Once (start stop : ℕ) (t : Tree) : Type 0 where
  low : (s : Segment) → s ∈ segments t → start ≤ s.start
  high : (s : Segment) → s ∈ segments t → s.stop ≤ stop
  filled : (s : Segment) → s ∈ segments t → s.start < s.stop
  once : Distinct (segments t)

module _ (q : Run) (least : 1 ≤ q.shortest.m) where
  grown_once : (start stop : ℕ) (t : Tree) → Grows q start stop t → start < stop → Once start stop t
  unfolding segments
  grown_once start stop t (as_leaf h) nonempty =
      record {
        low = λ s i. rw (Memᴰ.eq_of_singleton i) (omega arith);
        high = λ s i. rw (Memᴰ.eq_of_singleton i) (omega arith);
        filled = λ s i. rw (Memᴰ.eq_of_singleton i) nonempty;
        once = (λ s i. absurd (Memᴰ.not-nil i), tt);
      }
  grown_once start stop t (as_node {r = r} {s = l} {t = u} h x y) nonempty =
      let far = cut_far q start stop r h in
      let L = grown_once start r.split l x (omega arith) in
      let R = grown_once r.split stop u y (omega arith) in
      record {
        low = everywhere start stop (segments l) (segments u) (λ s. start ≤ s.start) (omega arith) L.low (λ s i. omega (arith, R.low s i));
        high = everywhere start stop (segments l) (segments u) (λ s. s.stop ≤ stop) (omega arith) (λ s i. omega (arith, L.high s i)) R.high;
        filled = everywhere start stop (segments l) (segments u) (λ s. s.start < s.stop) nonempty L.filled R.filled;
        once = (
          λ s i e.
              ⊎_elim (λ j. omega (arith, L.high s j, ap (λ (z : Segment). z.stop) e)) (λ j. omega (arith, R.low s j, ap (λ (z : Segment). z.start) e))
              (Memᴰ.append_cases (segments l) i),
          distinct_append (segments l) (segments u) L.once R.once (λ s i j. omega (arith, L.high s i, L.filled s i, R.low s j)),
        );
      }

  pub nodes_once : (T : Tree) → Grows q 0 q.n T → 1 ≤ q.n → Distinct (map segment_of (nodes 0 T))
  nodes_once T whole nonempty = rw (nodes_segments 0 T) (grown_once 0 q.n T whole nonempty).once

-- What the nodes tell is so: choice, significance, and the places of both parts. Assumes nothing.
use mathlib.Core.Path.{◌≡◌, refl, sym, ◌∙◌, ap}
use mathlib.Core.Logic.{⊎_elim}
use mathlib.Core.Bool.{true≢false}
use mathlib.Core.List.Memᴰ
use mathlib.Core.List.{List, [], ◌∷◌, ◌++◌, map, append-nil, append_assoc}
use Prim.Native.Nat.{ℕ, suc, ◌+◌}
use lib.ListN.{length, length-append}
use lib.Seq.{get_or_at}
use Rattle.scope.specs.Lists.{◌∈◌}
use Rattle.scope.specs.Layers.{Segment}
use Rattle.scope.specs.Tree.{Run, Tree, leaf, node, Node, nodes, node_count}
use Rattle.demand.specs.Reached.{ruling, is_cut}
use Rattle.demand.specs.Grows.{Grows, as_leaf, as_node}
use Rattle.demand.specs.Told.{segment_of, Placed, Told}
use Rattle.demand.proofs.Cut.{cut_choice, uncut_choice}
use Rattle.demand.proofs.Grows.{uncut_cut, cut_one}
use Rattle.demand.proofs.Nodes.{segments, nodes_segments}

length_segments : (t : Tree) → length (segments t) ≡ node_count t
unfolding segments node_count
length_segments (leaf start stop o) = refl
length_segments (node start stop r s t) = ap suc (length-append (segments s) (segments t) ∙ rw (length_segments s, length_segments t))

-- a part's segments stand behind those before it
shifted : (before : List Segment) (z : Segment) (xs ys after : List Segment) → before ++ ((z ∷ (xs ++ ys)) ++ after) ≡ (before ++ (z ∷ [])) ++ (xs ++ (ys ++ after))
shifted before z xs ys after = simp append_assoc

regrouped : (before : List Segment) (z : Segment) (xs ys after : List Segment) → before ++ ((z ∷ (xs ++ ys)) ++ after) ≡ ((before ++ (z ∷ [])) ++ xs) ++ (ys ++ after)
regrouped before z xs ys after = simp append_assoc

length_one : (before : List Segment) (z : Segment) (k : ℕ) → length before ≡ k → length (before ++ (z ∷ [])) ≡ k + 1
length_one before z k e = length-append before (z ∷ []) ∙ ap (λ (x : ℕ). x + 1) e

length_more : (before : List Segment) (t : Tree) (k : ℕ) → length before ≡ k → length (before ++ segments t) ≡ k + node_count t
length_more before t k e = length-append before (segments t) ∙ rw (e, length_segments t)

module _ (q : Run) where
  -- the tree's own segment is the first
  own_first : (start stop : ℕ) (t : Tree) → Grows q start stop t → (before after : List Segment) (k : ℕ) → length before ≡ k
      → Placed (before ++ (segments t ++ after)) k (record { start = start; stop = stop })
  unfolding segments
  own_first start stop t (as_leaf h) before after k e past = get_or_at before _ _ past k e
  own_first start stop t (as_node h x y) before after k e past = get_or_at before _ _ past k e

  tells : (start stop : ℕ) (t : Tree) → Grows q start stop t → (before after : List Segment) (k : ℕ) → length before ≡ k
      → (d : Node) → d ∈ nodes k t → Told q (before ++ (segments t ++ after)) d
  unfolding nodes segments
  tells start stop t (as_leaf {o = o} h) before after k e d i =
      rw (Memᴰ.eq_of_singleton i)
      (record {
        choice_is = sym (uncut_choice q start stop o h);
        significant_is = sym (ap is_cut h);
        left_is = λ r c. uncut_cut (ruling q start stop) o r h c;
        right_is = λ r c. uncut_cut (ruling q start stop) o r h c;
        leaf_is = λ c. (refl, refl);
      })
  tells start stop t (as_node {r = r} {s = l} {t = u} h x y) before after k e d i =
      let z : Segment = record { start = start; stop = stop } in
      let e₁ = length_one before z k e in
      let e₂ = length_more (before ++ (z ∷ [])) l (k + 1) e₁ in
      ⊎_elim
      (λ w.
      rw w
      (record {
        choice_is = sym (cut_choice q start stop r h).0;
        significant_is = sym (ap is_cut h);
        left_is = λ c j past. rw (shifted before z (segments l) (segments u) after, cut_one (ruling q start stop) c r j h) (own_first start r.split l x (before ++ (z ∷ [])) (segments u ++ after) (k + 1) e₁ past);
        right_is = λ c j past. rw (regrouped before z (segments l) (segments u) after, cut_one (ruling q start stop) c r j h) (own_first r.split stop u y ((before ++ (z ∷ [])) ++ segments l) after (k + 1 + node_count l) e₂ past);
        leaf_is = λ c. absurd (true≢false (sym (ap is_cut h) ∙ c));
      }))
      (λ j.
      ⊎_elim
      (λ m. rw (shifted before z (segments l) (segments u) after) (tells start r.split l x (before ++ (z ∷ [])) (segments u ++ after) (k + 1) e₁ d m))
      (λ m. rw (regrouped before z (segments l) (segments u) after) (tells r.split stop u y ((before ++ (z ∷ [])) ++ segments l) after (k + 1 + node_count l) e₂ d m))
      (Memᴰ.append_cases (nodes (k + 1) l) j))
      (Memᴰ.cases_cons i)

  pub nodes_told : (T : Tree) → Grows q 0 q.n T → (d : Node) → d ∈ nodes 0 T → Told q (map segment_of (nodes 0 T)) d
  nodes_told T whole d i = rw (nodes_segments 0 T, ← append-nil (segments T)) (tells 0 q.n T whole [] [] 0 refl d i)

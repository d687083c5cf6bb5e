-- The records that growing appends change no choice: the threaded tree is the one that the stored segments' records alone give, and what it appends are its
-- segments' direct records in preorder. Assumes nothing.
use mathlib.Core.Path.{◌≡◌, refl, sym, ◌∙◌}
use mathlib.Core.Logic.{⊎_elim}
use mathlib.Core.List.Memᴰ
use mathlib.Core.List.{List, [], ◌++◌, append-nil, append_assoc}
use Prim.Native.Nat.{ℕ, zero, suc, ◌-◌, ◌≤◌, ◌<◌}
use native.Mathlib.Omega.{arith}
use Rattle.scope.specs.Lists.{◌∈◌}
use Rattle.scope.specs.Grid.{Record}
use Rattle.scope.specs.Layers.{one}
use Rattle.scope.specs.Tree.{Run, direct, stored_records, choice, Verdict, uncut, cut, verdict, Tree, Grown, grow, grown}
use Rattle.demand.specs.Reached.{ruling}
use Rattle.demand.specs.Grows.{Grows, as_leaf, as_node, directs}
use Rattle.demand.proofs.Records.{direct_found, one_found}
use Rattle.demand.proofs.Inside.{inside_append, none_inside}
use Rattle.demand.proofs.Cut.{cut_far}

-- none of these lies inside [start, stop)
abbrev Outside : ℕ → ℕ → List Record → Type 0
Outside start stop rs = (r : Record) → r ∈ rs → start ≤ r.start → r.stop ≤ stop → ⊥

appended : (ss rs ms d : List Record) → rs ≡ ss ++ ms → rs ++ d ≡ ss ++ (ms ++ d)
appended ss rs ms d e = rw e (append_assoc ss ms d)

joined : (d l l' r r' : List Record) → l ≡ l' → r ≡ r' → d ++ (l ++ r) ≡ d ++ (l' ++ r')
joined d l l' r r' h k = cc

-- g is what [start, stop) grows to by the stored segments' records alone, and its direct records
record Same (q : Run) (start stop : ℕ) (g : Grown) : Type 0 where
  tree_is : Grows q start stop g.tree
  made_is : g.made ≡ directs q g.tree

module _ (q : Run) where
  same_ruling : (rs : List Record) (start stop : ℕ) → Outside start stop rs → verdict q (stored_records q ++ rs) start stop ≡ ruling q start stop
  unfolding ruling verdict choice
  same_ruling rs start stop h = rw (inside_append, none_inside start stop rs h, append-nil)

  one_ends : (start stop : ℕ) (r : Record) → r ∈ one (direct q start stop) → (r.start ≡ start) × (r.stop ≡ stop)
  one_ends start stop r i = let f = direct_found q start stop r (one_found (direct q start stop) r i) in (f.start_is, f.stop_is)

  module _ (least : 1 ≤ q.shortest.m) where
    made_before : (start stop : ℕ) (t : Tree) → Grows q start stop t → start < stop → (r : Record) → r ∈ directs q t → r.start < stop
    unfolding directs
    made_before start stop t (as_leaf h) nonempty r i = omega (arith, one_ends start stop r i)
    made_before start stop t (as_node {r = c} {s = l} {t = u} h x y) nonempty r i =
        let far = cut_far q start stop c h in
        ⊎_elim (λ j. omega (arith, one_ends start stop r j))
        (λ j. ⊎_elim (λ w. omega (arith, made_before start c.split l x (omega arith) r w)) (made_before c.split stop u y (omega arith) r) (Memᴰ.append_cases (directs q l) j))
        (Memᴰ.append_cases (one (direct q start stop)) i)

    abbrev Grow : ℕ → Type 0
    Grow k = (start stop : ℕ) (rs ms : List Record) → rs ≡ stored_records q ++ ms → start < stop → stop - start ≤ k → Outside start stop ms → Same q start stop (grow q k rs start stop)

    grow_cut : (k : ℕ) → Grow k → (start stop : ℕ) (rs ms : List Record) → rs ≡ stored_records q ++ ms → stop - start ≤ suc k → Outside start stop ms
        → (c : Record) → ruling q start stop ≡ cut c → Same q start stop (grow q (suc k) rs start stop)
    unfolding grow directs
    grow_cut k ih start stop rs ms e le out c w =
        let d = one (direct q start stop) in
        let far = cut_far q start stop c w in
        let more = appended (stored_records q) rs ms d e in
        let l = grow q k (rs ++ d) start c.split in
        let L = ih start c.split (rs ++ d) (ms ++ d) more (omega arith) (omega arith)
        (λ r i a b. ⊎_elim (λ j. out r j a (omega arith)) (λ j. omega (arith, one_ends start stop r j)) (Memᴰ.append_cases ms i)) in
        let R = ih c.split stop ((rs ++ d) ++ l.made) ((ms ++ d) ++ l.made) (appended (stored_records q) (rs ++ d) (ms ++ d) l.made more) (omega arith) (omega arith)
        (λ r i a b. ⊎_elim
        (λ j. ⊎_elim (λ x. out r x (omega arith) b) (λ x. omega (arith, one_ends start stop r x)) (Memᴰ.append_cases ms j))
        (λ j. omega (arith, made_before start c.split l.tree L.tree_is (omega arith) r (rw L.made_is at j)))
        (Memᴰ.append_cases (ms ++ d) i)) in
        let here : verdict q rs start stop ≡ cut c = rw e (same_ruling ms start stop out ∙ w) in
        rw here (record { tree_is = as_node w L.tree_is R.tree_is; made_is = joined d l.made (directs q l.tree) _ _ L.made_is R.made_is })

    grow_same : (k : ℕ) → Grow k
    unfolding grow directs
    grow_same zero start stop rs ms e nonempty le out = absurd (omega arith)
    grow_same (suc k) start stop rs ms e nonempty le out = go (ruling q start stop) refl (grow_same k)
      where
        go : (v : Verdict) → ruling q start stop ≡ v → Grow k → Same q start stop (grow q (suc k) rs start stop)
        go (uncut o) w ih = let here : verdict q rs start stop ≡ uncut o = rw e (same_ruling ms start stop out ∙ w) in rw here (record { tree_is = as_leaf w; made_is = refl })
        go (cut c) w ih = grow_cut k ih start stop rs ms e le out c w

    grown_same : 1 ≤ q.n → Same q 0 q.n (grown q)
    unfolding grown
    grown_same nonempty = grow_same q.n 0 q.n (stored_records q) [] (sym (append-nil (stored_records q))) nonempty (omega arith) (λ r i. absurd (Memᴰ.not-nil i))

    pub grown_grows : 1 ≤ q.n → Grows q 0 q.n (grown q).tree
    grown_grows nonempty = (grown_same nonempty).tree_is

    pub grown_made : 1 ≤ q.n → (grown q).made ≡ directs q (grown q).tree
    grown_made nonempty = (grown_same nonempty).made_is

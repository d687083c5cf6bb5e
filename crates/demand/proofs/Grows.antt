-- The tree that a segment grows to: there is one, and what holds of a reached segment's tree is handed up to the run's. Assumes nothing.
use mathlib.Core.Path.{◌≡◌, ◌∙◌, ap}
use mathlib.Core.Option.{Option}
use Prim.Native.Nat.{ℕ}
use Rattle.scope.specs.Grid.{Record}
use Rattle.scope.specs.Tree.{Run, Verdict, uncut, cut, Tree, leaf, node}
use Rattle.scope.proofs.Never.{never}
use Rattle.demand.specs.Reached.{ruling, Reached, run, left, right}
use Rattle.demand.specs.Grows.{Grows, as_leaf, as_node}

pub uncut_cut : {X : Type 0} (v : Verdict) (o : Option Record) (r : Record) → v ≡ uncut o → v ≡ cut r → X
uncut_cut v o r h k = never (cc)

pub cut_one : (v : Verdict) (r z : Record) → v ≡ cut r → v ≡ cut z → r ≡ z
cut_one v r z h k = cc

uncut_one : (v : Verdict) (o p : Option Record) → v ≡ uncut o → v ≡ uncut p → o ≡ p
uncut_one v o p h k = cc

-- a cut segment's tree: its parts
pub record Parts (q : Run) (start stop : ℕ) (r : Record) (t : Tree) : Type 0 where
  pub left : Tree
  pub right : Tree
  pub is : t ≡ node start stop r left right
  pub grows_left : Grows q start r.split left
  pub grows_right : Grows q r.split stop right

module _ (q : Run) where
  pub parts_of : (start stop : ℕ) (r : Record) (t : Tree) → ruling q start stop ≡ cut r → Grows q start stop t → Parts q start stop r t
  parts_of start stop r t c (as_leaf {o = o} h) = uncut_cut (ruling q start stop) o r h c
  parts_of start stop r t c (as_node {r = z} {s = s} {t = u} h l k) =
      let e : z ≡ r = cut_one (ruling q start stop) z r h c in
      record { left = s; right = u; is = rw e; grows_left = rw e at l; grows_right = rw e at k }

  pub one_tree : (start stop : ℕ) (t u : Tree) → Grows q start stop t → Grows q start stop u → u ≡ t
  one_tree start stop t u (as_leaf {o = o} h) (as_leaf {o = p} k) = ap (leaf start stop) (uncut_one (ruling q start stop) p o k h)
  one_tree start stop t u (as_leaf {o = o} h) (as_node {r = r} k x y) = uncut_cut (ruling q start stop) o r h k
  one_tree start stop t u (as_node {r = r} {s = a} {t = b} h x y) g =
      let p = parts_of start stop r u h g in
      p.is ∙ rw (one_tree start r.split a p.left x p.grows_left, one_tree r.split stop b p.right y p.grows_right)

  -- what a node has of its parts, the whole tree T has of every reached segment's tree
  module _ (T : Tree) (whole : Grows q 0 q.n T) (F : Tree → Type 0) (up_left : (start stop : ℕ) (r : Record) (s t : Tree) → F s → F (node start stop r s t))
      (up_right : (start stop : ℕ) (r : Record) (s t : Tree) → F t → F (node start stop r s t)) where
    pub lifted : (start stop : ℕ) → Reached q start stop → (t : Tree) × Grows q start stop t × (F t → F T)
    lifted start stop run = (T, whole, λ f. f)
    lifted start stop (left {stop = z} {r = r} h c) =
        let (t, g, f) = lifted start z h in
        let p = parts_of start z r t c g in
        (p.left, p.grows_left, λ x. f (rw p.is (up_left start z r p.left p.right x)))
    lifted start stop (right {start = z} {r = r} h c) =
        let (t, g, f) = lifted z stop h in
        let p = parts_of z stop r t c g in
        (p.right, p.grows_right, λ x. f (rw p.is (up_right z stop r p.left p.right x)))

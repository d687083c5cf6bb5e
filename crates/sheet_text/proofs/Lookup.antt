-- Of the records made in a run without stored segments, the first that splits at a cut's row is the one chosen there. Assumes nothing.
use mathlib.Core.Path.{◌≡◌, refl, ◌∙◌}
use mathlib.Core.Logic.{⊎_elim}
use mathlib.Core.Bool.{Bool, true, false, cond}
use mathlib.Core.List.Memᴰ
use mathlib.Core.List.{List, [], ◌∷◌, ◌++◌, map}
use mathlib.Core.Option.{Option, none, some}
use Rattle.std.specs.Prelude.{Some}
use Prim.Native.Nat.{ℕ, ◌≤◌, ◌<◌}
use native.Mathlib.Omega.{arith}
use borrow.Author.Tests.{eq-eqb, ne_eqb}
use lib.Dec.{eqb}
use Rattle.scope.specs.Lists.{◌∈◌}
use Rattle.scope.specs.Grid.{Record, best, blank, trial, trials}
use Rattle.scope.specs.Layers.{one}
use Rattle.scope.specs.Tree.{Run, direct, stored_records, inside, choice, chosen, cut, Tree, cuts, sheet, tree_of, records_of}
use Rattle.scope.specs.Program.{cut_lines}
use Rattle.demand.specs.Reached.{ruling}
use Rattle.demand.specs.Grows.{Grows, as_leaf, as_node, directs}
use Rattle.scope.proofs.Candidates.{one_at_most}
use Rattle.scope.proofs.Greatest.{first_one}
use Rattle.scope.proofs.Never.{never}
use Rattle.demand.proofs.Records.{allowed, direct_first, one_found, rows}
use Rattle.demand.proofs.Cut.{cut_choice, cut_far}
use Rattle.demand.proofs.Made.{grown_grows, grown_made}
use Rattle.sheet_text.specs.Lines.{first_at, lines_of}

-- ---- the first in a list
pub first_here : (x : ℕ) (r : Record) (rs : List Record) → r.split ≡ x → first_at x (r ∷ rs) ≡ Some r
unfolding first_at
first_here x r rs e = rw (eq-eqb r.split x e)

pub first_past : (x : ℕ) (r : Record) (rs : List Record) → (r.split ≡ x → ⊥) → first_at x (r ∷ rs) ≡ first_at x rs
unfolding first_at
first_past x r rs e = rw (ne_eqb r.split x e)

first_before : (x : ℕ) (r : Record) (rs more : List Record) → first_at x rs ≡ Some r → first_at x (rs ++ more) ≡ Some r
unfolding first_at
first_before x r [] more h = never (cc)
first_before x r (s ∷ rs) more h = go (eqb s.split x) h (first_before x r rs more)
  where
    go : (b : Bool) → cond b (Some s) (first_at x rs) ≡ Some r → (first_at x rs ≡ Some r → first_at x (rs ++ more) ≡ Some r) → cond b (Some s) (first_at x (rs ++ more)) ≡ Some r
    go true h later = h
    go false h later = later h

first_after : (x : ℕ) (rs more : List Record) → ((r : Record) → r ∈ rs → r.split ≡ x → ⊥) → first_at x (rs ++ more) ≡ first_at x more
first_after x [] more h = refl
first_after x (s ∷ rs) more h = first_past x s (rs ++ more) (h s (Memᴰ.head refl)) ∙ first_after x rs more (λ r i. h r (Memᴰ.tail i))

-- ---- where the splits lie
module _ (q : Run) (least : 1 ≤ q.shortest.m) where
  -- a direct record splits its segment before the end, be it at row 0 for want of a gain
  direct_before : (start stop : ℕ) (r : Record) → direct q start stop ≡ some r → 0 < stop → r.split < stop
  unfolding trials
  direct_before start stop r is some_row =
      ⊎_elim (λ (e : r ≡ blank start stop). rw e some_row)
      (λ i. let (x, j, e) = Memᴰ.of_map (trial q.gain start stop) (rows q start stop) i in let w = (allowed q start stop x).0 j in rw (← e) (omega (arith, w.high, one_at_most q.shortest)))
      (Memᴰ.cases_cons (first_one (direct_first q start stop r is)))

  directs_before : (start stop : ℕ) (t : Tree) → Grows q start stop t → start < stop → (r : Record) → r ∈ directs q t → r.split < stop
  unfolding directs
  directs_before start stop t (as_leaf h) nonempty r i = direct_before start stop r (one_found (direct q start stop) r i) (omega arith)
  directs_before start stop t (as_node {r = c} {s = l} {t = u} h x y) nonempty r i =
      let far = cut_far q start stop c h in
      ⊎_elim (λ j. direct_before start stop r (one_found (direct q start stop) r j) (omega arith))
      (λ j. ⊎_elim (λ w. omega (arith, directs_before start c.split l x (omega arith) r w)) (directs_before c.split stop u y (omega arith) r) (Memᴰ.append_cases (directs q l) j))
      (Memᴰ.append_cases (one (direct q start stop)) i)

  -- the cuts of a segment lie inside it
  cuts_between : (start stop : ℕ) (t : Tree) → Grows q start stop t → (r : Record) → r ∈ cuts t → (start < r.split) × (r.split < stop)
  unfolding cuts
  cuts_between start stop t (as_leaf h) r i = absurd (Memᴰ.not-nil i)
  cuts_between start stop t (as_node {r = c} {s = l} {t = u} h x y) r i =
      let far = cut_far q start stop c h in
      ⊎_elim (λ (j : r ∈ cuts l). let w = cuts_between start c.split l x r j in (w.0, omega arith))
      (λ (j : r ∈ c ∷ cuts u). ⊎_elim (λ (e : r ≡ c). rw e (omega arith, omega arith)) (λ (k : r ∈ cuts u). let w = cuts_between c.split stop u y r k in (omega arith, w.1)) (Memᴰ.cases_cons j))
      (Memᴰ.append_cases (cuts l) i)

  -- ---- without stored segments the chosen record is the direct one
  module _ (no_segments : stored_records q ≡ []) where
    cut_direct : (start stop : ℕ) (c : Record) → ruling q start stop ≡ cut c → direct q start stop ≡ some c
    unfolding choice inside best
    cut_direct start stop c h = go (direct q start stop) (rw no_segments at (cut_choice q start stop c h).0)
      where
        go : (o : Option Record) → chosen o [] ≡ some c → o ≡ some c
        go none e = never (cc)
        go (some d) e = e

    first_cut : (start stop : ℕ) (t : Tree) → Grows q start stop t → (r : Record) → r ∈ cuts t → first_at r.split (directs q t) ≡ Some r
    unfolding cuts directs
    first_cut start stop t (as_leaf h) r i = absurd (Memᴰ.not-nil i)
    first_cut start stop t (as_node {r = c} {s = l} {t = u} h x y) r i =
        let far = cut_far q start stop c h in
        let parts = directs q l ++ directs q u in
        rw (cut_direct start stop c h)
        (⊎_elim
        (λ j. let w = cuts_between start c.split l x r j in first_past r.split c parts (λ e. omega arith) ∙ first_before r.split r (directs q l) (directs q u) (first_cut start c.split l x r j))
        (λ j.
        ⊎_elim (λ (e : r ≡ c). rw e (first_here c.split c parts refl))
        (λ k.
        let w = cuts_between c.split stop u y r k in
        first_past r.split c parts (λ e. omega arith)
        ∙ first_after r.split (directs q l) (directs q u) (λ s p e. omega (arith, directs_before start c.split l x (omega arith) s p))
        ∙ first_cut c.split stop u y r k)
        (Memᴰ.cases_cons j))
        (Memᴰ.append_cases (cuts l) i))

    first_made : 1 ≤ q.n → (r : Record) → r ∈ cuts (tree_of q) → first_at r.split (records_of q) ≡ Some r
    unfolding records_of
    first_made nonempty r i = rw (no_segments, grown_made q least nonempty) (first_cut 0 q.n (tree_of q) (grown_grows q least nonempty) r i)

-- ---- so each cut's line is that of the first record at its row
lines_of_lem : (rs cs : List Record) → ((r : Record) → r ∈ cs → first_at r.split rs ≡ Some r) → lines_of rs (map (λ (r : Record). r.split) cs) ≡ cut_lines cs
unfolding lines_of cut_lines
lines_of_lem rs [] h = refl
lines_of_lem rs (c ∷ cs) h = rw (h c (Memᴰ.head refl), lines_of_lem rs cs (λ r i. h r (Memᴰ.tail i)))

-- THE LAW: the rows of the sheet, looked up among the records made, give the lines of the chosen records
pub lines_are : (q : Run) → 1 ≤ q.shortest.m → 1 ≤ q.n → stored_records q ≡ [] → lines_of (records_of q) (sheet (tree_of q)) ≡ cut_lines (cuts (tree_of q))
unfolding sheet
lines_are q least nonempty none-stored = lines_of_lem (records_of q) (cuts (tree_of q)) (first_made q least none-stored nonempty)

-- The sheet: exactly the cuts of reached segments, ascending, and spaced. Assumes nothing.
use mathlib.Core.Path.{◌≡◌, refl, sym}
use mathlib.Core.Logic.{◌↔◌, ⊎_elim}
use mathlib.Core.List.Memᴰ
use mathlib.Core.List.{List, [], ◌∷◌, ◌++◌, map-append}
use Prim.Native.Nat.{ℕ, suc, ◌+◌, ◌*◌, ◌≤◌, ◌<◌}
use native.Mathlib.Omega.{arith}
use lib.ListN.{length}
use Rattle.scope.specs.Lists.{◌∈◌}
use Rattle.scope.specs.Asked.{one_more, end_of}
use Rattle.scope.specs.Allowed.{Ascending}
use Rattle.scope.specs.Grid.{Record}
use Rattle.scope.specs.Tree.{Run, Tree, node, cuts, sheet}
use Rattle.scope.proofs.Candidates.{one_at_most}
use Rattle.demand.specs.Reached.{Reached, run, left, right, Chosen, CutAt}
use Rattle.demand.specs.Grows.{Grows, as_leaf, as_node}
use Rattle.demand.specs.Spaced.{Spaced, last_gap}
use Rattle.demand.proofs.Cut.{cut_far}
use Rattle.demand.proofs.Grows.{parts_of, lifted}

abbrev split_of : Record → ℕ
split_of r = r.split

pub sheet_node : (start stop : ℕ) (r : Record) (s t : Tree) → sheet (node start stop r s t) ≡ sheet s ++ (r.split ∷ sheet t)
unfolding sheet cuts
sheet_node start stop r s t = map-append split_of (cuts s) (r ∷ cuts t)

-- ---- what is on the sheet
module _ (q : Run) where
  off_cuts : (start stop : ℕ) (t : Tree) → Grows q start stop t → Reached q start stop → (r : Record) → r ∈ cuts t → Chosen q r
  unfolding cuts
  off_cuts start stop t (as_leaf h) at r i = absurd (Memᴰ.not-nil i)
  off_cuts start stop t (as_node {r = z} {s = s} {t = u} h x y) at r i =
      ⊎_elim (off_cuts start z.split s x (left at h) r)
      (λ j. ⊎_elim (λ (e : r ≡ z). record { start = start; stop = stop; reached = at; is = rw e h }) (off_cuts z.split stop u y (right at h) r) (Memᴰ.cases_cons j))
      (Memᴰ.append_cases (cuts s) i)

  module _ (T : Tree) (whole : Grows q 0 q.n T) where
    onto_cuts : (r : Record) → Chosen q r → r ∈ cuts T
    unfolding cuts
    onto_cuts r c =
        let (t, g, f) = lifted q T whole (λ t. r ∈ cuts t) (λ a e z s u i. Memᴰ.append_left _ i) (λ a e z s u i. Memᴰ.append_right (cuts s) (Memᴰ.tail i)) c.start c.stop c.reached in
        let p = parts_of q c.start c.stop r t c.is g in
        f (rw p.is (Memᴰ.append_right (cuts p.left) (Memᴰ.head refl)))

    pub on_cuts : (r : Record) → r ∈ cuts T ↔ Chosen q r
    on_cuts r = (off_cuts 0 q.n T whole run r, onto_cuts r)

    pub on_sheet : (x : ℕ) → x ∈ sheet T ↔ CutAt q x
    unfolding sheet
    on_sheet x = (
      λ i. let (r, j, e) = Memᴰ.of_map split_of (cuts T) i in record { by = r; chosen = (on_cuts r).0 j; at = sym e },
      λ c. rw c.at (Memᴰ.map split_of ((on_cuts c.by).1 c.chosen)),
    )

-- ---- how the cuts are spaced
spaced_join : (m last start : ℕ) (xs : List ℕ) (x : ℕ) (ys : List ℕ) (stop : ℕ) → Spaced m m start xs x → Spaced m last x ys stop → Spaced m last start (xs ++ (x ∷ ys)) stop
spaced_join m last start [] x ys stop h k = (h, k)
spaced_join m last start (z ∷ xs) x ys stop h k = (h.0, spaced_join m last z xs x ys stop h.1 k)

pub spaced_least : (m last start : ℕ) (xs : List ℕ) (stop : ℕ) → Spaced m last start xs stop → start + length xs * m + last ≤ stop
spaced_least m last start [] stop h = omega arith
spaced_least m last start (x ∷ xs) stop h = omega (arith, h.0, spaced_least m last x xs stop h.1)

ascending_spaced : (m last start : ℕ) (xs : List ℕ) (stop lo : ℕ) → 1 ≤ m → lo ≤ start + 1 → Spaced m last start xs stop → Ascending lo xs
ascending_spaced m last start [] stop lo least h k = tt
ascending_spaced m last start (x ∷ xs) stop lo least h k = (omega (arith, k.0), ascending_spaced m last x xs stop (x + 1) least (omega arith) k.1)

module _ (q : Run) where
  spaced : (start stop : ℕ) (t : Tree) → Grows q start stop t → (last : ℕ) → one_more q.shortest + last ≤ suc q.shortest.m → start + last ≤ stop
      → Spaced q.shortest.m last start (sheet t) stop
  unfolding sheet cuts
  spaced start stop t (as_leaf h) last small fits = fits
  spaced start stop t (as_node {r = r} {s = s} {t = u} h x y) last small fits =
      let far = cut_far q start stop r h in
      rw (sheet_node start stop r s u)
      (spaced_join q.shortest.m last start (sheet s) r.split (sheet u) stop (spaced start r.split s x q.shortest.m (omega (arith, one_at_most q.shortest)) far.left) (spaced r.split stop u y last small (omega arith)))

  long : (start stop : ℕ) (t : Tree) → Grows q start stop t → 0 < length (sheet t) → start + suc q.shortest.m ≤ end_of q.shortest stop
  unfolding sheet cuts
  long start stop t (as_leaf h) any = absurd (let empty : 0 < 0 = any in omega arith)
  long start stop t (as_node {r = r} h x y) any = omega (arith, cut_far q start stop r h)

  module _ (T : Tree) (whole : Grows q 0 q.n T) where
    pub sheet_spaced : 0 < length (sheet T) → Spaced q.shortest.m (last_gap q.shortest) 0 (sheet T) q.n
    sheet_spaced any = let few = one_at_most q.shortest in spaced 0 q.n T whole (last_gap q.shortest) (omega arith) (omega (arith, long 0 q.n T whole any))

    pub sheet_ascends : 1 ≤ q.shortest.m → Ascending 0 (sheet T)
    sheet_ascends least = ascending_spaced q.shortest.m 0 0 (sheet T) q.n 0 least (omega arith) (spaced 0 q.n T whole 0 (omega (arith, one_at_most q.shortest)) (omega arith))

-- What is left of a row's order without the row, and where that is the order without its first: Others. Assumes nothing.
use mathlib.Core.Path.{◌≡◌, refl, sym, ◌∙◌, ap, subst}
use mathlib.Core.Logic.{◌≢◌, ◌↔◌, inl, inr, ⊎_elim}
use mathlib.Core.Bool.{Bool, true, false, not, ◌&&◌, true≢false}
use mathlib.Core.List.Memᴰ
use mathlib.Core.List.{List, [], ◌∷◌}
use Prim.Native.Nat.{ℕ, zero, suc, ◌+◌, ◌-◌, ◌*◌, ◌≤◌, ◌<◌, min}
use native.Mathlib.Decide.{dec_lt}
use native.Mathlib.Omega.{arith}
use borrow.Author.Tests.{eqb-true, eqb-false, eq-eqb, ne_eqb, ltb-true, leb-true, lt-ltb, le-leb, not-true}
use lib.Dec.{leb, ltb, eqb}
use lib.Ieee.{Float, add, mul, sum, round, eq}
use lib.ListN.{length, get_or, drop, length-take}
use Rattle.scope.specs.Floats.{+0, is_finite}
use Rattle.scope.specs.Lists.{◌∈◌, Distinct, upward, keep, select, every}
use Rattle.scope.specs.Rounding.{whole_root}
use Rattle.scope.specs.Refusals.{told_unless}
use Rattle.scope.specs.Neighbours.{difference, squares, distances, order_of, others, neighbours, count_of, predictions}
use Rattle.scope.specs.Sorted.{Before, Sorted, SortedRows}
use Rattle.scope.specs.Calls.{PredictAsked, predict_refusal, predictions_of, predict_call}
use Rattle.scope.specs.FirstDropped as before
use Rattle.scope.specs.Others.{NoneLower, WithoutRow, Nearest, LeaveOneOut}
use Rattle.scope.proofs.Lists.{take_in, select_are, select_all, length_upward, upward_are}
use Rattle.scope.proofs.Members.{first_of_lem, second_of, pairwise_select, take_pairwise, same_length, upward_distinct}
use Rattle.scope.proofs.Signs.{unsigned, distance_at, cell_finite, squares_unsigned}
use Rattle.scope.proofs.Zeros.{less_itself, none_below, above_0, none_above}
use Rattle.scope.proofs.Ordering.{before_asym, sorted_distinct, order_is}
use Rattle.scope.proofs.Numbers.{predict_sized, some_segment}

-- ---- a list without a row
module _ (row : ℕ) where
  others_are : (l : List ℕ) (j : ℕ) → (j ∈ others row l) ↔ ((j ∈ l) × (j ≢ row))
  unfolding others
  others_are l j = (λ m. let (i, h) = select_are (λ j. not (eqb j row)) l j m in (i, eqb-false j row (not-true _ h)), λ h. select_all (λ j. not (eqb j row)) l j h.0 (ap not (ne_eqb j row h.1)))

  -- one that doesn't hold it
  others_all : (l : List ℕ) → ((j : ℕ) → j ∈ l → row ≢ j) → others row l ≡ l
  unfolding others select
  others_all [] h = refl
  others_all (x ∷ l) h = rw (ne_eqb x row (λ e. h x (Memᴰ.head refl) (sym e))) (ap (◌∷◌ x) (others_all l (λ j m. h j (Memᴰ.tail m))))

  -- one that holds nothing twice, and this first
  others_first : (x : ℕ) (l : List ℕ) → Distinct (x ∷ l) → (others row (x ∷ l) ≡ l) ↔ (x ≡ row)
  unfolding others select
  others_first x l u = (λ h. go (eqb x row) refl h, λ e. rw (eq-eqb x row e) (others_all l (λ j m f. u.0 j m (e ∙ f))))
    where
      go : (b : Bool) → eqb x row ≡ b → keep (not b) x (others row l) ≡ l → x ≡ row
      go true e h = eqb-true x row e
      go false e h = absurd (u.0 x (subst (λ (m : List ℕ). x ∈ m) h (Memᴰ.head refl)) refl)

-- ---- the order of row i: the rows of finite cells, in order of their distances
module _ (cells : List Float) (n d : ℕ) (finite : every is_finite cells ≡ true) (sized : length cells ≡ n * d) (i : ℕ) (row : i < n) where
  abbrev ds : List Float
  ds = distances cells d i n

  abbrev order : List ℕ
  order = order_of cells n d i

  ordered : SortedRows ds 0 n order
  ordered = (order_is cells n d finite sized i row order).0 refl

  -- all n rows stand in it, and no others
  listed : (j : ℕ) → (j ∈ order) ↔ (j < n)
  listed j = (λ m. let h = ordered.rows.inside j m in omega arith, λ h. ordered.rows.all j (omega arith) (omega arith))

  -- its distance to itself is 0
  to_itself : (c : ℕ) → c ≤ d → squares cells d i i c ≡ +0
  unfolding squares difference add mul sum round
  to_itself zero h = refl
  to_itself (suc c) h = rw (to_itself c (omega arith), less_itself _ (cell_finite cells n d finite sized i c row h)) refl

  distance : (j : ℕ) → j < n → get_or ds j +0 ≡ squares cells d i j d
  distance j h = distance_at cells d i n j +0 h

  here : get_or ds i +0 ≡ +0
  here = distance i row ∙ to_itself d (omega arith)

  -- so it comes before every other row, unless one of lower index is at distance 0
  comes_first : NoneLower cells d i → (j : ℕ) → j < n → j ≢ i → Before ds i j
  comes_first none j h other = go (eq (squares cells d i j d) +0) refl (dec_lt j i)
    where
      bare : unsigned (squares cells d i j d) ≡ true
      bare = squares_unsigned cells n d finite sized i j d row h (omega arith)

      go : (b : Bool) → eq (squares cells d i j d) +0 ≡ b → Dec (j < i) → Before ds i j
      go false e _ = inl (rw (here, distance j h) (above_0 (squares cells d i j d) bare e))
      go true e (yes l) = absurd (none j l e)
      go true e (no l) = inr (rw (here, distance j h) (none_below (squares cells d i j d) bare), omega (arith, other))

  first_is : (x : ℕ) (l : List ℕ) → order ≡ x ∷ l → (x ≡ i) ↔ NoneLower cells d i
  first_is x l e = (after, first)
    where
      s : Sorted ds (x ∷ l)
      s = subst (Sorted ds) e ordered.sorted

      rows : (j : ℕ) → (j ∈ x ∷ l) ↔ (j < n)
      rows = subst (λ (m : List ℕ). (j : ℕ) → (j ∈ m) ↔ (j < n)) e listed

      after : x ≡ i → NoneLower cells d i
      after f j h z = ⊎_elim (λ (g : j ≡ x). omega arith) (λ (m : j ∈ l). go (subst (λ (y : ℕ). Before ds y j) f (s.0 j m))) (Memᴰ.cases_cons ((rows j).1 (omega arith)))
        where
          go : Before ds i j → ⊥
          go (inl k) = true≢false (sym (rw (here, distance j (omega arith)) at k) ∙ none_above (squares cells d i j d) z)
          go (inr k) = omega arith

      first : NoneLower cells d i → x ≡ i
      first none = ⊎_elim (λ (g : i ≡ x). sym g) (λ (m : i ∈ l). absurd (before_asym ds x i (s.0 i m) (comes_first none x ((rows x).0 (Memᴰ.head refl)) ((sorted_distinct ds (x ∷ l) s).0 i m)))) (Memᴰ.cases_cons ((rows i).1 row))

  first_dropped : (others i order ≡ drop 1 order) ↔ NoneLower cells d i
  first_dropped = go order refl
    where
      go : (l : List ℕ) → order ≡ l → (others i l ≡ drop 1 l) ↔ NoneLower cells d i
      go [] e = absurd (Memᴰ.not-nil (subst (λ (l : List ℕ). i ∈ l) e ((listed i).1 row)))
      go (x ∷ l) e =
          let u : Distinct (x ∷ l) = subst Distinct e (sorted_distinct ds order ordered.sorted) in
          let f = others_first i x l u in
          let g = first_is x l e in
          (λ h. g.0 (f.0 h), λ h. f.1 (g.1 h))

  without_row : WithoutRow cells n d i
  unfolding others
  without_row =
      record {
        rows = λ j. (
          λ m. let (k, h) = (others_are i order j).0 m in ((listed j).0 k, h),
          λ h. (others_are i order j).1 ((listed j).1 h.0, h.1),
        );
        sorted = pairwise_select (Before ds) (λ j. not (eqb j i)) order ordered.sorted;
        alone = λ h. first_dropped.1 (λ j l z. let e = h j (omega arith) z in omega arith);
        exactly = first_dropped;
      }

-- ---- the neighbours of row i of a segment
module _ (cells : List Float) (n d : ℕ) (finite : every is_finite cells ≡ true) (sized : length cells ≡ n * d) (start stop i : ℕ) (low : start ≤ i) (high : i < stop) (fit : stop ≤ n) where
  abbrev w : WithoutRow cells n d i
  w = without_row cells n d finite sized i (omega arith)

  abbrev inside : ℕ → Bool
  inside j = leb start j && ltb j stop

  -- all other rows of the segment, nearest first
  abbrev kept : List ℕ
  kept = select inside (others i (order_of cells n d i))

  kept_are : (j : ℕ) → (j ∈ kept) ↔ ((start ≤ j) × (j < stop) × (j ≢ i))
  kept_are j = (
    λ m.
        let (o, t) = select_are inside (others i (order_of cells n d i)) j m in
        (leb-true start j (first_of_lem (leb start j) (ltb j stop) t), ltb-true j stop (second_of (leb start j) (ltb j stop) t), ((w.rows j).0 o).1),
    λ h. select_all inside (others i (order_of cells n d i)) j ((w.rows j).1 (omega arith, h.2)) (rw (le-leb start j h.0, lt-ltb j stop h.1)),
  )

  kept_sorted : Sorted (distances cells d i n) kept
  kept_sorted = pairwise_select (Before (distances cells d i n)) inside (others i (order_of cells n d i)) w.sorted

  -- the row and they are the segment
  kept_many : suc (length kept) ≡ stop - start
  kept_many =
      same_length (i ∷ kept) (upward start (stop - start)) (λ j m e. ((kept_are j).0 m).2 (sym e), sorted_distinct (distances cells d i n) kept kept_sorted) (upward_distinct start (stop - start))
      (λ j m. (upward_are start (stop - start) j).1 (⊎_elim (λ (e : j ≡ i). (omega arith, omega arith)) (λ (k : j ∈ kept). let h = (kept_are j).0 k in (h.0, omega arith)) (Memᴰ.cases_cons m)))
      (λ j m. let h = (upward_are start (stop - start) j).0 m in go j h (eqb j i) refl)
      ∙ length_upward start (stop - start)
    where
      go : (j : ℕ) → (start ≤ j) × (j < start + (stop - start)) → (b : Bool) → eqb j i ≡ b → j ∈ i ∷ kept
      go j h true e = Memᴰ.head (eqb-true j i e)
      go j h false e = Memᴰ.tail ((kept_are j).1 (h.0, omega arith, eqb-false j i e))

  nearest_others : Nearest cells n d start stop i
  unfolding neighbours
  nearest_others =
      let k = whole_root (stop - start) in
      record {
        another = λ j m. (kept_are j).0 (take_in k kept j m);
        many = length-take k kept ∙ ap (min k) (omega (arith, kept_many));
        nearest = λ j l m a b c out. take_pairwise (Before (distances cells d i n)) k kept kept_sorted j l m ((kept_are l).1 (a, b, c)) out;
      }

-- ---- what a call is told
module _ (cells : List Float) (n d : ℕ) (finite : every is_finite cells ≡ true) (sized : length cells ≡ n * d) (start stop split : ℕ) (inside : stop ≤ n)
    (none : (i : ℕ) → start ≤ i → i < stop → NoneLower cells d i) where
  same_count : (i : ℕ) → start ≤ i → i < stop → count_of cells n d start stop split i ≡ before.count_of cells n d start stop split i
  unfolding count_of neighbours before.count_of before.neighbours before.others
  same_count i h k = rw ((first_dropped cells n d finite sized i (omega arith)).1 (none i h k))

  same_predictions : (k : ℕ) → k ≤ stop - start → predictions cells n d start stop split k ≡ before.predictions cells n d start stop split k
  unfolding predictions before.predictions
  same_predictions zero h = refl
  same_predictions (suc k) h = rw (same_predictions k (omega arith), same_count (start + k) (omega arith) (omega arith)) refl

pub leave_one_out : (a : PredictAsked) → LeaveOneOut a
unfolding predict_call
leave_one_out a =
    record {
      without = λ z i h k. let s = predict_sized a z in let fit = (some_segment a z).1 in without_row a.order.matrix.cells a.order.matrix.n a.order.matrix.d s.finite s.long i (omega arith);
      nearest = λ z i h k. let s = predict_sized a z in nearest_others a.order.matrix.cells a.order.matrix.n a.order.matrix.d s.finite s.long a.start a.stop i h k (some_segment a z).1;
      unchanged = λ none. go none (predict_refusal a) refl;
    }
  where
    go : ((i : ℕ) → a.start ≤ i → i < a.stop → NoneLower a.order.matrix.cells a.order.matrix.d i) → (k : ℕ) → predict_refusal a ≡ k → told_unless k (predictions_of a) ≡ told_unless k (before.predictions_of a)
    go none zero z =
        let x = a.order.matrix in
        let s = predict_sized a z in
        same_predictions x.cells x.n x.d s.finite s.long a.start a.stop a.split (some_segment a z).1 none (a.stop - a.start) (omega arith)
    go none (suc k) z = refl

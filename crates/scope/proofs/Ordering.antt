-- "Rows sorted by distance, equal ones by lower index": `ordered` gives the one list of its rows in which each comes before every later one. Assumes nothing.
use mathlib.Core.Path.{◌≡◌, refl, sym, ◌∙◌, ap, subst}
use mathlib.Core.Logic.{◌⊎◌, inl, inr, ⊎_elim, ◌↔◌}
use mathlib.Core.Bool.{Bool, true, false}
use mathlib.Core.List.Memᴰ
use mathlib.Core.List.{List, [], ◌∷◌}
use Prim.Native.Nat.{ℕ, zero, suc, ◌+◌, ◌*◌, ◌≤◌, ◌<◌}
use native.Mathlib.Decide.{dec_lt}
use native.Mathlib.Omega.{arith}
use lib.Ieee.{Float}
use lib.ListN.{length, get_or}
use Rattle.scope.specs.Floats.{+0, is_finite}
use Rattle.scope.specs.Greatest.{numeric}
use Rattle.scope.specs.Lists.{◌∈◌, Distinct, every}
use Rattle.scope.specs.Sorted.{Before, Sorted, Rows, SortedRows, NoNaN}
use Rattle.scope.specs.Neighbours.{is_nearer, insert, ordered, distances, order_of}
use Rattle.scope.proofs.Order.{both, lt_co, lt_asym, lt_trans}
use Rattle.scope.proofs.Signs.{distance_at, distance_numeric}
use Rattle.scope.proofs.Members.{same_list}

module _ (ds : List Float) where
  -- no two rows come before each other
  pub before_asym : (a b : ℕ) → Before ds a b → Before ds b a → ⊥
  before_asym a b (inl h) (inl k) = both h (lt_asym (get_or ds b +0) (get_or ds a +0) k)
  before_asym a b (inl h) (inr k) = both h k.0
  before_asym a b (inr h) (inl k) = both k h.0
  before_asym a b (inr h) (inr k) = omega arith

  pub sorted_distinct : (l : List ℕ) → Sorted ds l → Distinct l
  sorted_distinct [] s = tt
  sorted_distinct (x ∷ l) s = (λ y m e. let b : Before ds x x = subst (Before ds x) (sym e) (s.0 y m) in before_asym x x b b, sorted_distinct l s.1)

  -- x is no farther than y, and y comes before z, which has a higher index than x
  before_trans : (x y z : ℕ) → numeric (get_or ds y +0) ≡ true → is_nearer ds y x ≡ false → Before ds y z → x < z → Before ds x z
  before_trans x y z n h k l = inr (go (is_nearer ds z x) refl k, l)
    where
      go : (b : Bool) → is_nearer ds z x ≡ b → Before ds y z → b ≡ false
      go false e k = refl
      go true e (inl k) = both (lt_trans (get_or ds y +0) (get_or ds z +0) (get_or ds x +0) k e) h
      go true e (inr k) = both (lt_co (get_or ds z +0) (get_or ds y +0) (get_or ds x +0) n e h) k.0

  -- what holds of every insertion: into the empty list, past a nearer row, before a row that is no nearer
  module _ (x : ℕ) (P : List ℕ → List ℕ → Type 0) (none : P [] (x ∷ []))
      (past : (y : ℕ) (l : List ℕ) → is_nearer ds y x ≡ true → P l (insert ds x l) → P (y ∷ l) (y ∷ insert ds x l))
      (here : (y : ℕ) (l : List ℕ) → is_nearer ds y x ≡ false → P (y ∷ l) (x ∷ y ∷ l)) where
    inserted : (l : List ℕ) → P l (insert ds x l)
    unfolding insert
    inserted [] = none
    inserted (y ∷ l) = go (is_nearer ds y x) refl (inserted l)
      where
        go : (b : Bool) → is_nearer ds y x ≡ b → P l (insert ds x l) → P (y ∷ l) (insert ds x (y ∷ l))
        go true e h = rw e (past y l e h)
        go false e h = rw e (here y l e)

  insert_length : (x : ℕ) (l : List ℕ) → length (insert ds x l) ≡ suc (length l)
  insert_length x l = inserted x (λ l m. length m ≡ suc (length l)) refl (λ y l e h. ap suc h) (λ y l e. refl) l

  -- the members of insert: x and the list's
  insert_self : (x : ℕ) (l : List ℕ) → x ∈ insert ds x l
  insert_self x l = inserted x (λ l m. x ∈ m) (Memᴰ.head refl) (λ y l e h. Memᴰ.tail h) (λ y l e. Memᴰ.head refl) l

  insert_keeps : (x z : ℕ) (l : List ℕ) → z ∈ l → z ∈ insert ds x l
  insert_keeps x z l = inserted x (λ l m. z ∈ l → z ∈ m) Memᴰ.tail (λ y l e h m. ⊎_elim Memᴰ.head (λ (k : z ∈ l). Memᴰ.tail (h k)) (Memᴰ.cases_cons m)) (λ y l e m. Memᴰ.tail m) l

  insert_only : (x z : ℕ) (l : List ℕ) → z ∈ insert ds x l → (z ≡ x) ⊎ (z ∈ l)
  insert_only x z l =
      inserted x (λ l m. z ∈ m → (z ≡ x) ⊎ (z ∈ l)) Memᴰ.cases_cons
      (λ y l e h m. ⊎_elim (λ (k : z ≡ y). inr (Memᴰ.head k)) (λ (k : z ∈ insert ds x l). ⊎_elim inl (λ (i : z ∈ l). inr (Memᴰ.tail i)) (h k)) (Memᴰ.cases_cons m))
      (λ y l e m. Memᴰ.cases_cons m)
      l

  insert_rows : (lo n : ℕ) (l : List ℕ) → Rows (suc lo) n l → Rows lo (suc n) (insert ds lo l)
  insert_rows lo n l r =
      record {
        all = λ i h k. go i h k (dec_lt lo i);
        inside = λ i m. ⊎_elim (λ (e : i ≡ lo). (omega arith, omega arith)) (λ (k : i ∈ l). let w = r.inside i k in (omega arith, omega arith)) (insert_only lo i l m);
      }
    where
      go : (i : ℕ) → lo ≤ i → i < lo + suc n → Dec (lo < i) → i ∈ insert ds lo l
      go i h k (yes j) = insert_keeps lo i l (r.all i j (omega arith))
      go i h k (no j) = Memᴰ.cast (omega arith) (insert_self lo l)

  insert_sorted : (x : ℕ) (l : List ℕ) → ((z : ℕ) → z ∈ l → numeric (get_or ds z +0) ≡ true) → ((z : ℕ) → z ∈ l → x < z) → Sorted ds l → Sorted ds (insert ds x l)
  insert_sorted x l =
      inserted x (λ l m. ((z : ℕ) → z ∈ l → numeric (get_or ds z +0) ≡ true) → ((z : ℕ) → z ∈ l → x < z) → Sorted ds l → Sorted ds m) (λ n a s. (λ z m. absurd (Memᴰ.not-nil m), tt))
      (λ y l e h n a s. (
        λ z m. ⊎_elim (λ (k : z ≡ x). inl (rw k e)) (λ (k : z ∈ l). s.0 z k) (insert_only x z l m),
        h (λ z m. n z (Memᴰ.tail m)) (λ z m. a z (Memᴰ.tail m)) s.1,
      ))
      (λ y l e n a s. (
        λ z m. ⊎_elim (λ (k : z ≡ y). inr (rw k e, a z m)) (λ (k : z ∈ l). before_trans x y z (n y (Memᴰ.head refl)) e (s.0 z k) (a z m)) (Memᴰ.cases_cons m),
        s,
      ))
      l

  -- ---- the count rows from lo on
  pub ordered_length : (lo n : ℕ) → length (ordered ds lo n) ≡ n
  unfolding ordered
  ordered_length lo zero = refl
  ordered_length lo (suc n) = insert_length lo (ordered ds (suc lo) n) ∙ ap suc (ordered_length (suc lo) n)

  pub ordered_rows : (lo n : ℕ) → Rows lo n (ordered ds lo n)
  unfolding ordered
  ordered_rows lo zero = record { all = λ i h k. absurd (omega arith); inside = λ i m. absurd (Memᴰ.not-nil m) }
  ordered_rows lo (suc n) = insert_rows lo n (ordered ds (suc lo) n) (ordered_rows (suc lo) n)

  pub ordered_sorted : (lo n : ℕ) → NoNaN ds lo n → SortedRows ds lo n (ordered ds lo n)
  unfolding ordered
  ordered_sorted lo zero h = record { sorted = tt; rows = ordered_rows lo zero }
  ordered_sorted lo (suc n) h =
      let r = ordered_sorted (suc lo) n (λ i k l. h i (omega arith) (omega arith)) in
      record {
        sorted = insert_sorted lo (ordered ds (suc lo) n) (λ z m. let w = r.rows.inside z m in h z (omega arith) (omega arith)) (λ z m. (r.rows.inside z m).0) r.sorted;
        rows = ordered_rows lo (suc n);
      }

  pub ordered_unique : (lo n : ℕ) → NoNaN ds lo n → (l : List ℕ) → SortedRows ds lo n l → l ≡ ordered ds lo n
  ordered_unique lo n h l s =
      let o = ordered_sorted lo n h in
      same_list (Before ds) before_asym l (ordered ds lo n) s.sorted o.sorted (λ i m. let w = s.rows.inside i m in o.rows.all i w.0 w.1) (λ i m. let w = o.rows.inside i m in s.rows.all i w.0 w.1)

-- ---- the order of finite cells as seen from row i: the one sorted list of all n rows
module _ (cells : List Float) (n d : ℕ) (finite : every is_finite cells ≡ true) (sized : length cells ≡ n * d) (i : ℕ) (row : i < n) where
  -- "NaN can't arise from finite cells"
  pub no_NaN : NoNaN (distances cells d i n) 0 n
  no_NaN j h k = let l : j < n = omega arith in rw (distance_at cells d i n j +0 l) (distance_numeric cells n d finite sized i j row l)

  pub order_is : (l : List ℕ) → (l ≡ order_of cells n d i) ↔ SortedRows (distances cells d i n) 0 n l
  unfolding order_of
  order_is l = (λ e. rw e (ordered_sorted (distances cells d i n) 0 n no_NaN), λ s. ordered_unique (distances cells d i n) 0 n no_NaN l s)

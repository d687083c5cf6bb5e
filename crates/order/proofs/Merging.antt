-- Merging is sorting: two neighbouring runs of rows in order, merged, are the whole run in order. And a merge goes from the front, or from the back. Assumes nothing.
use mathlib.Core.Path.{◌≡◌, refl, ap, ◌∙◌}
use mathlib.Core.Bool.{Bool, true, false, cond, not}
use mathlib.Core.List.{List, [], ◌∷◌, ◌++◌}
use Prim.Native.Nat.{ℕ, zero, suc, ◌+◌, ◌-◌, ◌≤◌, ◌<◌}
use native.Mathlib.Nat.{add-zero, sub-zero}
use native.Mathlib.Numerals.{add-one}
use native.Mathlib.Omega.{arith}
use mir.Val.{bool_byte}
use lib.Ieee.{Float}
use lib.ListN.{length, get_or, take, drop}
use lib.Seq.{drop-cons, take-suc, get_or-take, length-take-le}
use Rattle.scope.specs.Floats.{+0}
use Rattle.scope.specs.Neighbours.{is_nearer, insert, ordered}
use Rattle.scope.proofs.Order.{both, lt_trans}
use Rattle.order.specs.Rows.{merged, Each, Ascends, Numeric}
use Rattle.order.proofs.Ordered.{later, here, between, no_nearer}

module _ (ds : List Float) where
  second : (x y : ℕ) (s t : List ℕ) → is_nearer ds y x ≡ true → merged ds (x ∷ s) (y ∷ t) ≡ y ∷ merged ds (x ∷ s) t
  unfolding merged
  second x y s t e = rw e

  first : (x y : ℕ) (s t : List ℕ) → is_nearer ds y x ≡ false → merged ds (x ∷ s) (y ∷ t) ≡ x ∷ merged ds s (y ∷ t)
  unfolding merged
  first x y s t e = rw e

  merged_nil : (s : List ℕ) → merged ds s [] ≡ s
  unfolding merged
  merged_nil [] = refl
  merged_nil (x ∷ s) = refl

  merged_one : (x : ℕ) (t : List ℕ) → merged ds (x ∷ []) t ≡ insert ds x t
  unfolding merged insert
  merged_one x [] = refl
  merged_one x (y ∷ t) = rw (merged_one x t)

  pub length_merged : (s t : List ℕ) → length (merged ds s t) ≡ length s + length t
  unfolding merged
  length_merged [] t = omega arith
  length_merged (x ∷ s) [] = omega arith
  length_merged (x ∷ s) (y ∷ t) = go _ refl (length_merged (x ∷ s) t) (length_merged s (y ∷ t))
    where
      go : (b : Bool) → is_nearer ds y x ≡ b → length (merged ds (x ∷ s) t) ≡ suc (length s) + length t → length (merged ds s (y ∷ t)) ≡ length s + suc (length t) → length (merged ds (x ∷ s) (y ∷ t)) ≡ suc (length s) + suc (length t)
      go true e p q = rw (second x y s t e) (omega arith)
      go false e p q = rw (first x y s t e) (omega arith)

  -- ---- a row that is put into the first of two lists is put into their merge
  module _ (ok : Numeric ds) where
    module _ (x z y : ℕ) (s t : List ℕ) (IH1 : merged ds (insert ds x (z ∷ s)) t ≡ insert ds x (merged ds (z ∷ s) t)) (IH2 : merged ds (insert ds x s) (y ∷ t) ≡ insert ds x (merged ds s (y ∷ t))) where
      step : (p q r : Bool) → is_nearer ds z x ≡ p → is_nearer ds y z ≡ q → is_nearer ds y x ≡ r → merged ds (insert ds x (z ∷ s)) (y ∷ t) ≡ insert ds x (merged ds (z ∷ s) (y ∷ t))
      step true true r p q e =
          cc (later ds x z s p, second z y (insert ds x s) t q, second z y s t q, later ds x y (merged ds (z ∷ s) t) (lt_trans (get_or ds y +0) (get_or ds z +0) (get_or ds x +0) q p))
      step true false r p q e = cc (later ds x z s p, first z y (insert ds x s) t q, first z y s t q, later ds x z (merged ds s (y ∷ t)) p)
      step false q true p e r = cc (here ds x z s p, second x y (z ∷ s) t r, second z y s t (between ds ok y z x r p), later ds x y (merged ds (z ∷ s) t) r)
      step false true false p q r = cc (here ds x z s p, first x y (z ∷ s) t r, second z y s t q, here ds x y (merged ds (z ∷ s) t) r)
      step false false false p q r = cc (here ds x z s p, first x y (z ∷ s) t r, first z y s t q, here ds x z (merged ds s (y ∷ t)) p)

    merged_insert : (x : ℕ) (s t : List ℕ) → merged ds (insert ds x s) t ≡ insert ds x (merged ds s t)
    unfolding insert merged
    merged_insert x [] t = merged_one x t
    merged_insert x (z ∷ s) [] = merged_nil (insert ds x (z ∷ s))
    merged_insert x (z ∷ s) (y ∷ t) = step x z y s t (merged_insert x (z ∷ s) t) (merged_insert x s (y ∷ t)) _ _ _ refl refl refl

    pub merged_ordered : (lo m k : ℕ) → merged ds (ordered ds lo m) (ordered ds (lo + m) k) ≡ ordered ds lo (m + k)
    unfolding ordered merged
    merged_ordered lo zero k =
        let e : lo + 0 ≡ lo = omega arith in
        let f : 0 + k ≡ k = omega arith in
        rw (e, f)
    merged_ordered lo (suc m) k =
        let e : lo + suc m ≡ suc lo + m = omega arith in
        let f : suc m + k ≡ suc (m + k) = omega arith in
        rw (e, f, merged_insert lo (ordered ds (suc lo) m)) (ap (insert ds lo) (merged_ordered (suc lo) m k))

  -- ---- from the back
  -- u is farther than all of t
  last_first : (u : ℕ) (s t : List ℕ) → Each (λ y. is_nearer ds y u ≡ true) t → merged ds (s ++ (u ∷ [])) t ≡ merged ds s t ++ (u ∷ [])
  unfolding merged
  last_first u [] [] h = refl
  last_first u [] (y ∷ t) h = second u y [] t (h 0 (omega arith)) ∙ ap (λ (l : List ℕ). y ∷ l) (last_first u [] t (λ i k. h (suc i) (omega arith)))
  last_first u (x ∷ s) [] h = refl
  last_first u (x ∷ s) (y ∷ t) h = go _ refl (last_first u (x ∷ s) t (λ i k. h (suc i) (omega arith))) (last_first u s (y ∷ t) h)
    where
      go : (b : Bool) → is_nearer ds y x ≡ b → merged ds (x ∷ s ++ (u ∷ [])) t ≡ merged ds (x ∷ s) t ++ (u ∷ []) → merged ds (s ++ (u ∷ [])) (y ∷ t) ≡ merged ds s (y ∷ t) ++ (u ∷ [])
          → merged ds (x ∷ s ++ (u ∷ [])) (y ∷ t) ≡ merged ds (x ∷ s) (y ∷ t) ++ (u ∷ [])
      go true e p q = rw (second x y (s ++ (u ∷ [])) t e, second x y s t e) (ap (λ (l : List ℕ). y ∷ l) p)
      go false e p q = rw (first x y (s ++ (u ∷ [])) t e, first x y s t e) (ap (λ (l : List ℕ). x ∷ l) q)

  -- v is no nearer than any of s
  last_second : (v : ℕ) (s t : List ℕ) → Each (λ x. is_nearer ds v x ≡ false) s → merged ds s (t ++ (v ∷ [])) ≡ merged ds s t ++ (v ∷ [])
  unfolding merged
  last_second v [] t h = refl
  last_second v (x ∷ s) [] h = first x v s [] (h 0 (omega arith)) ∙ ap (λ (l : List ℕ). x ∷ l) (last_second v s [] (λ i k. h (suc i) (omega arith)) ∙ rw (merged_nil s))
  last_second v (x ∷ s) (y ∷ t) h = go _ refl (last_second v (x ∷ s) t h) (last_second v s (y ∷ t) (λ i k. h (suc i) (omega arith)))
    where
      go : (b : Bool) → is_nearer ds y x ≡ b → merged ds (x ∷ s) (t ++ (v ∷ [])) ≡ merged ds (x ∷ s) t ++ (v ∷ []) → merged ds s (y ∷ t ++ (v ∷ [])) ≡ merged ds s (y ∷ t) ++ (v ∷ [])
          → merged ds (x ∷ s) (y ∷ t ++ (v ∷ [])) ≡ merged ds (x ∷ s) (y ∷ t) ++ (v ∷ [])
      go true e p q = rw (second x y s (t ++ (v ∷ [])) e, second x y s t e) (ap (λ (l : List ℕ). y ∷ l) p)
      go false e p q = rw (first x y s (t ++ (v ∷ [])) e, first x y s t e) (ap (λ (l : List ℕ). x ∷ l) q)

  -- ---- the next row of a merge from the front, and the next from the back: t says whether the second list's row is nearer
  module _ (a b : List ℕ) where
    pub next_front : (i j : ℕ) (t : Bool) → i < length a → j < length b → is_nearer ds (get_or b j 0) (get_or a i 0) ≡ t
        → merged ds (drop i a) (drop j b) ≡ cond t (get_or b j 0) (get_or a i 0) ∷ merged ds (drop (i + bool_byte (not t)) a) (drop (j + bool_byte t) b)
    next_front i j true h k e = rw (add-zero, add-one, drop-cons a i 0 h, drop-cons b j 0 k) (second _ _ _ _ e)
    next_front i j false h k e = rw (add-one, add-zero, drop-cons a i 0 h, drop-cons b j 0 k) (first _ _ _ _ e)

    module _ (ok : Numeric ds) (first_order : Ascends ds a) (second_order : Ascends ds b) where
      -- v is nearer than u, and no nearer than y: so is y nearer than u
      nearer_too : (y v u : ℕ) → is_nearer ds v u ≡ true → is_nearer ds v y ≡ false → is_nearer ds y u ≡ true
      nearer_too y v u p q = go (is_nearer ds y u) refl
        where
          go : (t : Bool) → is_nearer ds y u ≡ t → t ≡ true
          go true e = refl
          go false e = both (between ds ok v y u p e) q

      last_row : (p q : ℕ) (t : Bool) → p < length a → q < length b → is_nearer ds (get_or b q 0) (get_or a p 0) ≡ t
          → merged ds (take (suc p) a) (take (suc q) b) ≡ merged ds (take (suc p - bool_byte t) a) (take (suc q - bool_byte (not t)) b) ++ (cond t (get_or a p 0) (get_or b q 0) ∷ [])
      last_row p q true h k e =
          let w : suc p - 1 ≡ p = omega arith in
          rw (w, sub-zero, take-suc a p 0 h)
          (last_first (get_or a p 0) (take p a) (take (suc q) b)
          (λ i l.
          let f : i < suc q = omega (arith, length-take-le (suc q) b k) in
          rw (get_or-take (suc q) b i 0 f) (nearer_too (get_or b i 0) (get_or b q 0) (get_or a p 0) e (second_order i q (omega arith) k))))
      last_row p q false h k e =
          let w : suc q - 1 ≡ q = omega arith in
          rw (w, sub-zero, take-suc b q 0 k)
          (last_second (get_or b q 0) (take (suc p) a) (take q b)
          (λ i l.
          let f : i < suc p = omega (arith, length-take-le (suc p) a h) in
          rw (get_or-take (suc p) a i 0 f) (no_nearer ds ok (get_or b q 0) (get_or a p 0) (get_or a i 0) e (first_order i p (omega arith) h))))

      pub next_back : (p q : ℕ) (t : Bool) → 0 < p → p ≤ length a → 0 < q → q ≤ length b → is_nearer ds (get_or b (q - 1) 0) (get_or a (p - 1) 0) ≡ t
          → merged ds (take p a) (take q b) ≡ merged ds (take (p - bool_byte t) a) (take (q - bool_byte (not t)) b) ++ (cond t (get_or a (p - 1) 0) (get_or b (q - 1) 0) ∷ [])
      next_back p q t h k h' k' e =
          let f : suc (p - 1) ≡ p = omega arith in
          let g : suc (q - 1) ≡ q = omega arith in
          rw (f, g) at (last_row (p - 1) (q - 1) t (omega arith) (omega arith) e)

-- The candidates are the allowed rows, ascending; refusals 9 and 10 are given exactly if there is none. Assumes nothing.
use mathlib.Core.Path.{◌≡◌, refl, sym, ap, ◌∙◌}
use mathlib.Core.Logic.{◌↔◌}
use mathlib.Core.Bool.{Bool, true, false, cond, not, ◌&&◌, ◌||◌, true≢false}
use mathlib.Core.List.{List, [], ◌∷◌, ◌++◌, Memᴰ}
use Prim.Native.Nat.{ℕ, zero, suc, ◌+◌, ◌-◌, ◌*◌, ◌≤◌, ◌<◌}
use native.Mathlib.Omega.{arith}
use borrow.Author.Tests.{ltb-true, ltb-false, leb-true, lt-ltb, le-leb, leb-false, not-true}
use lib.Dec.{ltb, leb}
use Rattle.scope.specs.Lists.{upward, keep, select, is_empty}
use Rattle.scope.specs.Asked.{Shortest, one_more, end_of}
use Rattle.scope.specs.Refusals.{test, first_of, outside, no9}
use Rattle.scope.specs.Candidates.{is_barred, range_size, candidates, all_barred, no10}
use Rattle.scope.specs.Allowed.{Pair, here, later, Allowed, Ascending}
use Rattle.scope.proofs.Never.{never}
use Rattle.scope.proofs.Lists.{select_are, select_all, upward_are}

-- ---- the closed end adds one row at most
pub one_at_most : (s : Shortest) → one_more s ≤ 1
unfolding one_more
one_at_most s = go s.closed refl
  where
    go : (b : Bool) → s.closed ≡ b → one_more s ≤ 1
    go true e = rw e (omega arith)
    go false e = rw e (omega arith)

-- 9 by the segment's length is 9 by its ends
pub nine_from : (s : Shortest) (start stop : ℕ) → start ≤ stop → (b : Bool) → leb (end_of s (stop - start)) (2 * s.m) ≡ b → leb (end_of s stop - start) (2 * s.m) ≡ b
nine_from s start stop h b e = let same : end_of s (stop - start) ≡ end_of s stop - start = omega arith in rw same at e

-- ---- barred, by a pair
pub or_false : (a b : Bool) → a || b ≡ false → (a ≡ false) × (b ≡ false)
or_false true b h = absurd (true≢false h)
or_false false b h = (refl, h)

-- a size that is not refused is one of 1 to most
pub not_outside : (most v : ℕ) → outside most v ≡ false → (1 ≤ v) × (v ≤ most)
unfolding outside
not_outside most v h = let (a, b) = or_false (ltb v 1) (ltb most v) h in (ltb-false v 1 a, ltb-false most v b)

free_at : (a b x : ℕ) (ps : List ℕ) → Pair a b ps → is_barred ps x ≡ false → a < x → x ≤ b → ⊥
unfolding is_barred
free_at a b x ps (here {ps = qs}) f l u = true≢false (sym (rw (lt-ltb a x l, le-leb x b u)) ∙ f)
free_at a b x ps (later {c = c} {d = d} {ps = qs} p) f l u = free_at a b x qs p (or_false (ltb c x && leb x d) (is_barred qs x) f).1 l u

pub free_of : (ps : List ℕ) (x : ℕ) → is_barred ps x ≡ false → (a b : ℕ) → Pair a b ps → a < x → x ≤ b → ⊥
free_of ps x f a b p l u = free_at a b x ps p f l u

pub barred_not : (ps : List ℕ) (x : ℕ) → ((a b : ℕ) → Pair a b ps → a < x → x ≤ b → ⊥) → is_barred ps x ≡ false
unfolding is_barred
barred_not [] x f = refl
barred_not (a ∷ []) x f = refl
barred_not (a ∷ b ∷ ps) x f = go (ltb a x) (leb x b) refl refl (barred_not ps x (λ c d p. f c d (later p)))
  where
    go : (s t : Bool) → ltb a x ≡ s → leb x b ≡ t → is_barred ps x ≡ false → (s && t) || is_barred ps x ≡ false
    go true true i j r = absurd (f a b here (ltb-true a x i) (leb-true x b j))
    go true false i j r = r
    go false t i j r = r

-- no pair stands in an empty list
pub no_pair : (ps : List ℕ) (a b : ℕ) → ps ≡ [] → Pair a b ps → ⊥
no_pair ps a b e (here {ps = qs}) = never (cc)
no_pair ps a b e (later {c = c} {d = d} {ps = qs} p) = never (cc)

-- ---- the list holds exactly the allowed rows
pub candidates_are : (s : Shortest) (forbidden : List ℕ) (start stop x : ℕ) → Memᴰ x (candidates s forbidden start stop) ↔ Allowed s forbidden start stop x
unfolding candidates range_size
candidates_are s ps start stop x = (
  λ i.
      let (j, t) = select_are (λ y. not (is_barred ps y)) (upward (start + s.m) (end_of s stop - start - 2 * s.m)) x i in
      let (l, h) = (upward_are (start + s.m) (end_of s stop - start - 2 * s.m) x).0 j in
      record { low = l; high = omega arith; free = free_of ps x (not-true (is_barred ps x) t) },
  λ w.
      select_all (λ y. not (is_barred ps y)) (upward (start + s.m) (end_of s stop - start - 2 * s.m)) x ((upward_are (start + s.m) (end_of s stop - start - 2 * s.m) x).1 (w.low, omega arith)) (ap not (barred_not ps x w.free)),
)

-- ---- ascending
ascending_end : (lo : ℕ) (xs : List ℕ) (y : ℕ) → lo ≤ y → ((x : ℕ) → Memᴰ x xs → x < y) → Ascending lo xs → Ascending lo (xs ++ (y ∷ []))
ascending_end lo [] y l h a = (l, tt)
ascending_end lo (x ∷ xs) y l h a = (a.0, ascending_end (x + 1) xs y (omega (arith, h x (Memᴰ.head refl))) (λ z i. h z (Memᴰ.tail i)) a.1)

upward_ascends : (lo k : ℕ) → Ascending lo (upward lo k)
unfolding upward
upward_ascends lo zero = tt
upward_ascends lo (suc k) = ascending_end lo (upward lo k) (lo + k) (omega arith) (λ x i. ((upward_are lo k x).0 i).1) (upward_ascends lo k)

ascending_from : (lo hi : ℕ) (xs : List ℕ) → lo ≤ hi → Ascending hi xs → Ascending lo xs
ascending_from lo hi [] h a = tt
ascending_from lo hi (x ∷ xs) h a = (omega (arith, a.0), a.1)

pub select_ascends : (p : ℕ → Bool) (lo : ℕ) (xs : List ℕ) → Ascending lo xs → Ascending lo (select p xs)
unfolding select
select_ascends p lo [] a = tt
select_ascends p lo (x ∷ xs) a = go (p x) (select_ascends p (x + 1) xs a.1)
  where
    go : (b : Bool) → Ascending (x + 1) (select p xs) → Ascending lo (keep b x (select p xs))
    go true r = (a.0, r)
    go false r = ascending_from lo (x + 1) (select p xs) (omega (arith, a.0)) r

pub candidates_ascend : (s : Shortest) (forbidden : List ℕ) (start stop : ℕ) → Ascending (start + s.m) (candidates s forbidden start stop)
unfolding candidates
candidates_ascend s ps start stop =
    select_ascends (λ x. not (is_barred ps x)) (start + s.m) (upward (start + s.m) (range_size s start stop)) (upward_ascends (start + s.m) (range_size s start stop))

-- ---- "Refused exactly if no such row exists, by 9 or 10."
none_in : (s : Shortest) (ps : List ℕ) (start stop : ℕ) → end_of s stop - start ≤ 2 * s.m → is_empty (candidates s ps start stop) ≡ true
unfolding candidates range_size upward select
none_in s ps start stop h = let e : end_of s stop - start - 2 * s.m ≡ 0 = omega arith in rw e

pub refusal_9_10 : (s : Shortest) (forbidden : List ℕ) (start stop : ℕ)
    → first_of (no9 s start stop ∷ no10 s forbidden start stop ∷ []) ≡ cond (is_empty (candidates s forbidden start stop)) (cond (leb (end_of s stop - start) (2 * s.m)) 9 10) 0
unfolding range_size all_barred
refusal_9_10 s ps start stop = go (leb (end_of s stop - start) (2 * s.m)) refl
  where
    some : (b : Bool) → first_of (test b 10 ∷ []) ≡ cond b 10 0
    some true = refl
    some false = refl

    go : (b : Bool) → leb (end_of s stop - start) (2 * s.m) ≡ b
        → first_of (test b 9 ∷ test (ltb 0 (end_of s stop - start - 2 * s.m) && is_empty (candidates s ps start stop)) 10 ∷ []) ≡ cond (is_empty (candidates s ps start stop)) (cond b 9 10) 0
    go true e = rw (none_in s ps start stop (leb-true _ _ e))
    go false e = let long = leb-false (end_of s stop - start) (2 * s.m) e in let pos : 0 < end_of s stop - start - 2 * s.m = omega arith in rw (lt-ltb 0 (end_of s stop - start - 2 * s.m) pos) (some (is_empty (candidates s ps start stop)))

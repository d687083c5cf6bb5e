-- Marks of the values from low to high - 1: after the values passed, each that stands among them is marked, and stands there once. Assumes nothing.
use Rattle.std.proofs.Common.{◌≡◌, ℕ, suc, ◌+◌, ◌-◌, ◌%◌, ◌<◌, ◌≤◌, Bool, true, false, cond, eqb, ltb, leb, List, [], ◌∷◌, ◌++◌, length, get_or, take, replicate, sym, refl, ap, ◌∙◌, true≢false, add-one, arith, take-suc, ltb-true, lt-ltb, eqb-true, le-leb, leb-false, leb-true}
use mathlib.Core.Bool.{false≢true}
use lib.Seq.{take-length}
use borrow.Author.Tests.{eqb-false}
use Rattle.scope.specs.Lists.{select, every}
use Rattle.scope.specs.Permutations.{times, is_permutation}
use Rattle.permutations.specs.Marks.{is_marked, with_mark, Serves, served, shows_wrong, with_value, Passed}
use Rattle.permutations.proofs.Bits.{none_marked, mark_same, mark_other}
use Rattle.permutations.proofs.Times.{counted, times_append, times_same, times_other, times_take, refute, refuted_twice, refuted_outside}
use Rattle.scope.proofs.Every.{every_append}
use Rattle.scope.proofs.Members.{first_of_lem, second_of, at_in}

module _ (low high v : ℕ) where
  pub served_is : low ≤ v → v < high → served low high v ≡ true
  served_is l h = rw (le-leb low v l, lt-ltb v high h)

  served_of : served low high v ≡ true → (low ≤ v) × (v < high)
  served_of e = (leb-true low v (first_of_lem _ _ e), ltb-true v high (second_of (leb low v) _ e))

  pub served_not : (low ≤ v → v < high → ⊥) → served low high v ≡ false
  served_not n = refute _ (λ e. n (served_of e).0 (served_of e).1)

pub record Marked (low high : ℕ) (marks passed : List ℕ) : Type 0 where
  pub counts : (v : ℕ) → low ≤ v → v < high → times v passed ≡ counted (is_marked (v - low) marks)

pub marked_none : (low high n : ℕ) → Marked low high (replicate n 0) []
unfolding select counted
marked_none low high n = record { counts = λ v l h. rw (none_marked (v - low) n) }

pub marked_once : (low high : ℕ) (marks passed : List ℕ) → Marked low high marks passed → (v : ℕ) → low ≤ v → v < high → times v passed ≤ 1
unfolding counted
marked_once low high marks passed m v l h = go (is_marked (v - low) marks) (m.counts v l h)
  where
    go : (b : Bool) → times v passed ≡ counted b → times v passed ≤ 1
    go true e = omega arith
    go false e = omega arith

-- ---- one more value
module _ (L low high v : ℕ) (marks passed : List ℕ) (m : Marked low high marks passed) where
  -- every other value was passed as often as before
  other : (w : ℕ) → (w ≡ v → ⊥) → times w (passed ++ (v ∷ [])) ≡ times w passed
  other w n = omega (arith, times_append w passed (v ∷ []), times_other w v n)

  same : times v (passed ++ (v ∷ [])) ≡ times v passed + 1
  same = omega (arith, times_append v passed (v ∷ []), times_same v v refl)

  marked_more : Serves L low high marks → shows_wrong L low high v marks ≡ false → Marked low high (with_value low high v marks) (passed ++ (v ∷ []))
  unfolding counted
  marked_more s n = go (served low high v) refl n
    where
      room : low ≤ v → v < high → (v - low) % 65536 < length marks
      room l h = omega arith

      here : low ≤ v → v < high → is_marked (v - low) marks ≡ false → (w : ℕ) → low ≤ w → w < high → (b : Bool) → eqb w v ≡ b
          → times w (passed ++ (v ∷ [])) ≡ counted (is_marked (w - low) (with_mark (v - low) marks))
      here l h n w k j true e =
          let on : w ≡ v = eqb-true w v e in
          rw (on, mark_same (v - low) marks (room l h)) (same ∙ ap (λ (t : ℕ). t + 1) (m.counts v l h ∙ ap counted n))
      here l h n w k j false e = let off = eqb-false w v e in rw (other w off, mark_other (v - low) marks (room l h) (w - low) (λ q. off (omega arith))) (m.counts w k j)

      go : (b : Bool) → served low high v ≡ b → cond b (is_marked (v - low) marks) (leb L v) ≡ false → Marked low high (cond b (with_mark (v - low) marks) marks) (passed ++ (v ∷ []))
      go true p n = let (l, h) = served_of low high v p in record { counts = λ w k j. here l h n w k j (eqb w v) refl }
      go false p n = record { counts = λ w k j. rw (other w (λ e. false≢true (sym p ∙ served_is low high v (omega arith) (omega arith)))) (m.counts w k j) }

  in_range_lem : Serves L low high marks → shows_wrong L low high v marks ≡ false → v < L
  in_range_lem s n = go (served low high v) refl n
    where
      go : (b : Bool) → served low high v ≡ b → cond b (is_marked (v - low) marks) (leb L v) ≡ false → v < L
      go true p n = omega (arith, served_of low high v p)
      go false p n = leb-false L v n

-- ---- a pass over a proposed permutation: nothing that was passed is out of range, and all that is served is marked
pub record Clean (L low high : ℕ) (marks passed : List ℕ) : Type 0 where
  pub inside : every (λ v. ltb v L) passed ≡ true
  pub marked : Marked low high marks passed

pub clean_none : (L low high n : ℕ) → Clean L low high (replicate n 0) []
unfolding every
clean_none L low high n = record { inside = refl; marked = marked_none low high n }

-- at its entry number i
module _ (L low high : ℕ) (permutation : List ℕ) (i : ℕ) (h : i < length permutation) (marks : List ℕ) (s : Serves L low high marks) (c : Clean L low high marks (take i permutation)) where
  pub clean_more : shows_wrong L low high (get_or permutation i 0) marks ≡ false → Clean L low high (with_value low high (get_or permutation i 0) marks) (take (i + 1) permutation)
  unfolding every
  clean_more n =
      let v = get_or permutation i 0 in
      record {
        inside = rw (add-one, take-suc permutation i 0, every_append, c.inside, lt-ltb v L (in_range_lem L low high v marks (take i permutation) c.marked s n));
        marked = rw (add-one, take-suc permutation i 0) (marked_more L low high v marks (take i permutation) c.marked s n);
      }

  pub shown_wrong : shows_wrong L low high (get_or permutation i 0) marks ≡ true → Passed L low high permutation true
  unfolding counted
  shown_wrong t = record { refuted = λ e. go (served low high v) refl t; apart = λ f. absurd (true≢false f) }
    where
      v : ℕ
      v = get_or permutation i 0

      go : (b : Bool) → served low high v ≡ b → cond b (is_marked (v - low) marks) (leb L v) ≡ true → is_permutation L permutation ≡ false
      go true p t =
          let (l, k) = served_of low high v p in
          let once : times v (take i permutation) ≡ 1 = c.marked.counts v l k ∙ ap counted t in
          let whole = rw (← take-suc permutation i 0 h) at (same L low high v marks (take i permutation) c.marked) in
          refuted_twice L v permutation (omega arith) (omega (arith, whole, times_take v (suc i) permutation))
      go false p t = refuted_outside L v permutation (leb-true L v t) (at_in permutation i 0 h)

-- past the last entry
pub clean_whole : (L low high : ℕ) (permutation marks : List ℕ) → Clean L low high marks (take (length permutation) permutation) → Passed L low high permutation false
clean_whole L low high permutation marks c =
    let whole : take (length permutation) permutation ≡ permutation = take-length permutation in
    record {
      refuted = λ f. absurd (false≢true f);
      apart = λ t. record { inside = rw whole at c.inside; once = marked_once low high marks permutation (rw whole at c.marked) };
    }

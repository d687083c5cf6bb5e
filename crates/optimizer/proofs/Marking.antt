-- Marks say what the pairs of a list bar, whatever their order and however they overlap: the laws that docs/PORT.md names, of a list that is read by place.
-- `marks` itself is proved by those of Barred.antt, which read it from the front. Assumes nothing.
use mathlib.Core.Path.{◌≡◌, refl, ◌∙◌}
use mathlib.Core.Bool.{Bool, true, false, ◌&&◌, ◌||◌}
use mathlib.Core.List.{List}
use Prim.Native.Nat.{ℕ, ◌+◌, ◌≤◌, ◌<◌}
use native.Mathlib.Omega.{arith}
use borrow.Author.Tests.{ltb-true, ltb-false, eqb-true, eqb-false}
use lib.Dec.{ltb, leb, eqb}
use lib.ListN.{length, get_or, set, drop}
use lib.Seq.{get_or-set_same, get_or-set_other}
use Rattle.std.proofs.lemmas.List.{get_or_past}
use Rattle.scope.specs.Candidates.{is_barred}
use Rattle.optimizer.proofs.Barred.{swap, barred_next, barred_none}
use Rattle.optimizer.specs.Marks.{mark_at}

-- ---- a pair (a, b)
abbrev bars : ℕ → ℕ → ℕ → Bool
bars a b x = ltb a x && leb x b

-- ---- every mark below k is cleared
pub clear_next : (marks : List Bool) (k x : ℕ) → k < length marks → (x < k → mark_at marks x ≡ false) → x < k + 1 → mark_at (set marks k false) x ≡ false
clear_next marks k x h e l = go (eqb x k) refl
  where
    go : (b : Bool) → eqb x k ≡ b → mark_at (set marks k false) x ≡ false
    go true i = let same = eqb-true x k i in rw (same, get_or-set_same marks k false false h)
    go false i = let other = eqb-false x k i in get_or-set_other marks k x false false other ∙ e (omega (arith, other))

-- and past the last there is none
pub clear_all : (marks : List Bool) (k x : ℕ) → length marks ≤ k → (x < k → mark_at marks x ≡ false) → mark_at marks x ≡ false
clear_all marks k x h e = go (ltb x k) refl
  where
    go : (b : Bool) → ltb x k ≡ b → mark_at marks x ≡ false
    go true i = e (ltb-true x k i)
    go false i = let l = ltb-false x k i in get_or_past marks x false (omega arith)

-- ---- the pairs of a list, one after the other
-- a pair is marked, and is no longer left
pub pair_taken : (ps : List ℕ) (marks marks' : List Bool) (i x : ℕ) → i + 1 < length ps
    → mark_at marks' x ≡ bars (get_or ps i 0) (get_or ps (i + 1) 0) x || mark_at marks x
    → mark_at marks x || is_barred (drop i ps) x ≡ is_barred ps x
    → mark_at marks' x || is_barred (drop (i + 2) ps) x ≡ is_barred ps x
pair_taken ps marks marks' i x h new e = rw (new, swap (bars (get_or ps i 0) (get_or ps (i + 1) 0) x) (mark_at marks x) (is_barred (drop (i + 2) ps) x), ← barred_next ps x i h) e

-- no pair is left: the marks say it
pub pairs_done : (ps : List ℕ) (marks : List Bool) (i x : ℕ) → length ps ≤ i + 1 → mark_at marks x || is_barred (drop i ps) x ≡ is_barred ps x → mark_at marks x ≡ is_barred ps x
pairs_done ps marks i x h e = go (mark_at marks x) refl ∙ e
  where
    go : (m : Bool) → mark_at marks x ≡ m → mark_at marks x ≡ mark_at marks x || is_barred (drop i ps) x
    go true j = rw j
    go false j = rw (j, barred_none ps x i h)

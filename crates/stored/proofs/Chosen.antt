-- The choice among the first records in lent memory, record by record. Assumes nothing.
use mathlib.Core.Path.{◌≡◌}
use mathlib.Core.Bool.{true, false}
use mathlib.Core.List.{List, [], ◌∷◌}
use Prim.Native.Nat.{ℕ, suc, ◌+◌, ◌-◌, ◌*◌, ◌≤◌, ◌<◌}
use native.Mathlib.Nat.{add-zero}
use native.Mathlib.Omega.{arith}
use lib.Ieee.{Float}
use lib.ListN.{drop}
use lib.Seq.{get_or-drop, drop-drop}
use Rattle.scope.specs.Grid.{Record, better, best}
use Rattle.scope.specs.Tree.{inside}
use Rattle.stored.specs.Flat.{record_at, records_in, inside_at}

-- of the first count records, those from k on
pub left : List ℕ → List Float → ℕ → ℕ → List Record
left rows gains count k = records_in (drop (5 * k) rows) (drop k gains) (count - k)

-- b is the choice before the record at k: b and the records from k on give the choice among all
pub record SoFar (rows : List ℕ) (gains : List Float) (count start stop : ℕ) (direct : Record) (k : ℕ) (b : Record) : Type 0 where
  pub same : best b (inside start stop (left rows gains count k)) ≡ best direct (inside start stop (records_in rows gains count))

module _ (rows : List ℕ) (gains : List Float) (count : ℕ) where
  pub left_all : left rows gains count 0 ≡ records_in rows gains count
  unfolding left
  left_all = let e : count - 0 ≡ count = omega arith in rw e

  pub left_none : (k : ℕ) → count ≤ k → left rows gains count k ≡ []
  unfolding left records_in
  left_none k h = let e : count - k ≡ 0 = omega arith in rw e

  pub left_next : (k : ℕ) → k < count → left rows gains count k ≡ record_at rows gains k ∷ left rows gains count (k + 1)
  unfolding left records_in
  left_next k h =
      let e : count - k ≡ suc (count - (k + 1)) = omega arith in
      let f : 5 * (k + 1) ≡ 5 * k + 5 = omega arith in
      rw (e, f, drop-drop 5 (5 * k) rows, drop-drop 1 k gains, get_or-drop (5 * k) rows 0, get_or-drop (5 * k) rows 1, get_or-drop (5 * k) rows 2, get_or-drop (5 * k) rows 3, get_or-drop (5 * k) rows 4, get_or-drop k gains 0, add-zero (5 * k), add-zero k)

module _ {rows : List ℕ} {gains : List Float} {count start stop : ℕ} {direct : Record} where
  pub begins : SoFar rows gains count start stop direct 0 direct
  begins = record { same = rw (left_all rows gains count) }

  module _ {k : ℕ} {b : Record} (more : k < count) (so_far : SoFar rows gains count start stop direct k b) where
    next : best b (inside start stop (record_at rows gains k ∷ left rows gains count (k + 1))) ≡ best direct (inside start stop (records_in rows gains count))
    next = rw (← left_next rows gains count k more) so_far.same

    -- the record at k is compared if it lies inside, and passed if not
    pub compared : {b' : Record} → inside_at start stop rows k ≡ true → b' ≡ better b (record_at rows gains k) → SoFar rows gains count start stop direct (k + 1) b'
    unfolding best inside
    compared h e = record { same = rw e (rw h at next) }

    pub passed : {b' : Record} → inside_at start stop rows k ≡ false → b' ≡ b → SoFar rows gains count start stop direct (k + 1) b'
    unfolding inside
    passed h e = record { same = rw e (rw h at next) }

  pub ended : {k : ℕ} {b : Record} → count ≤ k → SoFar rows gains count start stop direct k b → b ≡ best direct (inside start stop (records_in rows gains count))
  unfolding best inside
  ended {k} h so_far = rw (left_none rows gains count k h) at so_far.same

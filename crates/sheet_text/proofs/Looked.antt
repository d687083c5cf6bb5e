-- The first record at a row, looked for record by record; and the lines, row by row. Assumes nothing.
use mathlib.Core.Path.{◌≡◌, refl, sym, ◌∙◌}
use mathlib.Core.List.{List, [], ◌∷◌, ◌++◌, append-nil, append_assoc}
use Prim.Native.Nat.{ℕ, ◌+◌, ◌≤◌, ◌<◌}
use native.Mathlib.Numerals.{add-one}
use mathlib.Core.Bool.{true, false}
use lib.Dec.{eqb}
use lib.ListN.{length, take, get_or}
use lib.Seq.{take-suc, take_all}
use Rattle.std.specs.Prelude.{None, Some}
use Rattle.scope.specs.Grid.{Record}
use Rattle.stored.specs.Flat.{record_at}
use Rattle.stored.specs.Records.{records_of}
use Rattle.stored.specs.declared.records.Records.{Records}
use Rattle.stored.proofs.Chosen.{left, left_all, left_none, left_next}
use Rattle.sheet_text.specs.Lines.{first_at, line_of, lines_of}

-- none of the first k records splits at the row
pub record Unseen (records : Records) (row k : ℕ) : Type 0 where
  pub same : first_at row (records_of records) ≡ first_at row (left records.rows.now records.gains.now records.count k)

module _ {records : Records} {row : ℕ} where
  pub unseen_none : Unseen records row 0
  unseen_none = record { same = rw (left_all records.rows.now records.gains.now records.count) }

  module _ {k : ℕ} {r : Record} (more : k < records.count) (is : r ≡ record_at records.rows.now records.gains.now k) (unseen : Unseen records row k) where
    next : first_at row (records_of records) ≡ first_at row (r ∷ left records.rows.now records.gains.now records.count (k + 1))
    next = unseen.same ∙ simp (left_next records.rows.now records.gains.now records.count k more, is)

    pub seen : eqb r.split row ≡ true → Some r ≡ first_at row (records_of records)
    unfolding first_at
    seen e = sym (next ∙ rw e)

    pub unseen_more : eqb r.split row ≡ false → Unseen records row (k + 1)
    unfolding first_at
    unseen_more e = record { same = next ∙ rw e }

  pub unseen_all : {k : ℕ} → records.count ≤ k → Unseen records row k → None ≡ first_at row (records_of records)
  unfolding first_at
  unseen_all {k} h unseen = sym (unseen.same ∙ rw (left_none records.rows.now records.gains.now records.count k h))

-- ---- one line more
lines_append : (rs : List Record) (xs ys : List ℕ) → lines_of rs (xs ++ ys) ≡ lines_of rs xs ++ lines_of rs ys
unfolding lines_of
lines_append rs [] ys = refl
lines_append rs (x ∷ xs) ys = rw (lines_append rs xs ys) (sym (append_assoc (line_of (first_at x rs)) (lines_of rs xs) (lines_of rs ys)))

pub lines_next : (rs : List Record) (xs : List ℕ) (i : ℕ) → i < length xs → lines_of rs (take i xs) ++ line_of (first_at (get_or xs i 0) rs) ≡ lines_of rs (take (i + 1) xs)
unfolding lines_of
lines_next rs xs i h = rw (add-one, take-suc xs i 0 h, lines_append rs (take i xs), append-nil)

pub lines_all : (rs : List Record) (xs : List ℕ) (i : ℕ) → length xs ≤ i → lines_of rs (take i xs) ≡ lines_of rs xs
lines_all rs xs i h = rw (take_all i xs h)

-- What stands once a run's prefix sums stand and its stored segments' records are stored: the records that its segments are judged after.
-- Assumes nothing.
use mathlib.Core.Path.{◌≡◌, sym, ◌∙◌}
use mathlib.Core.List.{List}
use Prim.Native.Nat.{ℕ, ◌+◌, ◌*◌, ◌≤◌}
use native.Mathlib.Omega.{arith}
use lib.Ieee.{Float}
use lib.ListN.{length, take}
use Rattle.scope.specs.Lists.{holding}
use Rattle.scope.specs.Asked.{Matrix}
use Rattle.scope.specs.Sums.{prefix_sums}
use Rattle.scope.specs.Layers.{StoredSegment}
use Rattle.scope.specs.Draws.{most_stored}
use Rattle.scope.specs.Tree.{Run, direct, stored_records}
use Rattle.scope.specs.Calls.{sums_of, sums_room, run_on, run_of}
use Rattle.scope.proofs.Sums.{length_flat}
use Rattle.scope.proofs.Draws.{records_few}
use Rattle.control.specs.Settings.{source_of, settings_of}
use Rattle.change_in_mean.proofs.Room.{SumsClean, sums_are, sums_part}
use Rattle.stored.specs.Flat.{flat_rows, gains_of, records_in, Standing}
use Rattle.stored.proofs.Flat.{records_told, told_stands}
use Rattle.verdict.specs.declared.Asked.{Asked}
use Rattle.verdict.specs.Rules.{run_over, Sized}
use Rattle.segmentation.specs.Segments.{Slices, Held}

-- a run of n rows over the sums C of its columns, and what its segments are asked with
module _ (C : List Float) (n : ℕ) (s : Asked) where
  abbrev q : Run
  q = run_on C n s.gain.d (settings_of s.settings)

  abbrev pub segments : List StoredSegment
  segments = q.segments

  -- `count` records stand in these slices
  pub record Stands (rows : List ℕ) (gains : List Float) (count : ℕ) : Type 0 where
    -- the sums are those of the run, and no more
    pub sums : s.gain.sums.now ≡ C
    pub sized : s.settings.allowed.shortest.m ≤ 4096 → Sized s n
    -- the records, of which there is one at most for each stored segment
    pub records : stored_records (run_over s n segments) ≡ records_in rows gains count
    pub standing : Standing (stored_records (run_over s n segments)) rows gains count
    pub few : count ≤ most_stored (source_of s.settings.source)

  pub stands : (before front : Slices) (count : ℕ)
      → s.gain.sums.now ≡ C
      → length C ≡ (n + 1) * s.gain.d
      → n ≤ 4096
      → front.rows ≡ holding (flat_rows (stored_records q)) before.rows
      → front.gains ≡ holding (gains_of (stored_records q)) before.gains
      → count ≡ length (stored_records q)
      → Stands front.rows front.gains count
  unfolding stored_records
  stands before front count sums long rows rows_are gains_are count-is =
      record {
        sums = sums;
        sized = λ most. (most, rows, rw sums (omega (arith, long)));
        records = rw (sums, count-is, rows_are, gains_are) (sym (records_told (stored_records q) _ _));
        standing = rw (sums, count-is) (told_stands before.rows before.gains rows_are gains_are);
        few = omega (arith, count-is, records_few (direct q) n (source_of s.settings.source));
      }

-- a matrix, whose sums are stored with them
module _ (x : Matrix) (before front : Slices) (clean : SumsClean x (length before.sums)) (len : ℕ) (len_is : len ≡ sums_room x) (sums-held : front.sums ≡ holding (sums_of x) before.sums) where
  pub sums_stand : take len front.sums ≡ sums_of x
  sums_stand = sums_part x (length before.sums) clean before.sums len_is (sums-held ∙ sym (sums_are x (length before.sums) clean before.sums))

  pub sums_long : length (sums_of x) ≡ len
  unfolding prefix_sums
  sums_long = length_flat x.cells x.d _ ∙ omega (arith, len_is, clean.total, clean.shape.long)

module _ (cells : List Float) (n : ℕ) (s : Asked) where
  abbrev x : Matrix
  x = record { cells = cells; n = n; d = s.gain.d }

  pub matrix_stands : (before front : Slices) → SumsClean x (length before.sums)
      → Held (sums_of x) (stored_records (run_of x (settings_of s.settings))) before front
      → (len count : ℕ) → len ≡ sums_room x → s.gain.sums.now ≡ take len front.sums → count ≡ length (stored_records (run_of x (settings_of s.settings)))
      → Stands (sums_of x) n s front.rows front.gains count
  matrix_stands before front clean held len count len_is sums count-is =
      stands (sums_of x) n s before front count
      (sums ∙ sums_stand x before front clean len len_is held.sums_are) (sums_long x before front clean len len_is held.sums_are ∙ len_is) clean.shape.rows.1
      held.rows_are held.gains_are count-is

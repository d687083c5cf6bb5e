-- A call for why, from what is stored to what is told. Assumes nothing.
use mathlib.Core.Path.{◌≡◌, refl, sym, ◌∙◌}
use mathlib.Core.List.{List}
use Prim.Native.Nat.{ℕ, ◌^◌, ◌*◌, ◌<◌, ◌≤◌}
use native.Mathlib.Nat.{zero-add}
use native.Mathlib.Omega.{arith}
use lib.Ieee.{Float}
use lib.ListN.{length, take}
use Rattle.std.proofs.Common.{Ok, Err}
use Rattle.scope.specs.Asked.{Matrix, Settings}
use Rattle.scope.specs.Refusals.{told_unless}
use Rattle.scope.specs.Layers.{StoredSegment}
use Rattle.scope.specs.Tree.{Run, direct, stored_records}
use Rattle.scope.specs.Calls.{sums_of, sums_room, stored_refusal, run_of}
use Rattle.scope.specs.Why.{WhyAsked, text_of, why_of, why_refusal, why_call}
use Rattle.scope.proofs.Draws.{records_few}
use Rattle.scope.proofs.Never.{never}
use Rattle.demand.specs.Because.{Because}
use Rattle.demand.proofs.Because.{justified}
use Rattle.demand.proofs.Origins.{text_room}
use Rattle.control.specs.declared.refusal.Refusal.{Refusal}
use Rattle.control.specs.Refused.{number_of}
use Rattle.control.specs.declared.settings.Settings.{Settings as SettingsStruct}
use Rattle.control.specs.Settings.{shortest_of, source_of, settings_of}
use Rattle.control.proofs.Follows.{answer_refused, held_refused, answer_given, held_given}
use Rattle.stored.specs.declared.records.Records.{Records}
use Rattle.stored.specs.Flat.{record_room, records_in}
use Rattle.stored.proofs.Flat.{sets_holding}
use Rattle.segmentation.specs.Segments.{Slices, stored_asked, StoresSegments}
use Rattle.segmentation.proofs.Held.{none_held, all_held}
use Rattle.verdict.specs.declared.Asked.{Asked}
use Rattle.verdict.specs.Rules.{run_over, Sized}
use Rattle.prepared.proofs.Stands.{segments, Stands, matrix_stands}
use Rattle.reasons.specs.declared.Why.{Why}
use Rattle.reasons.specs.Answers.{to_why}
use Rattle.reasons.specs.Walked.{Ready}
use Rattle.report.specs.Written.{Written}
use Rattle.entry_why.specs.Left.{why_asked, WhyLeft}
use Rattle.entry_why.proofs.Clean.{WhyClean, why_clean}

-- what is asked in room for so many records, which is that of the lent slices
module _ (x : Matrix) (s : Settings) (row : ℕ) (before : Slices) (text₀ : List ℕ) (room : ℕ) (room_is : room ≡ record_room before.rows before.gains) where
  abbrev pub asks : WhyAsked
  asks = record { matrix = x; settings = s; row = row; sums = length before.sums; records = room; text = length text₀ }

  abbrev a : WhyAsked
  a = why_asked x s row before text₀

  abbrev q : Run
  q = run_of x s

  -- a refusal changes nothing
  pub refused_told : (r : Refusal) → number_of r ≡ why_refusal asks → WhyLeft x s row (Err r) before before text₀ text₀
  unfolding why_call
  refused_told r said =
      let is : number_of r ≡ why_refusal a = rw room_is at said in
      record {
        answer = answer_refused r is (why_of q row);
        written = λ e w. never (cc);
        held = none_held r is (sums_of x) (stored_records q) before;
        text = held_refused r is (λ l. l) (text_of (why_of q row)) text₀ refl;
        because = λ e w. never (cc);
      }

  module _ (said : 0 ≡ why_refusal asks) where
    none : 0 ≡ why_refusal a
    none = rw room_is at said

    clean : WhyClean a
    clean = why_clean a (sym none)

    pub sizes : (x.n ≤ 4096) × (x.d ≤ 64)
    sizes = let w = clean.run.sums_fit.shape in (w.rows.1, w.columns.1)

    pub segments_clean : stored_refusal (stored_asked x s.shortest s.forbidden s.source before) ≡ 0
    segments_clean = clean.run.segments

    -- the sums are within their slice
    pub sums_within : (len : ℕ) → len ≡ sums_room x → len ≤ length before.sums
    sums_within len is = omega (arith, is, clean.run.sums_fit.fits)

    -- and the records
    pub records_within : (count : ℕ) (after : Slices) → StoresSegments x s.shortest s.forbidden s.source count before after → (5 * count ≤ length before.rows) × (count ≤ length before.gains)
    unfolding stored_records
    records_within count after stores =
        let few = records_few (direct q) x.n s.source in
        (omega (arith, stores.count, few, clean.records_fit), omega (arith, stores.count, few, clean.records_fit))

    module _ (counted : length s.source.draws ≤ 2 ^ 64) where
      -- the text has room
      pub text_fits : (w : Why) → to_why w ≡ why_of q row → length (text_of (to_why w)) ≤ length text₀
      text_fits w e =
          let room = text_room x s clean.run.lengths.0 clean.run.sums_fit.shape.rows.0 clean.layers_few counted row clean.row_within in
          rw e (omega (arith, room, clean.text_fits))

      -- an answer is so
      pub told : (count : ℕ) (after : Slices) → StoresSegments x s.shortest s.forbidden s.source count before after → (w : Why) → to_why w ≡ why_of q row
          → (text₁ : List ℕ) (long : ℕ) → Written text₀ 0 (text_of (to_why w)) text₁ long → WhyLeft x s row (Ok (record { why = w; written = long })) before after text₀ text₁
      unfolding why_call stored_records
      told count after stores w e text₁ long written =
          let so : Because q row (why_of q row) = (justified q clean.run.lengths.0 clean.run.sums_fit.shape.rows.0).so row clean.row_within in
          let text = text_of (why_of q row) in
          let long_is : long ≡ length (told_unless (why_refusal a) text) = rw (written.end_is, ← none, e) (zero-add (length text)) in
          record {
            answer = rw e (answer_given none (why_of q row));
            written = λ v t. let same : v ≡ record { why = w; written = long } = cc in rw same long_is;
            held = all_held none (sums_of x) (stored_records q) before stores.held;
            text = held_given none (λ l. l) text text₀ (written.after_is ∙ rw e (sets_holding text₀ text (rw e at (text_fits w e))));
            because = λ v t. let same : v ≡ record { why = w; written = long } = cc in rw (same, e) so;
          }

-- ---- over the sums that are left, what every segment is asked with
module _ (cells : List Float) (n : ℕ) (s : Asked) (row : ℕ) (before : Slices) (text₀ : List ℕ) (room : ℕ) (room_is : room ≡ record_room before.rows before.gains) where
  abbrev x : Matrix
  x = record { cells = cells; n = n; d = s.gain.d }

  abbrev settings : Settings
  settings = settings_of s.settings

  module _ (said : 0 ≡ why_refusal (asks x settings row before text₀ room room_is)) (count : ℕ) (front : Slices) (stores : StoresSegments x settings.shortest settings.forbidden settings.source count before front)
      (len : ℕ) (len_is : len ≡ sums_room x) (sums : s.gain.sums.now ≡ take len front.sums) where
    holds : WhyClean (why_asked x settings row before text₀)
    holds = clean x settings row before text₀ room room_is said

    standing : Stands (sums_of x) n s front.rows front.gains count
    unfolding stored_records
    standing = matrix_stands cells n s before front holds.run.sums_fit stores.held len count len_is sums stores.count

    pub walks : (records : Records) → records.rows.now ≡ front.rows → records.gains.now ≡ front.gains → records.count ≡ count → Sized s n × (row < n) × Ready s n records
    walks records rows_are gains_are count_is = (
      standing.sized holds.run.lengths.1,
      holds.row_within,
      record {
        least = holds.run.lengths.0;
        segments = segments (sums_of x) n s;
        stand = rw (rows_are, gains_are, count_is) standing.records;
      },
    )

    told_over : (w : Why) → ((q : List StoredSegment) → stored_records (run_over s n q) ≡ records_in front.rows front.gains count → to_why w ≡ why_of (run_over s n q) row) → to_why w ≡ why_of (run_of x settings) row
    told_over w tells = rw standing.sums at (tells (segments (sums_of x) n s) standing.records)

-- what is told is the definitions': of where the sums lie nothing is read
module _ (x : Matrix) (given : SettingsStruct) (row : ℕ) (before : Slices) (text₀ : List ℕ) (room : ℕ) (room_is : room ≡ record_room before.rows before.gains)
    (said : 0 ≡ why_refusal (asks x (settings_of given) row before text₀ room room_is)) (count : ℕ) (front : Slices) where
  abbrev over_sums : ℕ → Asked
  over_sums len = record { gain = record { sums = record { ref_ptr = (0, 0); now = take len front.sums }; d = x.d }; settings = given }

  pub told_is : StoresSegments x (shortest_of given.allowed.shortest) given.allowed.forbidden.now (source_of given.source) count before front → (len : ℕ) → len ≡ sums_room x
      → (w : Why) → ((q : List StoredSegment) → stored_records (run_over (over_sums len) x.n q) ≡ records_in front.rows front.gains count → to_why w ≡ why_of (run_over (over_sums len) x.n q) row)
      → to_why w ≡ why_of (run_of x (settings_of given)) row
  told_is stores len len_is = told_over x.cells x.n (over_sums len) row before text₀ room room_is said count front stores len len_is refl

-- A call for the tree, from what is prepared to what is grown: from a matrix, or from the sums of a fed run. Assumes nothing.
use mathlib.Core.Path.{◌≡◌, refl, sym, ◌∙◌, ap}
use mathlib.Core.List.{List, [], ◌++◌, map}
use Prim.Native.Nat.{ℕ, zero, suc, ◌+◌, ◌*◌, ◌≤◌}
use native.Mathlib.Omega.{arith}
use lib.Ieee.{Float}
use lib.ListN.{length, take, drop, length-append}
use lib.Seq.{drop-append-add, drop-drop, length-take-le}
use Rattle.std.proofs.Common.{Ok, Err}
use Rattle.scope.specs.Lists.{holding}
use Rattle.scope.specs.Asked.{Matrix}
use Rattle.scope.specs.Asked as asked
use Rattle.scope.specs.Refusals.{refused, given, unless, told_unless}
use Rattle.scope.specs.Tree.{Run, stored_records, grown, records_of, tree_of, nodes, sheet}
use Rattle.scope.specs.Calls.{sums_of, sums_room, TreeAsked, run_on, run_of, counts_of, run_follows, tree_refusal, tree_call}
use Rattle.scope.specs.Feed.{State, sums_in, fed_run, fed_refusal, fed_call}
use Rattle.scope.proofs.Never.{never}
use Rattle.demand.proofs.Demand.{demand}
use Rattle.control.specs.declared.refusal.Refusal.{Refusal}
use Rattle.control.specs.Refused.{number_of}
use Rattle.control.specs.Settings.{shortest_of, source_of, settings_of}
use Rattle.control.proofs.Follows.{answer_refused, held_refused, answer_given, held_given}
use Rattle.stored.specs.Flat.{flat_rows, gains_of}
use Rattle.stored.proofs.Flat.{rows_append, gains_append}
use Rattle.segmentation.specs.Segments.{Slices as RecordSlices}
use Rattle.verdict.specs.declared.Asked.{Asked}
use Rattle.verdict.specs.Rules.{Sized}
use Rattle.binary_segmentation.specs.declared.tree.Counts.{Counts}
use Rattle.node.specs.Nodes.{to_node}
use Rattle.binary_segmentation.specs.Growth.{Lent, Ready, Holds, Segmented}
use Rattle.prepared.specs.declared.Prepared.{Prepared}
use Rattle.prepared.specs.Answers.{room_in, tree_asked, standing_of, Prepares, TreePrepares, FedPrepares}
use Rattle.prepared.proofs.Clean.{Growable, tree_clean, fed_clean}
use Rattle.prepared.proofs.Stands.{segments, Stands, stands, sums_stand, sums_long}
use Rattle.entry_tree.specs.Left.{Slices, record_slices, RunLeft, TreeLeft, FedLeft}

-- what is told later stands over what was told before
told_on : {A : Type 0} (xs ys l : List A) → holding (xs ++ ys) (holding xs l) ≡ holding (xs ++ ys) l
told_on {A} xs ys l = rw (length-append xs ys) (ap (λ (t : List A). (xs ++ ys) ++ t) (drop-append-add xs (drop (length xs) l) (length ys) ∙ drop-drop (length ys) (length xs) l))

-- a number was given, or what stands is counted
unprepared : {A : Type 0} (z : ℕ) (a : A) (k : ℕ) → refused k ≡ unless z a → k ≡ z
unprepared zero a k h = never (cc)
unprepared (suc z) a k h = cc

given_is : {A : Type 0} (z : ℕ) (a b : A) → given b ≡ unless z a → (0 ≡ z) × (b ≡ a)
given_is zero a b h = (refl, cc)
given_is (suc z) a b h = never (cc)

counted : (z sums count : ℕ) (p : Prepared) → given (standing_of p) ≡ unless z (sums, count) → (0 ≡ z) × (p.len ≡ sums) × (p.stored ≡ count)
counted z sums count p h =
    let (none, is) = given_is z (sums, count) (standing_of p) h in
    (none, ap (λ (w : ℕ × ℕ). w.0) is, ap (λ (w : ℕ × ℕ). w.1) is)

-- the slices lent, with those of l
abbrev pub with_lent : List Float → Lent → Slices
with_lent sums l = record { sums = sums; rows = l.rows; gains = l.gains; nodes = l.nodes; cuts = l.cuts }

abbrev pub lent_of : Slices → RecordSlices → Lent
lent_of before front = record { rows = front.rows; gains = front.gains; nodes = before.nodes; cuts = before.cuts }

-- ---- `told` is what the slice for sums is told; front is what stands in the first three once the call is prepared
module _ (told : List Float) (number : ℕ) (before : Slices) (front : RecordSlices) where
  abbrev lent : Lent
  lent = lent_of before front

  -- a refusal changes nothing
  refused_told : (q : Run) (standing : ℕ) (e : Refusal) → Prepares standing told (stored_records q) number (Err e) (record_slices before) front
      → RunLeft (run_follows q told number) q (Err e) before (with_lent front.sums lent)
  refused_told q standing e said =
      let is = unprepared number (standing, length (stored_records q)) (number_of e) said.answer in
      record {
        answer = answer_refused e is (counts_of q);
        held = record {
          sums_are = said.held.sums_are;
          rows_are = said.held.rows_are ∙ sym (held_refused e is flat_rows (stored_records q) before.rows refl) ∙ held_refused e is flat_rows (records_of q) before.rows refl;
          gains_are = said.held.gains_are ∙ sym (held_refused e is gains_of (stored_records q) before.gains refl) ∙ held_refused e is gains_of (records_of q) before.gains refl;
        };
        nodes = held_refused e is (map to_node) (nodes 0 (tree_of q)) before.nodes refl;
        cuts = held_refused e is (λ l. l) (sheet (tree_of q)) before.cuts refl;
        demand = λ g w. never (cc);
      }

  -- ---- a run of n rows over the sums C of its columns, and what growing is handed
  module _ (C : List Float) (n : ℕ) (s : Asked) where
    abbrev q : Run
    q = run_on C n s.gain.d (settings_of s.settings)

    -- where nothing is refused the tree can be grown, and the run's sums stand
    module _ (admits : number ≡ 0 → Growable n s.gain.d (shortest_of s.settings.allowed.shortest) (source_of s.settings.source) (room_in (record_slices before) (length before.nodes) (length before.cuts)))
        (stand : number ≡ 0 → (take ((n + 1) * s.gain.d) front.sums ≡ C) × (length C ≡ (n + 1) * s.gain.d))
        (p : Prepared) (said : Prepares ((n + 1) * s.gain.d) told (stored_records q) number (Ok p) (record_slices before) front)
        (sums : s.gain.sums.now ≡ take p.len front.sums) where
      -- nothing is refused, and the stored segments' records stand
      what : (0 ≡ number) × (p.len ≡ (n + 1) * s.gain.d) × (p.stored ≡ length (stored_records q))
      what = counted number ((n + 1) * s.gain.d) (length (stored_records q)) p said.answer

      growable : Growable n s.gain.d (shortest_of s.settings.allowed.shortest) (source_of s.settings.source) (room_in (record_slices before) (length before.nodes) (length before.cuts))
      growable = admits (sym what.0)

      -- what is held where nothing is refused
      held : {A B : Type 0} (form : List A → List B) (l : List A) (b : List B) {c : List B} → c ≡ holding (form (told_unless number l)) b → c ≡ holding (form l) b
      held {A} form l b h = rw (← what.0) at h

      rows_held : front.rows ≡ holding (flat_rows (stored_records q)) before.rows
      rows_held = held flat_rows (stored_records q) before.rows said.held.rows_are

      gains_held : front.gains ≡ holding (gains_of (stored_records q)) before.gains
      gains_held = held gains_of (stored_records q) before.gains said.held.gains_are

      standing : Stands C n s front.rows front.gains p.stored
      standing =
          let (part, long) = stand (sym what.0) in
          stands C n s (record_slices before) front p.stored (sums ∙ rw what.1 part) long growable.shape.rows.1 rows_held gains_held what.2

      readied : length front.rows ≡ length before.rows → length front.gains ≡ length before.gains → Sized s n × Ready s n p.stored lent
      readied same_rows same-gains = (
        standing.sized growable.lengths.1,
        record {
          least = growable.lengths.0;
          nonempty = growable.shape.rows.0;
          segments = segments C n s;
          stand = standing.standing;
          room_rows = omega (arith, standing.few, growable.fits.records_fit, same_rows);
          room_gains = omega (arith, standing.few, growable.fits.records_fit, same-gains);
          room_nodes = omega (arith, growable.fits.nodes_fit);
          room_cuts = omega (arith, growable.fits.cuts_fit);
        },
      )

      grown_told : (l : Lent) (next : Counts) → Segmented s n p.stored lent l next → RunLeft (run_follows q told number) q (Ok (record { counts = next; stored = p.stored })) before (with_lent front.sums l)
      unfolding records_of
      grown_told l next segmented =
          let h : Holds q lent l next = rw standing.sums at (segmented.by (segments C n s) standing.standing) in
          let made = (grown q).made in
          record {
            answer = rw (h.counts, what.2) (answer_given what.0 (counts_of q));
            held = record {
              sums_are = said.held.sums_are;
              rows_are = held_given what.0 flat_rows (stored_records q ++ made) before.rows (h.rows ∙ rw (rows_held, rows_append (stored_records q) made) (told_on (flat_rows (stored_records q)) (flat_rows made) before.rows));
              gains_are = held_given what.0 gains_of (stored_records q ++ made) before.gains (h.gains ∙ rw (gains_held, gains_append (stored_records q) made) (told_on (gains_of (stored_records q)) (gains_of made) before.gains));
            };
            nodes = held_given what.0 (map to_node) (nodes 0 (tree_of q)) before.nodes h.nodes;
            cuts = held_given what.0 (λ c. c) (sheet (tree_of q)) before.cuts h.cuts;
            demand = λ g w. demand q growable.lengths.0 growable.shape.rows.0;
          }

-- ---- from a matrix
module _ (x : Matrix) (s : asked.Settings) (before : Slices) (front : RecordSlices) where
  abbrev a : TreeAsked
  a = tree_asked x s (record_slices before) (length before.nodes) (length before.cuts)

  pub tree_refused : (e : Refusal) → TreePrepares a (Err e) (record_slices before) front → TreeLeft x s (Err e) before (with_lent front.sums (lent_of before front))
  unfolding tree_call
  tree_refused e said = refused_told (sums_of x) (tree_refusal a) before front (run_of x s) (sums_room x) e said

  -- the sums are within their slice
  pub tree_within : (p : Prepared) → TreePrepares a (Ok p) (record_slices before) front → p.len ≤ length before.sums
  tree_within p said =
      let (none, len, _) = counted (tree_refusal a) (sums_room x) (length (stored_records (run_of x s))) p said.answer in
      omega (arith, len, (tree_clean a (sym none)).growable.fits.sums_fit)

  matrix_stands : tree_refusal a ≡ 0 → front.sums ≡ holding (told_unless (tree_refusal a) (sums_of x)) before.sums → (take (sums_room x) front.sums ≡ sums_of x) × (length (sums_of x) ≡ sums_room x)
  matrix_stands e sums =
      let held : front.sums ≡ holding (sums_of x) before.sums = rw e at sums in
      let clean = (tree_clean a e).run.sums_fit in
      (sums_stand x (record_slices before) front clean (sums_room x) refl held, sums_long x (record_slices before) front clean (sums_room x) refl held)

module _ (cells : List Float) (n : ℕ) (s : Asked) (before : Slices) (front : RecordSlices) where
  abbrev x : Matrix
  x = record { cells = cells; n = n; d = s.gain.d }

  abbrev asks : TreeAsked
  asks = a x (settings_of s.settings) before front

  module _ (p : Prepared) (said : TreePrepares asks (Ok p) (record_slices before) front) (sums : s.gain.sums.now ≡ take p.len front.sums) where
    pub tree_readied : length front.rows ≡ length before.rows → length front.gains ≡ length before.gains → Sized s n × Ready s n p.stored (lent_of before front)
    tree_readied = readied (sums_of x) (tree_refusal asks) before front (sums_of x) n s (λ e. (tree_clean asks e).growable) (λ e. matrix_stands x (settings_of s.settings) before front e said.held.sums_are) p said sums

    pub tree_left : (l : Lent) (next : Counts) → Segmented s n p.stored (lent_of before front) l next → TreeLeft x (settings_of s.settings) (Ok (record { counts = next; stored = p.stored })) before (with_lent front.sums l)
    unfolding tree_call
    tree_left = grown_told (sums_of x) (tree_refusal asks) before front (sums_of x) n s (λ e. (tree_clean asks e).growable) (λ e. matrix_stands x (settings_of s.settings) before front e said.held.sums_are) p said sums

-- ---- from the sums of a fed run: they are as they were lent
module _ (st : State) (s : asked.Settings) (before : Slices) (rows : List ℕ) (gains : List Float) where
  abbrev fed_front : RecordSlices
  fed_front = record { sums = before.sums; rows = rows; gains = gains }

  abbrev fed_number : ℕ
  fed_number = fed_refusal st s (room_in (record_slices before) (length before.nodes) (length before.cuts))

  pub fed_refused : (e : Refusal) → FedPrepares st s (length before.nodes) (length before.cuts) (Err e) (record_slices before) fed_front → FedLeft st s (Err e) before (with_lent before.sums (lent_of before fed_front))
  unfolding fed_call
  fed_refused e said = refused_told [] fed_number before fed_front (fed_run st s before.sums) (sums_in st) e said

  -- the sums are within their slice
  pub fed_within : (p : Prepared) → FedPrepares st s (length before.nodes) (length before.cuts) (Ok p) (record_slices before) fed_front → p.len ≤ length before.sums
  fed_within p said =
      let (none, len, _) = counted fed_number (sums_in st) (length (stored_records (fed_run st s before.sums))) p said.answer in
      omega (arith, len, (fed_clean st s (room_in (record_slices before) (length before.nodes) (length before.cuts)) (sym none)).growable.fits.sums_fit)

  fed_growable : fed_number ≡ 0 → Growable st.n st.d s.shortest s.source (room_in (record_slices before) (length before.nodes) (length before.cuts))
  fed_growable e = (fed_clean st s (room_in (record_slices before) (length before.nodes) (length before.cuts)) e).growable

  fed_stands : fed_number ≡ 0 → (take (sums_in st) before.sums ≡ take (sums_in st) before.sums) × (length (take (sums_in st) before.sums) ≡ sums_in st)
  fed_stands e = (refl, length-take-le (sums_in st) before.sums (fed_growable e).fits.sums_fit)

module _ (n count : ℕ) (s : Asked) (before : Slices) (rows : List ℕ) (gains : List Float) where
  abbrev st : State
  st = record { n = n; d = s.gain.d; count = count }

  abbrev settings : asked.Settings
  settings = settings_of s.settings

  abbrev fed : RecordSlices
  fed = fed_front st settings before rows gains

  module _ (p : Prepared) (said : FedPrepares st settings (length before.nodes) (length before.cuts) (Ok p) (record_slices before) fed) (sums : s.gain.sums.now ≡ take p.len before.sums) where
    pub fed_readied : length rows ≡ length before.rows → length gains ≡ length before.gains → Sized s n × Ready s n p.stored (lent_of before fed)
    fed_readied = readied [] (fed_number st settings before rows gains) before fed (take (sums_in st) before.sums) n s (fed_growable st settings before rows gains) (fed_stands st settings before rows gains) p said sums

    pub fed_left : (l : Lent) (next : Counts) → Segmented s n p.stored (lent_of before fed) l next → FedLeft st settings (Ok (record { counts = next; stored = p.stored })) before (with_lent before.sums l)
    unfolding fed_call
    fed_left = grown_told [] (fed_number st settings before rows gains) before fed (take (sums_in st) before.sums) n s (fed_growable st settings before rows gains) (fed_stands st settings before rows gains) p said sums

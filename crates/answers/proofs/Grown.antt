-- What the tree of a deck leaves in lent memory, and the text that is written from it. Assumes nothing.
use mathlib.Core.Path.{◌≡◌, refl, ap}
use mathlib.Core.List.{List, []}
use Prim.Native.Nat.{ℕ, zero, suc, ◌+◌, ◌≤◌}
use native.Mathlib.Omega.{arith}
use lib.Ieee.{Float}
use lib.ListN.{length, take, length-map}
use lib.Seq.{take_at}
use Rattle.std.specs.Prelude.{Result, Ok}
use Rattle.scope.specs.Asked.{off}
use Rattle.scope.specs.Lists.{holding}
use Rattle.scope.specs.Refusals.{Answer, given, unless}
use Rattle.scope.specs.Grid.{Record}
use Rattle.scope.specs.Layers.{seeded_from, layers_total, stored}
use Rattle.scope.specs.Tree.{Run, Tree, stored_records, tree_of, records_of, node_count, cuts, sheet, most_nodes}
use Rattle.scope.specs.Calls.{Counts, counts_of, tree_call}
use Rattle.scope.specs.Program.{sheet_text}
use Rattle.scope.proofs.Never.{never}
use Rattle.control.specs.declared.refusal.Refusal.{Refusal}
use Rattle.stored.specs.Flat.{flat_rows, gains_of, records_in}
use Rattle.stored.proofs.Flat.{records_told}
use Rattle.demand.proofs.Demand.{demand, records_fit}
use Rattle.line.specs.declared.Given.{Given}
use Rattle.limits.specs.Limits.{given_refusal}
use Rattle.limits.specs.Held.{matrix_held, settings_held, run_held}
use Rattle.limits.proofs.Clean.{GivenClean, given_clean}
use Rattle.sheet_text.specs.Lines.{sheet_of}
use Rattle.sheet_text.proofs.Lookup.{lines_are}
use Rattle.answers.specs.Answered.{tree_number, Grew, given_number}
use Rattle.answers.proofs.Limits.{few_nodes}
use Rattle.entry_tree.specs.Answers.{to_counts}
use Rattle.entry_tree.specs.Left.{PointsLeft}
use Rattle.entry_tree.specs.declared.Grown.{Grown}
use Rattle.segmentation.specs.Segments.{Slices as RecordSlices}

-- what the call for the tree ensures, in the room that the types give, is what `Grew` says
module _ (g : Given) (cells : List Float) (forbidden : List ℕ) (before after : RecordSlices) (cuts₀ cuts₁ : List ℕ) (r : Result Grown Refusal)
    (left : PointsLeft (matrix_held g cells) (settings_held g forbidden) r before after cuts₀ cuts₁) where
  pub grew : length before.sums ≡ 2112 → length before.rows ≡ 2545 → length before.gains ≡ 509 → length cuts₀ ≡ 254
      → Grew g cells forbidden before.rows before.gains cuts₀ after.rows after.gains cuts₁ r
  unfolding tree_number tree_call
  grew a b c d = record {
    answer_is = rw (a, b, c, d) at left.answer;
    rows_are = rw (a, b, c, d) at left.held.rows_are;
    gains_are = rw (a, b, c, d) at left.held.gains_are;
    cuts_are = rw (a, b, c, d) at left.cuts;
  }

-- ---- a deck that is not refused
module _ (g : Given) (cells : List Float) (forbidden : List ℕ) (judged : 0 ≡ given_refusal g forbidden) where
  abbrev q : Run
  q = run_held g cells forbidden

  abbrev answer : ℕ → Answer Counts
  answer k = unless k (counts_of q)

  -- counts are those of the tree, which is not refused
  record Free (counts : Counts) : Type 0 where
    free : tree_number g cells forbidden ≡ 0
    counts_are : counts ≡ counts_of q

  counted : (counts : Counts) → given counts ≡ answer (tree_number g cells forbidden) → Free counts
  counted counts h = go (tree_number g cells forbidden) refl h
    where
      go : (j : ℕ) → tree_number g cells forbidden ≡ j → given counts ≡ answer j → Free counts
      go zero e h = record { free = e; counts_are = cc }
      go (suc j) e h = never (cc)

  no_segments : stored_records q ≡ []
  unfolding stored_records seeded_from stored
  no_segments = refl

  facts : GivenClean g
  facts = given_clean g forbidden (rw (← judged))

  few_records : length (records_of q) ≤ 509
  unfolding layers_total
  few_records =
      let h : length (records_of q) ≤ 0 + most_nodes g.n (off g.m) = records_fit (matrix_held g cells) (settings_held g forbidden) facts.least facts.sizes.rows.0 in
      omega (arith, few_nodes g.n g.m facts.sizes.rows.1)

  few_cuts : length (sheet (tree_of q)) ≤ 254
  few_cuts = omega (arith, (demand q facts.least facts.sizes.rows.0).few_cuts, few_nodes g.n g.m facts.sizes.rows.1)

  sheet_long : (t : Tree) → length (sheet t) ≡ length (cuts t)
  unfolding sheet
  sheet_long t = length-map (cuts t) (λ (r : Record). r.split)

  sheet_text_lem : sheet_of (node_count (tree_of q)) (records_of q) (sheet (tree_of q)) ≡ sheet_text (tree_of q)
  unfolding sheet_text
  sheet_text_lem = rw (lines_are q facts.least facts.sizes.rows.0 no_segments, sheet_long (tree_of q))

  -- there is room for the sheet, and it is the deck's text
  pub record Sheeted (rows' : List ℕ) (gains' : List Float) (cuts' : List ℕ) (grown : Grown) : Type 0 where
    pub none : 0 ≡ given_number g cells forbidden
    pub few_cuts : grown.counts.cuts ≤ 254
    pub few_records : grown.counts.records ≤ 509
    pub text : sheet_of grown.counts.nodes (records_in rows' gains' grown.counts.records) (take grown.counts.cuts cuts') ≡ sheet_text (tree_of q)

  pub sheeted : (rows : List ℕ) (gains : List Float) (cuts rows' : List ℕ) (gains' : List Float) (cuts' : List ℕ) (grown : Grown)
      → Grew g cells forbidden rows gains cuts rows' gains' cuts' (Ok grown)
      → Sheeted rows' gains' cuts' grown
  sheeted rows gains cuts rows' gains' cuts' grown h =
      let f = counted (to_counts grown) h.answer_is in
      let rs = records_of q in
      let xs = sheet (tree_of q) in
      let a : rows' ≡ holding (flat_rows rs) rows = rw f.free at h.rows_are in
      let b : gains' ≡ holding (gains_of rs) gains = rw f.free at h.gains_are in
      let d : cuts' ≡ holding xs cuts = rw f.free at h.cuts_are in
      let nodes : grown.counts.nodes ≡ node_count (tree_of q) = ap (λ (c : Counts). c.nodes) f.counts_are in
      let records : grown.counts.records ≡ length rs = ap (λ (c : Counts). c.records) f.counts_are in
      let sheets : grown.counts.cuts ≡ length xs = ap (λ (c : Counts). c.cuts) f.counts_are in
      record {
        none = rw (← judged, f.free);
        few_cuts = rw sheets few_cuts;
        few_records = rw records few_records;
        text = rw (nodes, records, sheets, a, b, d, records_told rs _ _, take_at xs _ (length xs) refl) sheet_text_lem;
      }

-- "Drop the field and every answer is what it was", and whatever origins a run's stored segments have; what their origins say; that the text has room. Assumes nothing.
use mathlib.Core.Path.{◌≡◌, refl, sym, ap, ◌∙◌}
use mathlib.Core.Logic.{inl, ⊎_elim}
use mathlib.Core.List.Memᴰ
use mathlib.Core.List.{List, [], ◌∷◌, map, map-map}
use mathlib.Core.Option.{Option}
use Prim.Native.Nat.{ℕ, zero, suc, ◌+◌, ◌^◌, ◌≤◌, ◌<◌}
use native.Mathlib.Nat.{add-zero}
use native.Mathlib.Omega.{arith}
use lib.Ieee.{Float}
use lib.ListN.{length, length-append, length-map}
use Rattle.scope.specs.Lists.{at, ◌∈◌}
use Rattle.scope.specs.Asked.{Matrix, Shortest, Source, Settings}
use Rattle.scope.specs.Refusals.{told_unless, most_layers}
use Rattle.scope.specs.Origin.{Origin, direct, layer, draw, origin_text, origin_room}
use Rattle.scope.specs.Text.{bytes}
use Rattle.scope.specs.Grid.{Record}
use Rattle.scope.specs.Layers.{StoredSegment, of_origin, ends_of, layer_count, layer_segments, seeded_from}
use Rattle.scope.specs.Draws.{stored_segments}
use Rattle.scope.specs.Tree.{Run, stored_records, tree_of, records_of, node_count, nodes, cuts, sheet}
use Rattle.scope.specs.Calls.{gain_in, search_in, segments_of, StoredAsked, stored_refusal, stored_of, stored_call, run_of, counts_of, TreeAsked, tree_refusal, tree_follows, tree_call, counted_refusal, counted_call}
use Rattle.scope.specs.Origins.{bare_record, bare_records, bare_segments, bare_run, bare_node, bare_stored, bare_told, Dropped, Relabelled, SourceOf, of_layer, of_draw, StoredOrigins, Fits, TextFits}
use Rattle.scope.specs.Origins as origins
use Rattle.scope.specs.Before as before
use Rattle.scope.proofs.Digits.{digits_few}
use Rattle.scope.proofs.Draws.{stored_draws}
use Rattle.scope.proofs.Before.{bare_search, bare_seeded, bare_stored_lem, bare_drawn, bare_segments_lem, bare_stored_records, bare_choice, bare_verdict_lem, bare_tree_lem, bare_records_lem, bare_count, bare_nodes, bare_cuts, bare_sheet, bare_why_lem}

-- ---- what is read off a run's tree
module _ (q : Run) where
  nodes_were : (p : ℕ) → map bare_node (nodes p (tree_of q)) ≡ before.nodes p (before.tree_of (bare_run q))
  nodes_were p = bare_nodes p (tree_of q) ∙ ap (before.nodes p) (bare_tree_lem q)

  count_was : node_count (tree_of q) ≡ before.node_count (before.tree_of (bare_run q))
  count_was = bare_count (tree_of q) ∙ ap before.node_count (bare_tree_lem q)

  cuts_were : bare_records (cuts (tree_of q)) ≡ before.cuts (before.tree_of (bare_run q))
  cuts_were = bare_cuts (tree_of q) ∙ ap before.cuts (bare_tree_lem q)

  sheet_was : sheet (tree_of q) ≡ before.sheet (before.tree_of (bare_run q))
  sheet_was = bare_sheet (tree_of q) ∙ ap before.sheet (bare_tree_lem q)

-- ---- calls
as_many : (rs : List Record) (bs : List before.Record) → bare_records rs ≡ bs → length rs ≡ length bs
as_many rs bs e = sym (length-map rs bare_record) ∙ ap length e

after_told : {A B : Type 0} (f : A → B) (number : ℕ) (l : List A) → map f (told_unless number l) ≡ told_unless number (map f l)
after_told f zero l = refl
after_told f (suc k) l = refl

segments_were : (x : Matrix) (short : Shortest) (forbidden : List ℕ) (source : Source) → bare_segments (segments_of x short forbidden source) ≡ before.segments_of x short forbidden source
segments_were x short forbidden source = bare_segments_lem (search_in x short forbidden) (before.search_in x short forbidden) (bare_search (gain_in x) short forbidden) x.n source

run_was : (x : Matrix) (s : Settings) → bare_run (run_of x s) ≡ before.run_of x s
run_was x s = rw (segments_were x s.shortest s.forbidden s.source)

stored_were : (a : StoredAsked) → bare_records (stored_of a) ≡ before.stored_of a
stored_were a =
    let x = a.matrix in
    bare_stored_lem (search_in x a.shortest a.forbidden) (before.search_in x a.shortest a.forbidden) (bare_search (gain_in x) a.shortest a.forbidden) _
    ∙ rw (segments_were x a.shortest a.forbidden a.source)

stored_call_was : (a : StoredAsked) → bare_stored (stored_call a) ≡ before.stored_call a
unfolding stored_call before.stored_call
stored_call_was a = rw (after_told bare_record (stored_refusal a) (stored_of a), stored_were a, as_many (stored_of a) (before.stored_of a) (stored_were a))

counts_were : (q : Run) → counts_of q ≡ before.counts_of (bare_run q)
counts_were q = rw (count_was q, sheet_was q, as_many (records_of q) _ (bare_records_lem q), as_many (stored_records q) _ (bare_stored_records q))

follows_was : (a : TreeAsked) (number : ℕ) → bare_told (tree_follows a number) ≡ before.tree_follows a number
follows_was a number =
    let q = run_of a.matrix a.settings in
    rw (after_told bare_record number (records_of q), after_told bare_node number (nodes 0 (tree_of q)), counts_were q, bare_records_lem q, nodes_were q 0, sheet_was q, run_was a.matrix a.settings)

tree_call_was : (a : TreeAsked) → bare_told (tree_call a) ≡ before.tree_call a
unfolding tree_call before.tree_call
tree_call_was a = follows_was a (tree_refusal a)

counted_call_was : (a : TreeAsked) (counts : ℕ) → bare_told (counted_call a counts) ≡ before.counted_call a counts
unfolding counted_call before.counted_call
counted_call_was a counts = follows_was a (counted_refusal a counts)

pub dropped : Dropped
dropped =
    record {
      search = bare_search;
      seeded = bare_seeded 1;
      drawn = λ find. bare_drawn find _ (λ a b. refl);
      segments = λ find. bare_segments_lem find _ (λ a b. refl);
      run = run_was;
      choice = bare_choice;
      verdict = bare_verdict_lem;
      stored = bare_stored_records;
      tree = bare_tree_lem;
      records = bare_records_lem;
      nodes = nodes_were;
      node_count_lem = count_was;
      cuts = cuts_were;
      sheet = sheet_was;
      why = bare_why_lem;
      stored_call_lem = stored_call_was;
      tree_call_lem = tree_call_was;
      counted_call_lem = counted_call_was;
    }

-- ---- whatever origins the stored segments have: what of each run is a value of the bare run
same_run : (f : StoredSegment → Origin) (q : Run) → bare_run (origins.relabelled f q) ≡ bare_run q
same_run f q = rw (map-map ends_of (λ s. of_origin (f s) (ends_of s)) q.segments)

unmoved : {A : Type 0} {of : Run → A} (was : before.Run → A) → ((q : Run) → of q ≡ was (bare_run q)) → (f : StoredSegment → Origin) (q : Run) → of (origins.relabelled f q) ≡ of q
unmoved was h f q = h (origins.relabelled f q) ∙ ap was (same_run f q) ∙ sym (h q)

pub relabelled : Relabelled
relabelled =
    record {
      tree = unmoved before.tree_of dropped.tree;
      records = unmoved before.records_of dropped.records;
      nodes = λ f q p. unmoved (λ b. before.nodes p (before.tree_of b)) (λ r. dropped.nodes r p) f q;
      cuts = unmoved (λ b. before.cuts (before.tree_of b)) dropped.cuts;
      why = λ f q x. unmoved (λ b. before.why_of b x) (λ r. dropped.why r x) f q;
      sheet = unmoved (λ b. before.sheet (before.tree_of b)) dropped.sheet;
      node_count_lem = unmoved (λ b. before.node_count (before.tree_of b)) dropped.node_count_lem;
    }

-- ---- what origins say

-- the layer number k + j, which stands at j
record FromLayer (k n : ℕ) (layers : List Float) (s : StoredSegment) : Type 0 where
  j : ℕ
  within : j < length layers
  is : s.origin ≡ layer (k + j)
  one_of : ends_of s ∈ layer_segments n (at layers j) (layer_count (at layers j))

seeded_from_lem : (k n : ℕ) (layers : List Float) (s : StoredSegment) → s ∈ seeded_from k n layers → FromLayer k n layers s
unfolding seeded_from
seeded_from_lem k n [] s i = absurd (Memᴰ.not-nil i)
seeded_from_lem k n (v ∷ vs) s i =
    let ss = layer_segments n v (layer_count v) in
    ⊎_elim
    (λ m.
    let (g, h, e) = Memᴰ.of_map (of_origin (layer k)) ss m in
    record { j = 0; within = omega arith; is = ap (λ (z : StoredSegment). z.origin) (sym e) ∙ rw add-zero; one_of = rw (← e) h })
    (λ m.
    let f = seeded_from_lem (suc k) n vs s m in
    let number : suc k + f.j ≡ k + suc f.j = omega arith in
    record { j = suc f.j; within = omega (arith, f.within); is = f.is ∙ ap layer number; one_of = f.one_of })
    (Memᴰ.append_cases (map (of_origin (layer k)) ss) i)

origins_are : (find : ℕ → ℕ → Option Record) (n : ℕ) (source : Source) (s : StoredSegment) → s ∈ stored_segments find n source → SourceOf n source s
origins_are find n source s = go source.draws
  where
    go : (draws : List ℕ) → s ∈ stored_segments find n (record { layers = source.layers; draws = draws; W = source.W })
        → SourceOf n (record { layers = source.layers; draws = draws; W = source.W }) s
    go [] i =
        let f = seeded_from_lem 1 n source.layers s i in
        let number : 1 + f.j ≡ suc f.j = omega arith in
        of_layer f.j f.within (f.is ∙ ap layer number) f.one_of
    go (d ∷ ds) i = of_draw ((stored_draws find (d ∷ ds) source.W).placed s i)

pub stored_origins : StoredOrigins
stored_origins = record { are = origins_are }

-- ---- the text
text_few : (o : Origin) → Fits o → length (origin_text o) ≤ origin_room
unfolding origin_text bytes
text_few direct h = omega arith
text_few (layer k) h = rw length-append (omega (arith, digits_few 1 20 k (inl (omega arith))))
text_few (draw k) h = rw length-append (omega (arith, digits_few 19 20 k (inl (omega arith))))

source_fits : (n : ℕ) (source : Source) (s : StoredSegment) → length source.layers ≤ most_layers → length source.draws ≤ 2 ^ 64 → SourceOf n source s → Fits s.origin
source_fits n source s layers draws (of_layer k within is m) = rw is (omega arith)
source_fits n source s layers draws (of_draw p) = rw p.is (omega (arith, p.within))

pub text_fits : TextFits
text_fits = record { text = text_few; source = source_fits }

-- What holds where a run is not refused, and where a call for its tree is not, from its matrix or from the sums of a fed run. Assumes nothing.
use mathlib.Core.Path.{◌≡◌, sym, ◌∙◌}
use mathlib.Core.Bool.{false}
use mathlib.Core.List.{List, ◌++◌}
use Prim.Native.Nat.{ℕ, ◌+◌, ◌-◌, ◌*◌, ◌/◌, ◌≤◌}
use native.Mathlib.Omega.{arith}
use borrow.Author.Tests.{ltb-false, le-ltb}
use lib.Dec.{T, ltb}
use lib.ListN.{drop}
use Rattle.scope.specs.Asked.{Matrix, Shortest, Source, Settings}
use Rattle.scope.specs.Refusals.{Test, most_rows, most_length, first_of, outside, wrong_layers}
use Rattle.scope.specs.Draws.{most_stored, source_tests, any_past}
use Rattle.scope.specs.Tree.{most_nodes}
use Rattle.scope.specs.Calls.{sums_room, StoredAsked, stored_refusal, Room, run_tests, room_tests, TreeAsked, tree_tests, tree_refusal}
use Rattle.scope.specs.Feed.{State, fed_run_tests, fed_tests, fed_refusal}
use Rattle.change_in_mean.proofs.Room.{SumsClean, sums_clean}
use Rattle.scope.proofs.Candidates.{not_outside}
use Rattle.control.specs.declared.refusal.Refusal.{Refusal}
use Rattle.control.specs.Refused.{number_of}
use Rattle.control.proofs.Clean.{Numbered, Passed, passed, stops, passes, both_pass}
use Rattle.control.proofs.Follows.{numbered}
use Rattle.control.proofs.Sizes.{Sizes, sizes, matrix}

-- ---- no number up to 6 applies to a run of n rows of d columns
pub record RunClean (n d : ℕ) (s : Settings) : Type 0 where
  pub shape : Sizes most_rows n d
  pub least : (1 ≤ s.shortest.m) × (s.shortest.m ≤ 4096)
  pub layers : wrong_layers s.source.layers ≡ false
  pub few : s.source.W ≤ 4096

clean_of : {n d : ℕ} (s : Settings) → Sizes most_rows n d → outside most_length s.shortest.m ≡ false → Passed (source_tests s.source) → RunClean n d s
clean_of s shape length source = record {
  shape = shape;
  least = not_outside most_length s.shortest.m length;
  layers = source.1.0;
  few = ltb-false 4096 s.source.W source.1.1.1.0;
}

-- from its matrix, or fed
pub run_clean : (x : Matrix) (s : Settings) → first_of (run_tests x s) ≡ 0 → RunClean x.n x.d s
run_clean x s e =
    let p = passed (run_tests x s) tt e in
    let w = matrix most_rows x.cells x.n x.d p.0 in
    clean_of s (record { rows = w.rows; columns = w.columns }) p.1.0 p.1.1.1.1.1

pub fed_run_clean : (st : State) (s : Settings) → first_of (fed_run_tests st s) ≡ 0 → RunClean st.n st.d s
fed_run_clean st s e = let p = passed (fed_run_tests st s) tt e in clean_of s (sizes most_rows st.n st.d p.0) p.1.0 p.1.1.1.1

-- and what its room is then asked of
abbrev pub Small : ℕ → ℕ → Settings → Type 0
Small n d s = (n ≤ 4096) × (d ≤ 64) × (1 ≤ s.shortest.m) × (wrong_layers s.source.layers ≡ false) × (s.source.W ≤ 4096)

small : (n d : ℕ) (s : Settings) → RunClean n d s → Small n d s
small n d s w = (w.shape.rows.1, w.shape.columns.1, w.least.0, w.layers, w.few)

pub run_small : (x : Matrix) (s : Settings) → 0 ≡ first_of (run_tests x s) → Small x.n x.d s
run_small x s e = small x.n x.d s (run_clean x s (sym e))

pub fed_small : (st : State) (s : Settings) → 0 ≡ first_of (fed_run_tests st s) → Small st.n st.d s
fed_small st s e = small st.n st.d s (fed_run_clean st s (sym e))

-- ---- "The lowest number that applies", of two lists of tests
-- r is the refusal of the first list
pub by_first : (xs ys : List Test) (r : Refusal) → number_of r ≡ first_of xs → number_of r ≡ first_of (xs ++ ys)
by_first xs ys r is = is ∙ stops xs ys (λ z. numbered r (is ∙ z))

-- nothing of the first list is refused, so k is the number where it is that of the second
pub by_second : (xs ys : List Test) → T (Numbered xs) → 0 ≡ first_of xs → (k : ℕ) → k ≡ first_of ys → k ≡ first_of (xs ++ ys)
by_second xs ys h none k is = is ∙ sym (passes xs ys h (sym none))

-- a run's refusal, and past it that of the room, is the call's
module _ (a : TreeAsked) (r : Refusal) where
  pub tree_by_run : number_of r ≡ first_of (run_tests a.matrix a.settings) → number_of r ≡ tree_refusal a
  unfolding tree_refusal
  tree_by_run is = by_first (run_tests a.matrix a.settings) (drop 9 (tree_tests a)) r is

  pub tree_by_room : 0 ≡ first_of (run_tests a.matrix a.settings) → number_of r ≡ first_of (room_tests a.matrix.n a.matrix.d a.settings.shortest a.settings.source a.room) → number_of r ≡ tree_refusal a
  unfolding tree_refusal
  tree_by_room none is =
      by_second (run_tests a.matrix a.settings) (drop 9 (tree_tests a)) tt none _
      (by_first (room_tests a.matrix.n a.matrix.d a.settings.shortest a.settings.source a.room) (drop 13 (tree_tests a)) r is)

module _ (st : State) (s : Settings) (room : Room) (r : Refusal) where
  pub fed_by_run : number_of r ≡ first_of (fed_run_tests st s) → number_of r ≡ fed_refusal st s room
  unfolding fed_refusal
  fed_by_run is = by_first (fed_run_tests st s) (drop 8 (fed_tests st s room)) r is

  pub fed_by_room : 0 ≡ first_of (fed_run_tests st s) → number_of r ≡ first_of (room_tests st.n st.d s.shortest s.source room) → number_of r ≡ fed_refusal st s room
  unfolding fed_refusal
  fed_by_room none is =
      by_second (fed_run_tests st s) (drop 8 (fed_tests st s room)) tt none _
      (by_first (room_tests st.n st.d s.shortest s.source room) (drop 12 (fed_tests st s room)) r is)

-- its stored segments, in room for so many sums and records
abbrev pub segments_asked : Matrix → Settings → ℕ → ℕ → StoredAsked
segments_asked x s sums records = record { matrix = x; shortest = s.shortest; forbidden = s.forbidden; source = s.source; sums = sums; records = records }

-- and what holds where there is that room, and no draw is past the run: they are not refused either
pub record RunFits (x : Matrix) (s : Settings) (sums records : ℕ) : Type 0 where
  pub sums_fit : SumsClean x sums
  pub lengths : (1 ≤ s.shortest.m) × (s.shortest.m ≤ 4096)
  pub segments : stored_refusal (segments_asked x s sums records) ≡ 0

pub run_fits : (x : Matrix) (s : Settings) (sums records : ℕ)
    → first_of (run_tests x s) ≡ 0
    → ltb sums (sums_room x) ≡ false
    → most_stored s.source ≤ records
    → any_past x.n s.source.draws ≡ false
    → RunFits x s sums records
unfolding stored_refusal
run_fits x s sums records e room most past =
    let p = passed (run_tests x s) tt e in
    let values = p.1.1.1 in
    let source = values.1.1 in
    record {
      sums_fit = sums_clean x sums p.0 room;
      lengths = (run_clean x s e).least;
      segments =
          rw (p.0, p.1.0, values.0, values.1.0, source.0, source.1.0, source.1.1.0, source.1.1.1.0, room, le-ltb records (most_stored s.source) most, past);
    }

-- ---- there is room for a tree
pub record Roomy (n d : ℕ) (short : Shortest) (source : Source) (room : Room) : Type 0 where
  pub sums_fit : (n + 1) * d ≤ room.sums
  pub records_fit : most_stored source + most_nodes n short ≤ room.records
  pub nodes_fit : most_nodes n short ≤ room.nodes
  pub cuts_fit : (most_nodes n short - 1) / 2 ≤ room.cuts

pub roomy : (n d : ℕ) (short : Shortest) (source : Source) (room : Room) → first_of (room_tests n d short source room) ≡ 0 → Roomy n d short source room
roomy n d short source room e =
    let p = passed (room_tests n d short source room) tt e in
    let most = most_nodes n short in
    record {
      sums_fit = ltb-false room.sums ((n + 1) * d) p.0;
      records_fit = ltb-false room.records (most_stored source + most) p.1.0;
      nodes_fit = ltb-false room.nodes most p.1.1.0;
      cuts_fit = ltb-false room.cuts ((most - 1) / 2) p.1.1.1.0;
    }

-- a tree can be grown: sizes and room
pub record Growable (n d : ℕ) (short : Shortest) (source : Source) (room : Room) : Type 0 where
  pub shape : Sizes most_rows n d
  pub lengths : (1 ≤ short.m) × (short.m ≤ 4096)
  pub fits : Roomy n d short source room

-- ---- a call for the tree
pub record TreeClean (a : TreeAsked) : Type 0 where
  pub run : RunFits a.matrix a.settings a.room.sums a.room.records
  pub growable : Growable a.matrix.n a.matrix.d a.settings.shortest a.settings.source a.room

pub tree_clean : (a : TreeAsked) → tree_refusal a ≡ 0 → TreeClean a
unfolding tree_refusal
tree_clean a e =
    let s = a.settings in
    let (run, rest) = both_pass (run_tests a.matrix s) (drop 9 (tree_tests a)) tt e in
    let (room, last) = both_pass (room_tests a.matrix.n a.matrix.d s.shortest s.source a.room) (drop 13 (tree_tests a)) tt rest in
    let fit = roomy a.matrix.n a.matrix.d s.shortest s.source a.room room in
    let w = run_clean a.matrix s run in
    record {
      run = run_fits a.matrix s a.room.sums a.room.records run (le-ltb a.room.sums (sums_room a.matrix) fit.sums_fit) (omega (arith, fit.records_fit)) (passed (drop 13 (tree_tests a)) tt last).0;
      growable = record { shape = w.shape; lengths = w.least; fits = fit };
    }

-- ---- a call for the later sheet
pub record FedClean (st : State) (s : Settings) (room : Room) : Type 0 where
  pub run : RunClean st.n st.d s
  pub growable : Growable st.n st.d s.shortest s.source room
  pub within : any_past st.n s.source.draws ≡ false

pub fed_clean : (st : State) (s : Settings) (room : Room) → fed_refusal st s room ≡ 0 → FedClean st s room
unfolding fed_refusal
fed_clean st s room e =
    let (run, rest) = both_pass (fed_run_tests st s) (drop 8 (fed_tests st s room)) tt e in
    let (fits, last) = both_pass (room_tests st.n st.d s.shortest s.source room) (drop 12 (fed_tests st s room)) tt rest in
    let w = fed_run_clean st s run in
    record {
      run = w;
      growable = record { shape = w.shape; lengths = w.least; fits = roomy st.n st.d s.shortest s.source room fits };
      within = (passed (drop 12 (fed_tests st s room)) tt last).0;
    }

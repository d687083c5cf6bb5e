-- A call that is not refused, in the room that is lent: its sizes, and what is answered once its stored segments' records are stored. Assumes nothing.
use mathlib.Core.Path.{◌≡◌, refl, sym}
use mathlib.Core.Bool.{false}
use mathlib.Core.List.{List, []}
use Prim.Native.Nat.{ℕ, ◌+◌, ◌*◌, ◌≤◌}
use native.Mathlib.Omega.{arith}
use lib.Ieee.{Float}
use lib.ListN.{length, take}
use lib.Seq.{length-take-le}
use Rattle.std.proofs.Common.{Ok}
use Rattle.scope.specs.Asked.{Matrix, Settings}
use Rattle.scope.specs.Refusals.{wrong_layers}
use Rattle.scope.specs.Draws.{most_stored}
use Rattle.scope.specs.Tree.{direct, stored_records}
use Rattle.scope.specs.Calls.{sums_of, sums_room, run_of, TreeAsked, stored_refusal, tree_refusal}
use Rattle.scope.specs.Feed.{State, sums_in, fed_run, fed_refusal}
use Rattle.scope.proofs.Draws.{records_few}
use Rattle.control.proofs.Follows.{answer_given}
use Rattle.stored.specs.Flat.{Put}
use Rattle.stored.proofs.Flat.{put_told}
use Rattle.segmentation.specs.Segments.{Slices, Within, stored_asked, StoresSegments}
use Rattle.segmentation.proofs.Clean.{draws_within}
use Rattle.segmentation.proofs.Held.{all_held}
use Rattle.prepared.specs.declared.Room.{Room}
use Rattle.prepared.specs.declared.Prepared.{Prepared}
use Rattle.prepared.specs.Answers.{room_of, room_in, tree_asked, TreePrepares, FedPrepares}
use Rattle.prepared.proofs.Clean.{TreeClean, tree_clean, FedClean, fed_clean}

-- ---- from a matrix
module _ (x : Matrix) (s : Settings) (lent : Slices) (nodes cuts : ℕ) (room : Room) (is : room_of room ≡ room_in lent nodes cuts)
    (none : 0 ≡ tree_refusal (record { matrix = x; settings = s; room = room_of room })) where
  abbrev a : TreeAsked
  a = tree_asked x s lent nodes cuts

  number : 0 ≡ tree_refusal a
  number = rw is at none

  clean : TreeClean a
  clean = tree_clean a (sym number)

  pub tree_sizes : (x.n ≤ 4096) × (x.d ≤ 64)
  tree_sizes = let w = clean.growable.shape in (w.rows.1, w.columns.1)

  pub tree_segments : stored_refusal (stored_asked x s.shortest s.forbidden s.source lent) ≡ 0
  tree_segments = clean.run.segments

  pub tree_prepared : (p : Prepared) (after : Slices) → p.len ≡ sums_room x → StoresSegments x s.shortest s.forbidden s.source p.stored lent after → TreePrepares a (Ok p) lent after
  unfolding stored_records
  tree_prepared p after len stores = record {
    answer = rw (len, stores.count) (answer_given number (sums_room x, length (stored_records (run_of x s))));
    held = all_held number (sums_of x) (stored_records (run_of x s)) lent stores.held;
  }

-- ---- from the sums of a fed run
module _ (st : State) (s : Settings) (lent : Slices) (nodes cuts : ℕ) (room : Room) (is : room_of room ≡ room_in lent nodes cuts) (none : 0 ≡ fed_refusal st s (room_of room)) where
  fed_number : 0 ≡ fed_refusal st s (room_in lent nodes cuts)
  fed_number = rw is at none

  runs : FedClean st s (room_in lent nodes cuts)
  runs = fed_clean st s (room_in lent nodes cuts) (sym fed_number)

  pub fed_sizes : (st.n ≤ 4096) × (st.d ≤ 64)
  fed_sizes = let w = runs.growable.shape in (w.rows.1, w.columns.1)

  pub fed_records : (5 * most_stored s.source ≤ length lent.rows) × (most_stored s.source ≤ length lent.gains)
  fed_records = let w = runs.growable.fits.records_fit in (omega (arith, w), omega (arith, w))

  -- the sums of its rows are a part of the lent ones
  module _ (len : ℕ) (len_is : len ≡ sums_in st) where
    pub fed_part : len ≡ length (take len lent.sums)
    fed_part = sym (length-take-le len lent.sums (omega (arith, len_is, runs.growable.fits.sums_fit)))

    pub fed_rows : (st.n ≤ 4096) × (s.shortest.m ≤ 4096) × ((st.n + 1) * st.d ≤ length (take len lent.sums))
    fed_rows = (fed_sizes.0, runs.growable.lengths.1, omega (arith, len_is, fed_part))

    pub fed_source : (wrong_layers s.source.layers ≡ false) × Within s.source.draws st.d (length (take len lent.sums))
    fed_source = (runs.run.layers, draws_within s.source.draws st.n st.d _ runs.within fed_sizes.0 fed_rows.2)

    pub fed_prepared : (stored : ℕ) (rows : List ℕ) (gains : List Float) → Put (stored_records (fed_run st s lent.sums)) 0 lent.rows lent.gains rows gains stored
        → FedPrepares st s nodes cuts (Ok (record { len = len; stored = stored })) lent (record { sums = lent.sums; rows = rows; gains = gains })
    unfolding stored_records
    fed_prepared stored rows gains put =
        let q = fed_run st s lent.sums in
        let few = records_few (direct q) st.n s.source in
        let fits = runs.growable.fits.records_fit in
        let told = put_told (omega (arith, put.told, few, fits)) (omega (arith, put.told, few, fits)) put in
        let count : stored ≡ length (stored_records q) = omega (arith, put.told) in
        record {
          answer = rw (len_is, count) (answer_given fed_number (sums_in st, length (stored_records q)));
          held = all_held fed_number [] (stored_records q) lent (record { sums_are = refl; rows_are = told.0; gains_are = told.1 });
        }

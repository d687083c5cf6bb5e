-- The whole run is grown behind the stored segments' records: there is room for it, and the lent memory then holds what the definitions tell. Assumes nothing.
use mathlib.Core.Path.{◌≡◌, refl, ◌∙◌}
use mathlib.Core.List.{List, ◌++◌, map}
use Prim.Native.Nat.{ℕ, zero, suc, ◌-◌, ◌*◌, ◌/◌, ◌≤◌}
use native.Mathlib.Nat.{zero-add}
use native.Mathlib.Omega.{arith}
use lib.Ieee.{Float}
use lib.ListN.{length}
use Rattle.control.specs.Settings.{shortest_of}
use Rattle.scope.specs.Grid.{Record}
use Rattle.scope.specs.Layers.{StoredSegment, one}
use Rattle.scope.specs.Tree.{Run, direct, choice, verdict, stored_records, parted, grow, grown, tree_of, records_of, nodes, node_count, sheet, most_nodes}
use Rattle.stored.specs.Flat.{Put, Standing}
use Rattle.stored.proofs.Flat.{sets_holding, put_more, put_told, standing_read}
use Rattle.verdict.specs.declared.Asked.{Asked}
use Rattle.verdict.specs.Rules.{run_over, over}
use Rattle.binary_segmentation.specs.declared.tree.Counts.{Counts}
use Rattle.node.specs.declared.Node.{Node as NodeStruct}
use Rattle.node.specs.Nodes.{to_node}
use Rattle.binary_segmentation.specs.Growth.{Lent, stored, Written, Growing, Sound, Fits, Ready, Holds, Segmented}
use Rattle.demand.proofs.Records.{labelled_found, segments_are}
use Rattle.demand.proofs.Demand.{demand}
use Rattle.binary_segmentation.proofs.Growth.{found_sound, made_few, nodes_long}

module _ (s : Asked) (n count : ℕ) (l : Lent) (ready : Ready s n count l) where
  abbrev before : Counts
  before = record { nodes = 0; records = count; cuts = 0 }

  -- of each run whose stored segments' records stand
  module _ (segments : List StoredSegment) (stand : Standing (stored_records (run_over s n segments)) l.rows l.gains count) where
    abbrev q : Run
    q = run_over s n segments

    read : stored l count ≡ stored_records q
    read = standing_read (omega (arith, ready.room_rows)) (omega (arith, ready.room_gains)) stand

    -- neither n nor the stored segments are read while it is grown
    same_growth : (k : ℕ) (rs : List Record) (start stop : ℕ) → grow (over s) k rs start stop ≡ grow q k rs start stop
    unfolding grow verdict choice
    same_growth zero rs start stop = refl
    same_growth (suc k) rs start stop = let d = one (direct q start stop) in λ i. parted start stop d (verdict q rs start stop) (λ c. same_growth k (rs ++ d) start c i) (λ c more. same_growth k ((rs ++ d) ++ more) c stop i)

    whole : grow (over s) n (stored l count) 0 n ≡ grown q
    unfolding grown
    whole = rw read (same_growth n (stored_records q) 0 n)

    few : node_count (tree_of q) ≤ most_nodes n (shortest_of s.settings.allowed.shortest)
    few = (demand q ready.least ready.nonempty).few_nodes

    few_cuts : length (sheet (tree_of q)) ≤ (most_nodes n (shortest_of s.settings.allowed.shortest) - 1) / 2
    few_cuts = (demand q ready.least ready.nonempty).few_cuts

    few_made : length (grown q).made ≤ node_count (tree_of q)
    unfolding grown
    few_made = made_few q n (stored_records q) 0 n

    stored_sound : Sound (shortest_of s.settings.allowed.shortest) (stored_records q)
    stored_sound r i = let f = segments_are q r i in let g = f.segment in found_sound q g.start g.stop r (labelled_found q g.start g.stop g.origin r f.found)

    fits : Fits (over s) 0 n before l
    fits = record {
      least = ready.least;
      nonempty = ready.nonempty;
      sound = rw read stored_sound;
      fuel = n;
      enough = omega arith;
      room_rows = rw whole (omega (arith, few, ready.room_rows));
      room_gains = rw whole (omega (arith, few, ready.room_gains));
      room_nodes = rw whole (omega (arith, few, ready.room_nodes));
      room_cuts = rw whole (omega (arith, few_cuts, ready.room_cuts));
    }

    module _ (l' : Lent) (next : Counts) (growing : Growing (over s) 0 n before l l' next) where
      written : Written (grown q) before l l' next
      written = rw whole at (growing.by n (omega arith))

      -- the stored segments' records, then those that are made
      put : Put (records_of q) 0 l.rows l.gains l'.rows l'.gains next.records
      unfolding records_of
      put = put_more stand written.records

      room : (5 * next.records ≤ length l.rows) × (next.records ≤ length l.gains)
      room = let e = written.records.told in (omega (arith, e, few_made, few, ready.room_rows), omega (arith, e, few_made, few, ready.room_gains))

      holds : Holds q l l' next
      holds =
          let (rows, gains) = put_told room.0 room.1 put in
          let t = tree_of q in
          record {
            rows = rows;
            gains = gains;
            nodes = written.nodes ∙ sets_holding l.nodes (map to_node (nodes 0 t)) (omega (arith, nodes_long 0 t, few, ready.room_nodes));
            cuts = written.cuts ∙ sets_holding l.cuts (sheet t) (omega (arith, few_cuts, ready.room_cuts));
            counts = rw (written.next_node, put.told, written.next_cut) (simp zero-add);
          }

  pub whole_fits : Fits (over s) 0 n before l
  whole_fits = fits ready.segments ready.stand

  pub segmented : (l' : Lent) (next : Counts) → Growing (over s) 0 n before l l' next → Segmented s n count l l' next
  segmented l' next growing = record { by = λ segments stand. holds segments stand l' next growing }

-- what the lent slices hold, each by itself
pub held_there : {s : Asked} {n count : ℕ} {l l' : Lent} {next : Counts} {rows : List ℕ} {gains : List Float} {nodes : List NodeStruct} {cuts : List ℕ}
    → l'.rows ≡ rows → l'.gains ≡ gains → l'.nodes ≡ nodes → l'.cuts ≡ cuts → Segmented s n count l l' next → Segmented s n count l (record { rows = rows; gains = gains; nodes = nodes; cuts = cuts }) next
held_there r g n c h = rw (← r, ← g, ← n, ← c) h

-- The walk from the whole run down to the segment that a row is told of. Assumes nothing.
use mathlib.Core.Path.{◌≡◌, refl, sym, ◌∙◌, ap}
use mathlib.Core.Bool.{false}
use mathlib.Core.List.{List}
use Prim.Native.Nat.{ℕ, ◌≤◌, ◌<◌}
use native.Mathlib.Omega.{arith}
use Rattle.scope.specs.Grid.{Record}
use Rattle.scope.specs.Layers.{StoredSegment}
use Rattle.scope.specs.Tree.{Run, stored_records, choice, cut, verdict, Tree, tree_of}
use Rattle.scope.specs.Why.{place_of, by_place, reason_in, why_of}
use Rattle.scope.specs.Why as told
use Rattle.demand.specs.Reached.{ruling, is_cut}
use Rattle.demand.specs.Grows.{Grows}
use Rattle.demand.proofs.Cut.{Far, cut_far}
use Rattle.demand.proofs.Grows.{parts_of}
use Rattle.demand.proofs.Made.{grown_grows}
use Rattle.demand.proofs.Place.{place_at, place_left, place_right, leaf_place}
use Rattle.optimizer.specs.declared.optimizer_result.GainRecord.{GainRecord}
use Rattle.verdict.specs.declared.Asked.{Asked}
use Rattle.verdict.specs.declared.Verdict.{Verdict}
use Rattle.verdict.specs.declared.Verdict.TheVariants.{WithoutChoice, Uncut, Cut}
use Rattle.verdict.specs.Rules.{run_over, over, Rules}

-- a verdict that is none of a cut
pub not_cut : (q : Run) (rs : List Record) (start stop : ℕ) (v : Verdict) → ((d c : GainRecord) → v ≡ Cut d c → ⊥) → Rules q rs start stop v → is_cut (verdict q rs start stop) ≡ false
not_cut q rs start stop WithoutChoice h (d, v) = ap is_cut v
not_cut q rs start stop (Uncut d c) h (e, v) = ap is_cut v
not_cut q rs start stop (Cut d c) h r = absurd (h d c refl)

-- a run over prefix sums, the records rs of whose stored segments stand; a row x of it
module _ (s : Asked) (n : ℕ) (rs : List Record) (x : ℕ) where
  abbrev q : List StoredSegment → Run
  q segments = run_over s n segments

  -- the row is one of [start, stop), and stands in its tree as in the whole one
  pub record Down (start stop : ℕ) : Type 0 where
    pub low : start ≤ x
    pub high : x < stop
    pub fits : stop ≤ n
    pub by : (segments : List StoredSegment) → stored_records (q segments) ≡ rs → (t : Tree) × Grows (q segments) start stop t × (place_of x t ≡ place_of x (tree_of (q segments)))

  module _ (least : 1 ≤ s.settings.allowed.shortest.m) where
    pub down_whole : x < n → Down 0 n
    down_whole h = record { low = omega arith; high = h; fits = omega arith; by = λ segments stand. (tree_of (q segments), grown_grows (q segments) least (omega arith), refl) }

    -- the verdict is the one by the stored segments' records alone
    ruled : (segments : List StoredSegment) → stored_records (q segments) ≡ rs → (start stop : ℕ) → ruling (q segments) start stop ≡ verdict (over s) rs start stop
    unfolding ruling verdict choice
    ruled segments stand start stop = rw stand

    -- ---- a segment on the way
    module _ (start stop : ℕ) (d : Down start stop) where
      -- it is not cut: the row is told of it
      pub told_uncut : is_cut (verdict (over s) rs start stop) ≡ false → (segments : List StoredSegment) → stored_records (q segments) ≡ rs
          → reason_in (over s) x (record { start = start; stop = stop }) ≡ why_of (q segments) x
      unfolding why_of
      told_uncut u segments stand =
          let (t, g, e) = d.by segments stand in
          let leaf = leaf_place (q segments) least x (tree_of (q segments)) (grown_grows (q segments) least (omega (arith, d.high, d.fits))) start stop t g (ap is_cut (ruled segments stand start stop) ∙ u) in
          ap (by_place (q segments) x) (sym leaf ∙ e)

      -- it is cut by c
      module _ (c : Record) (is : verdict (over s) rs start stop ≡ cut c) where
        cut_is : (segments : List StoredSegment) → stored_records (q segments) ≡ rs → ruling (q segments) start stop ≡ cut c
        cut_is segments stand = ruled segments stand start stop ∙ is

        -- at the row
        pub told_cut : x ≡ c.split → (segments : List StoredSegment) → stored_records (q segments) ≡ rs → told.cut (record { start = start; stop = stop }) c.origin ≡ why_of (q segments) x
        unfolding why_of
        told_cut at segments stand =
            let (t, g, e) = d.by segments stand in
            let p = parts_of (q segments) start stop c t (cut_is segments stand) g in
            ap (by_place (q segments) x) (sym (place_at x start stop c p.left p.right at) ∙ sym (ap (place_of x) p.is) ∙ e)

        -- elsewhere: the part that holds the row is shorter
        module _ (segments : List StoredSegment) (stand : stored_records (q segments) ≡ rs) where
          pub far : Far (q segments) start stop c.split
          far = cut_far (q segments) start stop c (cut_is segments stand)

          pub down_left : x < c.split → Down start c.split
          down_left below =
              record {
                low = d.low;
                high = below;
                fits = omega (arith, far.right, d.fits);
                by = λ segments stand.
                    let (t, g, e) = d.by segments stand in
                    let p = parts_of (q segments) start stop c t (cut_is segments stand) g in
                    (p.left, p.grows_left, sym (place_left x start stop c p.left p.right below) ∙ sym (ap (place_of x) p.is) ∙ e);
              }

          pub down_right : c.split < x → Down c.split stop
          down_right above =
              record {
                low = omega arith;
                high = d.high;
                fits = d.fits;
                by = λ segments stand.
                    let (t, g, e) = d.by segments stand in
                    let p = parts_of (q segments) start stop c t (cut_is segments stand) g in
                    (p.right, p.grows_right, sym (place_right x start stop c p.left p.right above) ∙ sym (ap (place_of x) p.is) ∙ e);
              }

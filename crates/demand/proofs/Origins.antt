-- What holds of `direct` and of every stored segment's origin holds of each origin that is told; and its text has room. Assumes nothing.
use mathlib.Core.Path.{◌≡◌, refl, sym, ap}
use mathlib.Core.List.Memᴰ
use mathlib.Core.List.{[]}
use mathlib.Core.Option.{Option, none, some}
use Prim.Native.Nat.{ℕ, ◌≤◌, ◌<◌}
use native.Mathlib.Omega.{arith}
use lib.ListN.{length}
use Rattle.scope.specs.Lists.{◌∈◌}
use Rattle.scope.specs.Asked.{Matrix, Settings}
use Rattle.scope.specs.Origin.{Origin, direct, origin_room}
use Rattle.scope.specs.Origins.{Fits}
use Rattle.scope.specs.Grid.{Record}
use Rattle.scope.specs.Layers.{Segment, StoredSegment, labelled}
use Rattle.scope.specs.Tree.{Run, stored_records, choice, tree_of}
use Rattle.scope.specs.Tree as tree
use Rattle.scope.specs.Calls.{search_in, run_of}
use Rattle.scope.specs.Why.{Why, cut, too_near, barred, no_number, not_above, text_of, why_of}
use Rattle.scope.proofs.Never.{never}
use Rattle.scope.proofs.Origins.{stored_origins, text_fits}
use Rattle.demand.specs.Because.{CutOf}
use Rattle.demand.specs.Reached.{CameFrom, itself, within}
use Rattle.demand.specs.Origins.{Origins, TextRoom}
use Rattle.demand.proofs.Choice.{choice_source}
use Rattle.demand.proofs.Cut.{cut_choice}
use Rattle.demand.proofs.Made.{grown_grows}
use Rattle.demand.proofs.Sheet.{on_cuts}
use Rattle.demand.proofs.Because.{justified}

-- a record has the origin that it was given
labelled_origin : (o : Origin) (w : Option Record) (r : Record) → labelled o w ≡ some r → r.origin ≡ o
labelled_origin o none r h = never (cc)
labelled_origin o (some s) r h = sym (ap origin_or h)
  where
    origin_or : Option Record → Origin
    origin_or none = o
    origin_or (some z) = z.origin

module _ (q : Run) (least : 1 ≤ q.shortest.m) (rows : 1 ≤ q.n) where
  module _ (P : Origin → Type 0) (itself-so : P direct) (stored-so : (s : StoredSegment) → s ∈ q.segments → P s.origin) where
    choices : (start stop : ℕ) (r : Record) → choice q (stored_records q) start stop ≡ some r → P r.origin
    choices start stop r is = go (choice_source q start stop r is)
      where
        go : CameFrom q start stop r → P r.origin
        go (itself o h) = rw o itself-so
        go (within {s = s} i l u h) = rw (labelled_origin s.origin (tree.direct q s.start s.stop) r h) (stored-so s i)

    told : (x : ℕ) → x < q.n → (g : Segment) (o : Origin) → why_of q x ≡ cut g o → P o
    told x h g o is =
        let c : CutOf q x g o = rw is at ((justified q least rows).so x h) in
        rw c.from (choices g.start g.stop c.by (cut_choice q g.start g.stop c.by c.is).0)

  nothing_stored : q.segments ≡ [] → (s : StoredSegment) → s ∈ q.segments → s.origin ≡ direct
  nothing_stored empty s i = absurd (Memᴰ.not-nil (rw empty at i))

  pub origins : Origins q
  origins =
      record {
        choices = choices;
        told = told;
        sheet_direct = λ empty r i.
            let c = (on_cuts q (tree_of q) (grown_grows q least rows) r).0 i in
            choices (λ o. o ≡ direct) refl (nothing_stored empty) c.start c.stop r (cut_choice q c.start c.stop r c.is).0;
        told_direct = λ empty. told (λ o. o ≡ direct) refl (nothing_stored empty);
      }

-- ---- the text
pub text_room : (x : Matrix) (s : Settings) → 1 ≤ s.shortest.m → 1 ≤ x.n → TextRoom x s
text_room x s least rows layers draws row h = go (why_of (run_of x s) row) refl
  where
    fits : (z : StoredSegment) → z ∈ (run_of x s).segments → Fits z.origin
    fits z i = text_fits.source x.n s.source z layers draws (stored_origins.are (search_in x s.shortest s.forbidden) x.n s.source z i)

    go : (w : Why) → why_of (run_of x s) row ≡ w → length (text_of w) ≤ origin_room
    go (cut g o) is = text_fits.text o (told (run_of x s) least rows Fits tt fits row h g o is)
    go (too_near g) is = omega arith
    go (barred a b g) is = omega arith
    go (no_number g) is = omega arith
    go (not_above gain g) is = omega arith

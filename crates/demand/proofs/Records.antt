-- Where records come from: a search's record, and the stored segments'. Assumes nothing.
use mathlib.Core.Path.{◌≡◌, refl, sym, ap}
use mathlib.Core.Logic.{◌↔◌, ⊎_elim}
use mathlib.Core.Bool.{true, false}
use mathlib.Core.List.Memᴰ
use mathlib.Core.List.{List, [], ◌∷◌}
use mathlib.Core.Option.{Option, none, some}
use Prim.Native.Nat.{ℕ}
use lib.Ieee.{Float, nan, inf, fin, lt}
use Rattle.scope.specs.Lists.{◌∈◌}
use Rattle.scope.specs.Floats.{lowest}
use Rattle.scope.specs.Allowed.{Allowed}
use Rattle.scope.specs.Candidates.{candidates}
use Rattle.scope.specs.Greatest.{numeric, FirstGreatest}
use Rattle.scope.specs.Grid.{Record, best, blank, trial, trials, of_some, search}
use Rattle.scope.specs.Origin as origin
use Rattle.scope.specs.Layers.{StoredSegment, one, with_origin, labelled, stored}
use Rattle.scope.specs.Tree.{Run, direct, stored_records}
use Rattle.scope.proofs.Order.{both}
use Rattle.scope.proofs.Never.{never}
use Rattle.scope.proofs.Candidates.{candidates_are}
use Rattle.scope.proofs.Greatest.{search_first, first_one, first_greatest, first_numeric}

pub not_above_lowest : (t : Float) → lt t lowest ≡ false
unfolding lt
not_above_lowest nan = refl
not_above_lowest (inf true) = refl
not_above_lowest (inf false) = refl
not_above_lowest (fin s m e) = refl

-- ---- what a search of [start, stop) finds: a record with these ends, and a gain above anything is that of an allowed row
pub record Found (q : Run) (start stop : ℕ) (r : Record) : Type 0 where
  pub start_is : r.start ≡ start
  pub stop_is : r.stop ≡ stop
  pub row : (t : Float) → lt t r.gain ≡ true → Allowed q.shortest q.forbidden start stop r.split
  pub own : (t : Float) → lt t r.gain ≡ true → r.gain ≡ q.gain start stop r.split

module _ (q : Run) (start stop : ℕ) where
  abbrev pub rows : List ℕ
  rows = candidates q.shortest q.forbidden start stop

  abbrev pub tries : List Record
  tries = trials q.gain q.shortest q.forbidden start stop

  pub allowed : (x : ℕ) → x ∈ rows ↔ Allowed q.shortest q.forbidden start stop x
  allowed x = candidates_are q.shortest q.forbidden start stop x

  blank_found : Found q start stop (blank start stop)
  blank_found = record { start_is = refl; stop_is = refl; row = λ t h. both h (not_above_lowest t); own = λ t h. both h (not_above_lowest t) }

  trial_found : (r : Record) → r ∈ tries → Found q start stop r
  unfolding trials
  trial_found r i =
      let (x, j, e) = Memᴰ.of_map (trial q.gain start stop) rows i in
      rw (← e) (record { start_is = refl; stop_is = refl; row = λ t h. (allowed x).0 j; own = λ t h. refl })

  trial_in : (x : ℕ) → Allowed q.shortest q.forbidden start stop x → trial q.gain start stop x ∈ tries
  unfolding trials
  trial_in x w = Memᴰ.map (trial q.gain start stop) ((allowed x).1 w)

  -- the direct record is the first of the greatest trials, from the blank record on
  pub direct_first : (r : Record) → direct q start stop ≡ some r → FirstGreatest (blank start stop) tries r
  direct_first r h = search_first q.gain q.shortest q.forbidden start stop r h

  module _ (r : Record) (is : direct q start stop ≡ some r) where
    pub direct_found : Found q start stop r
    direct_found = ⊎_elim (λ (e : r ≡ blank start stop). rw e blank_found) (trial_found r) (Memᴰ.cases_cons (first_one (direct_first r is)))

    -- and it is direct
    pub direct_origin : r.origin ≡ origin.direct
    unfolding trials
    direct_origin =
        ⊎_elim (λ (e : r ≡ blank start stop). ap (λ (z : Record). z.origin) e)
        (λ i. let (x, j, e) = Memᴰ.of_map (trial q.gain start stop) rows i in sym (ap (λ (z : Record). z.origin) e))
        (Memᴰ.cases_cons (first_one (direct_first r is)))

    pub direct_numeric : numeric r.gain ≡ true
    direct_numeric = first_numeric (direct_first r is) refl

    -- no allowed row has a greater gain
    pub direct_above : (x : ℕ) → Allowed q.shortest q.forbidden start stop x → lt r.gain (q.gain start stop x) ≡ false
    direct_above x w = first_greatest (direct_first r is) (trial q.gain start stop x) (Memᴰ.tail (trial_in x w))

  -- where a row is allowed, the search finds something
  pub direct_some : (x : ℕ) → Allowed q.shortest q.forbidden start stop x → (r : Record) × (direct q start stop ≡ some r)
  unfolding search
  direct_some x w = go tries (trial_in x w)
    where
      go : (l : List Record) → trial q.gain start stop x ∈ l → (r : Record) × (of_some (blank start stop) l ≡ some r)
      go [] i = absurd (Memᴰ.not-nil i)
      go (y ∷ l) i = (best (blank start stop) (y ∷ l), refl)

  -- with another origin it is as found
  pub labelled_found : (o : origin.Origin) (r : Record) → labelled o (direct q start stop) ≡ some r → Found q start stop r
  labelled_found o r h = go (direct q start stop) refl h
    where
      go : (w : Option Record) → direct q start stop ≡ w → labelled o w ≡ some r → Found q start stop r
      go none e k = never (cc)
      go (some s) e k =
          let same : with_origin o s ≡ r = cc in
          let f = direct_found s e in
          let g : Found q start stop (with_origin o s) = record { start_is = f.start_is; stop_is = f.stop_is; row = f.row; own = f.own } in
          rw same at g

pub one_found : (o : Option Record) (r : Record) → r ∈ one o → o ≡ some r
one_found none r i = absurd (Memᴰ.not-nil i)
one_found (some x) r i = ap some (sym (Memᴰ.eq_of_singleton i))

-- ---- the records of the stored segments
-- r is the record of one of these segments
pub record OfStored (q : Run) (ss : List StoredSegment) (r : Record) : Type 0 where
  pub segment : StoredSegment
  pub one : segment ∈ ss
  pub found : labelled segment.origin (direct q segment.start segment.stop) ≡ some r

module _ (q : Run) where
  stored_are : (ss : List StoredSegment) (r : Record) → r ∈ stored (direct q) ss → OfStored q ss r
  unfolding stored
  stored_are [] r i = absurd (Memᴰ.not-nil i)
  stored_are (s ∷ ss) r i =
      ⊎_elim (λ j. record { segment = s; one = Memᴰ.head refl; found = one_found (labelled s.origin (direct q s.start s.stop)) r j })
      (λ j. let f = stored_are ss r j in record { segment = f.segment; one = Memᴰ.tail f.one; found = f.found })
      (Memᴰ.append_cases (one (labelled s.origin (direct q s.start s.stop))) i)

  stored_all : (ss : List StoredSegment) (s : StoredSegment) (r : Record) → s ∈ ss → direct q s.start s.stop ≡ some r → with_origin s.origin r ∈ stored (direct q) ss
  unfolding stored
  stored_all [] s r i h = absurd (Memᴰ.not-nil i)
  stored_all (z ∷ ss) s r i h =
      ⊎_elim (λ e. Memᴰ.append_left {s = one (labelled z.origin (direct q z.start z.stop))} _ (rw (← e, h) (Memᴰ.head refl)))
      (λ j. Memᴰ.append_right (one (labelled z.origin (direct q z.start z.stop))) (stored_all ss s r j h))
      (Memᴰ.cases_cons i)

  pub segments_are : (r : Record) → r ∈ stored_records q → OfStored q q.segments r
  unfolding stored_records
  segments_are r i = stored_are q.segments r i

  pub segments_all : (s : StoredSegment) (r : Record) → s ∈ q.segments → direct q s.start s.stop ≡ some r → with_origin s.origin r ∈ stored_records q
  unfolding stored_records
  segments_all s r i h = stored_all q.segments s r i h

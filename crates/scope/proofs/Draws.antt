-- Draws: what is stored of them, in a reader's words; how many segments a run stores. Assumes nothing.
use mathlib.Core.Path.{◌≡◌, refl, ap, ◌∙◌}
use mathlib.Core.Bool.{Bool, true, ◌&&◌}
use mathlib.Core.List.Memᴰ
use mathlib.Core.List.{List, [], ◌∷◌}
use mathlib.Core.Logic.{⊎_elim}
use mathlib.Core.Option.{Option, none, some}
use Prim.Native.Nat.{ℕ, suc, ◌+◌, ◌*◌, ◌≤◌, ◌<◌}
use native.Mathlib.Nat.{add-zero, zero-add}
use native.Mathlib.Omega.{arith}
use borrow.Author.Tests.{lt-ltb, ltb-true}
use lib.ListN.{length, get_or, length-take}
use lib.Seq.{take_all}
use Rattle.scope.specs.Lists.{◌∈◌, select}
use Rattle.scope.specs.Asked.{Source}
use Rattle.scope.specs.Allowed.{Pair, here, later}
use Rattle.scope.specs.Origin.{Origin, draw}
use Rattle.scope.specs.Grid.{Record}
use Rattle.scope.specs.Layers.{Segment, StoredSegment, of_origin, ends_of, stored}
use Rattle.scope.specs.Draws.{pairs_of, numbered, is_searched, is_found, drawn, stored_segments, most_stored, PairAt, StoredDraws}
use Rattle.scope.proofs.Lists.{take_in, select_are, select_all}
use Rattle.scope.proofs.Members.{first_of_lem, second_of}
use Rattle.scope.proofs.Stored.{stored_few, length_seeded}
use Rattle.scope.proofs.Never.{never}

-- ---- pairs of a flat list
pub pairs_are : (draws : List ℕ) (s : Segment) → s ∈ pairs_of draws → Pair s.start s.stop draws
unfolding pairs_of
pairs_are [] s i = absurd (Memᴰ.not-nil i)
pairs_are (a ∷ []) s i = absurd (Memᴰ.not-nil i)
pairs_are (a ∷ b ∷ ds) s i = ⊎_elim (λ (e : s ≡ record { start = a; stop = b }). rw e here) (λ j. later (pairs_are ds s j)) (Memᴰ.cases_cons i)

pub pairs_all : {a b : ℕ} {draws : List ℕ} → Pair a b draws → record { start = a; stop = b } ∈ pairs_of draws
unfolding pairs_of
pairs_all here = Memᴰ.head refl
pairs_all (later p) = Memᴰ.tail (pairs_all p)

-- ---- each with its place
pub numbered_are : (k : ℕ) (ss : List Segment) (s : StoredSegment) → s ∈ numbered k ss → ends_of s ∈ ss
unfolding numbered
numbered_are k [] s i = absurd (Memᴰ.not-nil i)
numbered_are k (z ∷ ss) s i =
    ⊎_elim (λ (e : s ≡ of_origin (draw k) z). Memᴰ.head (ap ends_of e)) (λ j. Memᴰ.tail (numbered_are (suc k) ss s j)) (Memᴰ.cases_cons i)

numbered_all : (k : ℕ) (ss : List Segment) (s : Segment) → s ∈ ss → (o : Origin) × (of_origin o s ∈ numbered k ss)
unfolding numbered
numbered_all k [] s i = absurd (Memᴰ.not-nil i)
numbered_all k (z ∷ ss) s i =
    ⊎_elim (λ (e : s ≡ z). (draw k, Memᴰ.head (ap (of_origin (draw k)) e)))
    (λ j. let (o, m) = numbered_all (suc k) ss s j in (o, Memᴰ.tail m))
    (Memᴰ.cases_cons i)

-- the pair number j from k on
record From (k : ℕ) (draws : List ℕ) (s : StoredSegment) : Type 0 where
  j : ℕ
  is : s.origin ≡ draw (k + j)
  within : 2 * j + 1 < length draws
  start_is : get_or draws (2 * j) 0 ≡ s.start
  stop_is : get_or draws (2 * j + 1) 0 ≡ s.stop

numbered_from : (k : ℕ) (draws : List ℕ) (s : StoredSegment) → s ∈ numbered k (pairs_of draws) → From k draws s
unfolding numbered pairs_of
numbered_from k [] s i = absurd (Memᴰ.not-nil i)
numbered_from k (a ∷ []) s i = absurd (Memᴰ.not-nil i)
numbered_from k (a ∷ b ∷ ds) s i =
    ⊎_elim
    (λ (e : s ≡ record { start = a; stop = b; origin = draw k }).
    record {
      j = 0;
      is = ap (λ (z : StoredSegment). z.origin) e ∙ rw add-zero;
      within = omega arith;
      start_is = rw e;
      stop_is = rw e;
    })
    (λ m.
    let f = numbered_from (suc k) ds s m in
    let next : 2 * suc f.j ≡ suc (suc (2 * f.j)) = omega arith in
    let after : 2 * suc f.j + 1 ≡ suc (suc (2 * f.j + 1)) = omega arith in
    let number : suc k + f.j ≡ k + suc f.j = omega arith in
    record {
      j = suc f.j;
      is = f.is ∙ ap draw number;
      within = omega (arith, f.within);
      start_is = rw next f.start_is;
      stop_is = rw after f.stop_is;
    })
    (Memᴰ.cases_cons i)

module _ (find : ℕ → ℕ → Option Record) where
  -- the draws that are stored as long as W are not
  abbrev is_stored : StoredSegment → Bool
  is_stored s = is_searched (ends_of s) && is_found (find s.start s.stop)

  -- ---- in a reader's words
  found : (o : Option Record) → is_found o ≡ true → (r : Record) × (o ≡ some r)
  found none h = never (cc)
  found (some r) h = (r, refl)

  each : (ss : List StoredSegment) → ((s : StoredSegment) → s ∈ ss → (r : Record) × (find s.start s.stop ≡ some r)) → length (stored find ss) ≡ length ss
  unfolding stored
  each [] h = refl
  each (s ∷ ss) h = rw (h s (Memᴰ.head refl)).1 (ap suc (each ss (λ t i. h t (Memᴰ.tail i))))

  module _ (draws : List ℕ) (W : ℕ) where
    abbrev all_pairs : List StoredSegment
    all_pairs = numbered 0 (pairs_of draws)

    abbrev kept : List StoredSegment
    kept = select is_stored all_pairs

    are : (s : StoredSegment) → s ∈ drawn find draws W → Pair s.start s.stop draws × (s.start < s.stop) × ((r : Record) × (find s.start s.stop ≡ some r))
    unfolding drawn
    are s i =
        let (j, t) = select_are is_stored all_pairs s (take_in W kept s i) in
        let o = find s.start s.stop in
        let b = is_searched (ends_of s) in
        (pairs_are draws (ends_of s) (numbered_are 0 (pairs_of draws) s j), ltb-true s.start s.stop (first_of_lem b (is_found o) t), found o (second_of b (is_found o) t))

    placed : (s : StoredSegment) → s ∈ drawn find draws W → PairAt draws s.origin (ends_of s)
    unfolding drawn
    placed s i =
        let f = numbered_from 0 draws s (select_are is_stored all_pairs s (take_in W kept s i)).0 in
        record { number = f.j; is = f.is ∙ rw zero-add; within = f.within; start_is = f.start_is; stop_is = f.stop_is }

    few : length (drawn find draws W) ≤ W
    unfolding drawn
    few = rw length-take (omega arith)

    all : length (drawn find draws W) < W → (a b : ℕ) (r : Record) → Pair a b draws → a < b → find a b ≡ some r → (o : Origin) × (record { start = a; stop = b; origin = o } ∈ drawn find draws W)
    unfolding drawn
    all h a b r p l e =
        let short : length kept ≤ W = omega (arith, length-take W kept) in
        let (o, i) = numbered_all 0 (pairs_of draws) (record { start = a; stop = b }) (pairs_all p) in
        (o, rw (take_all W kept short) (select_all is_stored all_pairs (record { start = a; stop = b; origin = o }) i (rw (lt-ltb a b l, e))))

    pub stored_draws : StoredDraws find draws W
    stored_draws = record { are = are; placed = placed; counted = each (drawn find draws W) (λ s i. (are s i).2); few = few; all = all }

  -- ---- T: "W"; without draws "the layers' counts summed"
  pub segments_few : (n : ℕ) (s : Source) → length (stored_segments find n s) ≤ most_stored s
  segments_few n s = go s.draws
    where
      go : (draws : List ℕ) → length (stored_segments find n (record { layers = s.layers; draws = draws; W = s.W })) ≤ most_stored (record { layers = s.layers; draws = draws; W = s.W })
      go [] = omega (arith, length_seeded 1 n s.layers)
      go (d ∷ ds) = few (d ∷ ds) s.W

  pub records_few : (n : ℕ) (s : Source) → length (stored find (stored_segments find n s)) ≤ most_stored s
  records_few n s = omega (arith, stored_few find (stored_segments find n s), segments_few n s)

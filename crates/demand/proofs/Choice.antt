-- A segment's choice: the first of the greatest, and where it comes from. Assumes nothing.
use mathlib.Core.Path.{◌≡◌, refl}
use mathlib.Core.Logic.{⊎_elim}
use mathlib.Core.Bool.{Bool, true, false}
use mathlib.Core.List.Memᴰ
use mathlib.Core.List.{List}
use mathlib.Core.Option.{Option, none, some}
use Prim.Native.Nat.{ℕ, ◌≤◌}
use native.Mathlib.Omega.{arith}
use lib.Ieee.{Float, lt}
use Rattle.scope.specs.Allowed.{Allowed}
use Rattle.scope.specs.Greatest.{numeric, FirstGreatest}
use Rattle.scope.specs.Grid.{Record, best}
use Rattle.scope.specs.Layers.{with_origin}
use Rattle.scope.specs.Tree.{Run, direct, stored_records, inside, chosen, choice}
use Rattle.scope.proofs.Order.{both, lt_co}
use Rattle.scope.proofs.Greatest.{best_is_first, first_one, first_greatest, first_numeric}
use Rattle.scope.proofs.Never.{never}
use Rattle.demand.specs.Reached.{CameFrom, itself, within}
use Rattle.demand.specs.Offered.{Offered, own, of_stored}
use Rattle.demand.proofs.Records.{direct_found, direct_origin, direct_numeric, direct_above, direct_some, labelled_found, segments_are, segments_all}
use Rattle.demand.proofs.Inside.{inside_are, inside_all}

-- not w < y, and not y < z, and so not w < z, if y is numeric
still_not : (w y z : Float) → numeric y ≡ true → lt w y ≡ false → lt y z ≡ false → lt w z ≡ false
still_not w y z n h k = go (lt w z) refl
  where
    go : (b : Bool) → lt w z ≡ b → b ≡ false
    go true t = both (lt_co w y z n t k) h
    go false t = refl

-- ---- over any stored records
module _ (q : Run) (rs : List Record) (start stop : ℕ) where
  pub choice_first : (d : Record) → direct q start stop ≡ some d → (c : Record) × (choice q rs start stop ≡ some c) × FirstGreatest d (inside start stop rs) c
  unfolding choice
  choice_first d h = (best d (inside start stop rs), rw h, best_is_first d (inside start stop rs))

  pub choice_none : direct q start stop ≡ none → choice q rs start stop ≡ none
  unfolding choice
  choice_none h = rw h

  pub choice_of : (c : Record) → choice q rs start stop ≡ some c → (d : Record) × (direct q start stop ≡ some d) × FirstGreatest d (inside start stop rs) c
  unfolding choice
  choice_of c h = go (direct q start stop) refl h
    where
      go : (o : Option Record) → direct q start stop ≡ o → chosen o (inside start stop rs) ≡ some c → (d : Record) × (direct q start stop ≡ some d) × FirstGreatest d (inside start stop rs) c
      go none e h = never (cc)
      go (some d) e h = let w : best d (inside start stop rs) ≡ c = cc in (d, e, rw w at (best_is_first d (inside start stop rs)))

-- ---- over the stored segments' records
module _ (q : Run) (start stop : ℕ) where
  -- an allowed row of a segment inside is an allowed row
  widened : (a b x : ℕ) → start ≤ a → b ≤ stop → Allowed q.shortest q.forbidden a b x → Allowed q.shortest q.forbidden start stop x
  widened a b x l u w = record { low = omega (arith, w.low); high = omega (arith, w.high); free = w.free }

  pub offered_row : (g : Float) → Offered q start stop g → (x : ℕ) × Allowed q.shortest q.forbidden start stop x
  offered_row g (own {x = x} w) = (x, w)
  offered_row g (of_stored {s = s} {x = x} i l u w) = (x, widened s.start s.stop x l u w)

  -- a source's gain that is above anything is offered
  pub source_offered : (c : Record) → CameFrom q start stop c → (t : Float) → lt t c.gain ≡ true → Offered q start stop c.gain
  source_offered c (itself o h) t k = let f = direct_found q start stop c h in rw (f.own t k) (own (f.row t k))
  source_offered c (within {s = s} i l u h) t k =
      let f = labelled_found q s.start s.stop s.origin c h in
      rw (f.own t k) (of_stored {s = s} i l u (f.row t k))

  module _ (c : Record) (is : choice q (stored_records q) start stop ≡ some c) where
    pub choice_source : CameFrom q start stop c
    choice_source =
        let (d, h, f) = choice_of q (stored_records q) start stop c is in
        ⊎_elim (λ (e : c ≡ d). itself (rw e (direct_origin q start stop d h)) (rw e h))
        (λ i.
        let (l, u, j) = inside_are start stop (stored_records q) c i in
        let z = segments_are q c j in
        let f = labelled_found q z.segment.start z.segment.stop z.segment.origin c z.found in
        within z.one (omega (arith, f.start_is)) (omega (arith, f.stop_is)) z.found)
        (Memᴰ.cases_cons (first_one f))

    pub choice_numeric : numeric c.gain ≡ true
    choice_numeric = let (d, h, f) = choice_of q (stored_records q) start stop c is in first_numeric f (direct_numeric q start stop d h)

    -- no offered gain is greater
    pub choice_above : (g : Float) → Offered q start stop g → lt c.gain g ≡ false
    choice_above g (own {x = x} w) =
        let (d, h, f) = choice_of q (stored_records q) start stop c is in
        still_not c.gain d.gain (q.gain start stop x) (direct_numeric q start stop d h) (first_greatest f d (Memᴰ.head refl)) (direct_above q start stop d h x w)
    choice_above g (of_stored {s = s} {x = x} i l u w) =
        let (d, h, f) = choice_of q (stored_records q) start stop c is in
        let (r, p) = direct_some q s.start s.stop x w in
        let k = direct_found q s.start s.stop r p in
        let j = inside_all start stop (stored_records q) (with_origin s.origin r) (omega (arith, k.start_is)) (omega (arith, k.stop_is)) (segments_all q s r i p) in
        still_not c.gain r.gain (q.gain s.start s.stop x) (direct_numeric q s.start s.stop r p) (first_greatest f (with_origin s.origin r) (Memᴰ.tail j)) (direct_above q s.start s.stop r p x w)

  -- where a gain is offered, there is a choice
  pub offered_choice : (g : Float) → Offered q start stop g → (c : Record) × (choice q (stored_records q) start stop ≡ some c)
  offered_choice g o =
      let (x, w) = offered_row g o in
      let (d, h) = direct_some q start stop x w in
      let (c, is, f) = choice_first q (stored_records q) start stop d h in
      (c, is)

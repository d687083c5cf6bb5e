-- A segment is cut exactly when the greatest of the numeric gains exceeds the threshold; and what holds of the record that cuts it. Assumes nothing.
use mathlib.Core.Path.{◌≡◌, refl, sym, ◌∙◌, ap}
use mathlib.Core.Logic.{◌↔◌}
use mathlib.Core.Bool.{Bool, true, false, cond, true≢false, false≢true}
use mathlib.Core.Option.{Option, none, some}
use Prim.Native.Nat.{ℕ, ◌+◌, ◌≤◌, ◌<◌}
use native.Mathlib.Omega.{arith}
use lib.Ieee.{Float, nan, inf, fin, lt}
use Rattle.scope.specs.Floats.{lowest}
use Rattle.scope.specs.Asked.{end_of}
use Rattle.scope.specs.Greatest.{numeric}
use Rattle.scope.specs.Grid.{Record}
use Rattle.scope.specs.Tree.{Run, stored_records, choice, uncut, cut, judged, verdict}
use Rattle.scope.proofs.Order.{both, lt_co}
use Rattle.scope.proofs.Never.{never}
use Rattle.scope.proofs.Candidates.{one_at_most}
use Rattle.demand.specs.Reached.{ruling, is_cut, CutBy, CameFrom, itself, within}
use Rattle.demand.specs.Offered.{Offered, Greatest}
use Rattle.demand.proofs.Records.{Found, direct_found, labelled_found}
use Rattle.demand.proofs.Choice.{choice_source, choice_numeric, choice_above, source_offered, offered_choice}

-- what is numeric and not above minus infinity is minus infinity
only_lowest : (g : Float) → numeric g ≡ true → lt lowest g ≡ false → g ≡ lowest
unfolding lt
only_lowest nan n h = absurd (false≢true n)
only_lowest (inf true) n h = refl
only_lowest (inf false) n h = absurd (true≢false h)
only_lowest (fin s m e) n h = absurd (true≢false h)

module _ (q : Run) (start stop : ℕ) where
  ruling_is : (o : Option Record) → choice q (stored_records q) start stop ≡ o → ruling q start stop ≡ judged q.threshold o
  unfolding ruling verdict
  ruling_is o h = ap (judged q.threshold) h

  ruling_by : (c : Record) (b : Bool) → choice q (stored_records q) start stop ≡ some c → lt q.threshold c.gain ≡ b → ruling q start stop ≡ cond b (cut c) (uncut (some c))
  ruling_by c b e t = ruling_is (some c) e ∙ rw t

  -- what is cut has a choice that exceeds the threshold, and is cut by it
  pub record Exceeding : Type 0 where
    pub by : Record
    pub choice_is : choice q (stored_records q) start stop ≡ some by
    pub exceeds : lt q.threshold by.gain ≡ true
    pub cut_is : ruling q start stop ≡ cut by

  pub cut_over : is_cut (ruling q start stop) ≡ true → Exceeding
  cut_over h = go (choice q (stored_records q) start stop) refl
    where
      test : (c : Record) (b : Bool) → choice q (stored_records q) start stop ≡ some c → lt q.threshold c.gain ≡ b → Exceeding
      test c true e t = record { by = c; choice_is = e; exceeds = t; cut_is = ruling_by c true e t }
      test c false e t = absurd (false≢true (sym (ap is_cut (ruling_by c false e t)) ∙ h))

      go : (o : Option Record) → choice q (stored_records q) start stop ≡ o → Exceeding
      go none e = absurd (false≢true (sym (ap is_cut (ruling_is none e)) ∙ h))
      go (some c) e = test c (lt q.threshold c.gain) e refl

  over_cut : (c : Record) → choice q (stored_records q) start stop ≡ some c → lt q.threshold c.gain ≡ true → is_cut (ruling q start stop) ≡ true
  over_cut c e t = ap is_cut (ruling_by c true e t)

  -- what is uncut has the choice that its leaf shows
  pub uncut_choice : (o : Option Record) → ruling q start stop ≡ uncut o → choice q (stored_records q) start stop ≡ o
  uncut_choice o h = go (choice q (stored_records q) start stop) refl
    where
      test : (c : Record) (b : Bool) → choice q (stored_records q) start stop ≡ some c → lt q.threshold c.gain ≡ b → some c ≡ o
      test c true e t = let w = ruling_by c true e t in never (cc)
      test c false e t = let w = ruling_by c false e t in (cc)

      go : (p : Option Record) → choice q (stored_records q) start stop ≡ p → p ≡ o
      go none e = let w = ruling_is none e in (cc)
      go (some c) e = test c (lt q.threshold c.gain) e refl

  -- ---- the greatest
  choice_greatest : (c : Record) → choice q (stored_records q) start stop ≡ some c → (t : Float) → lt t c.gain ≡ true → Greatest q start stop c.gain
  choice_greatest c e t h =
      record {
        one = source_offered q start stop c (choice_source q start stop c e) t h;
        number = choice_numeric q start stop c e;
        above = choice_above q start stop c e;
      }

  -- one offered gain above the threshold is enough
  pub offered_cut : (g : Float) → Offered q start stop g → lt q.threshold g ≡ true → is_cut (ruling q start stop) ≡ true
  offered_cut g o over =
      let (c, e) = offered_choice q start stop g o in
      over_cut c e (lt_co q.threshold c.gain g (choice_numeric q start stop c e) over (choice_above q start stop c e g o))

  pub cut_when : (is_cut (ruling q start stop) ≡ true) ↔ ((g : Float) × Greatest q start stop g × (lt q.threshold g ≡ true))
  cut_when = (
    λ h. let x = cut_over h in (x.by.gain, choice_greatest x.by x.choice_is q.threshold x.exceeds, x.exceeds),
    λ (g, top, over). offered_cut g top.one over,
  )

  pub greatest_some : (h : Float) → Offered q start stop h → numeric h ≡ true → (g : Float) × Greatest q start stop g
  greatest_some h o n = let (c, e) = offered_choice q start stop h o in go c e (lt lowest c.gain) refl
    where
      go : (c : Record) → choice q (stored_records q) start stop ≡ some c → (b : Bool) → lt lowest c.gain ≡ b → (g : Float) × Greatest q start stop g
      go c e true t = (c.gain, choice_greatest c e lowest t)
      go c e false t =
          let low = only_lowest c.gain (choice_numeric q start stop c e) t in
          let same : h ≡ lowest = only_lowest h n (rw low at (choice_above q start stop c e h o)) in
          (h, record { one = o; number = n; above = λ k p. rw same (rw low at (choice_above q start stop c e k p)) })

  pub never_cut : ((h : Float) → Offered q start stop h → numeric h ≡ false) → is_cut (ruling q start stop) ≡ false
  never_cut f = go (is_cut (ruling q start stop)) refl
    where
      go : (b : Bool) → is_cut (ruling q start stop) ≡ b → b ≡ false
      go true h = let (g, top, over) = cut_when.0 h in both top.number (f g top.one)
      go false h = refl

  -- ---- the record that cuts
  found_cuts : (a b : ℕ) (r : Record) → Found q a b r → start ≤ r.start → r.stop ≤ stop → lt q.threshold r.gain ≡ true → CutBy q start stop r
  found_cuts a b r f l u t =
      record { left = l; right = u; row = rw (f.start_is, f.stop_is) (f.row q.threshold t); own = rw (f.start_is, f.stop_is) (f.own q.threshold t); exceeds = t }

  source_cuts : (r : Record) → CameFrom q start stop r → lt q.threshold r.gain ≡ true → CutBy q start stop r
  source_cuts r (itself o h) t = let f = direct_found q start stop r h in found_cuts start stop r f (omega (arith, f.start_is)) (omega (arith, f.stop_is)) t
  source_cuts r (within {s = s} i l u h) t =
      let f = labelled_found q s.start s.stop s.origin r h in found_cuts s.start s.stop r f (omega (arith, f.start_is)) (omega (arith, f.stop_is)) t

  pub cut_choice : (r : Record) → ruling q start stop ≡ cut r → (choice q (stored_records q) start stop ≡ some r) × (lt q.threshold r.gain ≡ true)
  cut_choice r h =
      let x = cut_over (ap is_cut h) in
      let cuts : cut x.by ≡ cut r = sym x.cut_is ∙ h in
      let w : x.by ≡ r = cc in
      (rw w at x.choice_is, rw w at x.exceeds)

  pub cut_by : (r : Record) → ruling q start stop ≡ cut r → CutBy q start stop r
  cut_by r h = let (e, t) = cut_choice r h in source_cuts r (choice_source q start stop r e) t

  -- a cut lies m or more inside, on the right more than m unless the end is closed
  pub record Far (x : ℕ) : Type 0 where
    pub left : start + q.shortest.m ≤ x
    pub below : x + q.shortest.m < end_of q.shortest stop
    pub right : x + q.shortest.m ≤ stop

  pub cut_far : (r : Record) → ruling q start stop ≡ cut r → Far r.split
  cut_far r h = let c = cut_by r h in record { left = omega arith; below = omega arith; right = omega (arith, one_at_most q.shortest) }

-- What is told of a row is so, nothing else is, and it is told to be a cut exactly if it is on the sheet. Assumes nothing.
use mathlib.Core.Path.{◌≡◌, refl, sym, ap}
use mathlib.Core.Logic.{inl, inr}
use mathlib.Core.Bool.{Bool, true, false, cond, not, ◌&&◌, ◌||◌, false≢true}
use mathlib.Core.List.{List, [], ◌∷◌}
use Prim.Native.Nat.{ℕ, ◌+◌, ◌≤◌, ◌<◌}
use native.Mathlib.Omega.{arith}
use borrow.Author.Tests.{ltb-true, ltb-false, lt-ltb, leb-true, leb-false, le-leb, not-false}
use lib.Dec.{ltb, leb}
use lib.Ieee.{Float, lt, is_nan}
use Rattle.scope.specs.Asked.{Shortest, end_of}
use Rattle.scope.specs.Allowed.{Allowed}
use Rattle.scope.specs.Allowed as allowed
use Rattle.scope.specs.Origin.{Origin}
use Rattle.scope.specs.Layers.{Segment}
use Rattle.scope.specs.Tree.{Run, Tree, tree_of}
use Rattle.scope.specs.ClosedEnd.{Free}
use Rattle.scope.specs.Why.{Place, at_cut, uncut_in, place_of, is_near, Barring, by, free, first_barring, Why, too_near, barred, no_number, not_above, first_reason, reason_in, by_place, why_of}
use Rattle.scope.specs.Candidates.{is_barred}
use Rattle.scope.proofs.Never.{never}
use Rattle.scope.proofs.Order.{both}
use Rattle.scope.proofs.Candidates.{or_false, free_of}
use Rattle.demand.specs.Reached.{ruling, is_cut, CutAt}
use Rattle.demand.specs.Offered.{own}
use Rattle.demand.specs.Grows.{Grows}
use Rattle.demand.specs.Because.{HeldBy, Near, FirstBarring, here, later, Because, Justified}
use Rattle.demand.proofs.Cut.{offered_cut, cut_far}
use Rattle.demand.proofs.Sheet.{on_sheet}
use Rattle.demand.proofs.Made.{grown_grows}
use Rattle.demand.proofs.Place.{cut_of_lem, of_cut, cut_place, held_place, place_cut, place_held}

-- ---- too near an end
module _ (s : Shortest) (g : Segment) (x : ℕ) where
  pub near_so : is_near s g x ≡ true → Near s g x
  unfolding is_near
  near_so h = go (ltb x (g.start + s.m)) (ltb (x + s.m) (end_of s g.stop)) refl refl h
    where
      go : (a b : Bool) → ltb x (g.start + s.m) ≡ a → ltb (x + s.m) (end_of s g.stop) ≡ b → a || not b ≡ true → Near s g x
      go true b i j h = inl (ltb-true x (g.start + s.m) i)
      go false true i j h = absurd (false≢true h)
      go false false i j h = inr (λ k. omega (arith, ltb-false (x + s.m) (end_of s g.stop) j))

  pub near_not : is_near s g x ≡ false → Near s g x → ⊥
  unfolding is_near
  near_not h n = go (ltb x (g.start + s.m)) (ltb (x + s.m) (end_of s g.stop)) refl refl h n
    where
      go : (a b : Bool) → ltb x (g.start + s.m) ≡ a → ltb (x + s.m) (end_of s g.stop) ≡ b → a || not b ≡ false → Near s g x → ⊥
      go true b i j h n = both refl h
      go false true i j h (inl l) = omega (arith, ltb-false x (g.start + s.m) i)
      go false true i j h (inr f) = f (ltb-true (x + s.m) (end_of s g.stop) j)
      go false false i j h n = both refl h

  so_near : Near s g x → is_near s g x ≡ true
  so_near n = go (is_near s g x) refl
    where
      go : (b : Bool) → is_near s g x ≡ b → b ≡ true
      go true e = refl
      go false e = absurd (near_not e n)

  not_near : (Near s g x → ⊥) → is_near s g x ≡ false
  not_near f = go (is_near s g x) refl
    where
      go : (b : Bool) → is_near s g x ≡ b → b ≡ false
      go true e = absurd (f (near_so e))
      go false e = refl

-- ---- the first pair that bars
first_so : (x a b : ℕ) (ps : List ℕ) → first_barring ps x ≡ by a b → FirstBarring x a b ps
unfolding first_barring
first_so x a b [] h = never (cc)
first_so x a b (c ∷ []) h = never (cc)
first_so x a b (c ∷ d ∷ ps) h = go (ltb c x) (leb x d) refl refl h (first_so x a b ps)
  where
    go : (s t : Bool) → ltb c x ≡ s → leb x d ≡ t → cond (s && t) (by c d) (first_barring ps x) ≡ by a b → (first_barring ps x ≡ by a b → FirstBarring x a b ps) → FirstBarring x a b (c ∷ d ∷ ps)
    go true true i j h rest = let e : c ≡ a = cc in let f : d ≡ b = cc in rw (e, f) (here (rw e at (ltb-true c x i)) (rw f at (leb-true x d j)))
    go true false i j h rest = later (λ (l : c < x) (u : x ≤ d). omega (arith, leb-false x d j)) (rest h)
    go false t i j h rest = later (λ (l : c < x) (u : x ≤ d). omega (arith, ltb-false c x i)) (rest h)

so_first : (x a b : ℕ) (ps : List ℕ) → FirstBarring x a b ps → first_barring ps x ≡ by a b
unfolding first_barring
so_first x a b ps (here {ps = qs} l u) = rw (lt-ltb a x l, le-leb x b u)
so_first x a b ps (later {c = c} {d = d} {ps = qs} f p) = go (ltb c x) (leb x d) refl refl (so_first x a b qs p)
  where
    go : (s t : Bool) → ltb c x ≡ s → leb x d ≡ t → first_barring qs x ≡ by a b → cond (s && t) (by c d) (first_barring qs x) ≡ by a b
    go true true i j r = absurd (f (ltb-true c x i) (leb-true x d j))
    go true false i j r = r
    go false t i j r = r

unbarred : (x : ℕ) (ps : List ℕ) → first_barring ps x ≡ free → is_barred ps x ≡ false
unfolding first_barring is_barred
unbarred x [] h = refl
unbarred x (a ∷ []) h = refl
unbarred x (a ∷ b ∷ ps) h = go (ltb a x && leb x b) h (unbarred x ps)
  where
    go : (t : Bool) → cond t (by a b) (first_barring ps x) ≡ free → (first_barring ps x ≡ free → is_barred ps x ≡ false) → t || is_barred ps x ≡ false
    go true h rest = never (cc)
    go false h rest = rest h

barred_by : (x a b : ℕ) (ps : List ℕ) → FirstBarring x a b ps → Free ps x → ⊥
barred_by x a b ps (here l u) f = f a b allowed.here l u
barred_by x a b ps (later {ps = qs} g p) f = barred_by x a b qs p (λ c d i. f c d (allowed.later i))

so_free : (x : ℕ) (ps : List ℕ) → Free ps x → first_barring ps x ≡ free
so_free x ps f = go (first_barring ps x) refl
  where
    go : (b : Barring) → first_barring ps x ≡ b → b ≡ free
    go (by a b) e = absurd (barred_by x a b ps (first_so x a b ps e) f)
    go free e = refl

-- ---- within the uncut segment that holds the row
module _ (q : Run) (x : ℕ) (g : Segment) where
  abbrev own_gain : Float
  own_gain = q.gain g.start g.stop x

  -- a row that is neither too near nor barred is allowed
  allowed_row : (Near q.shortest g x → ⊥) → Free q.forbidden x → Allowed q.shortest q.forbidden g.start g.stop x
  unfolding is_near
  allowed_row n f =
      let low = g.start + q.shortest.m in
      let high = end_of q.shortest g.stop in
      let (a, b) = or_false (ltb x low) (not (ltb (x + q.shortest.m) high)) (not_near q.shortest g x n) in
      record { low = ltb-false x low a; high = ltb-true (x + q.shortest.m) high (not-false _ b); free = f }

  -- "not above" is true: in an uncut segment no gain of an allowed row exceeds the threshold
  not_over : is_cut (ruling q g.start g.stop) ≡ false → Allowed q.shortest q.forbidden g.start g.stop x → lt q.threshold own_gain ≡ false
  not_over u w = go (lt q.threshold own_gain) refl
    where
      go : (b : Bool) → lt q.threshold own_gain ≡ b → b ≡ false
      go true e = both (offered_cut q g.start g.stop own_gain (own w) e) u
      go false e = refl

  module _ (held : HeldBy q x g) where
    gain_so : (Near q.shortest g x → ⊥) → Free q.forbidden x → (b : Bool) → is_nan own_gain ≡ b → Because q x (cond b (no_number g) (not_above own_gain g))
    gain_so n f true e = (held, n, f, e)
    gain_so n f false e = (held, n, f, refl, e, not_over held.uncut (allowed_row n f))

    barring_so : (Near q.shortest g x → ⊥) → (b : Barring) → first_barring q.forbidden x ≡ b → Because q x (first_reason false b own_gain g)
    barring_so n (by a b) e = (held, n, first_so x a b q.forbidden e)
    barring_so n free e = gain_so n (free_of q.forbidden x (unbarred x q.forbidden e)) (is_nan own_gain) refl

    reason_so : Because q x (reason_in q x g)
    reason_so = go (is_near q.shortest g x) refl
      where
        go : (b : Bool) → is_near q.shortest g x ≡ b → Because q x (first_reason b (first_barring q.forbidden x) own_gain g)
        go true e = (held, near_so q.shortest g x e)
        go false e = barring_so (near_not q.shortest g x e) (first_barring q.forbidden x) refl

-- ---- THE LAW
module _ (q : Run) (least : 1 ≤ q.shortest.m) (rows : 1 ≤ q.n) where
  abbrev T : Tree
  T = tree_of q

  whole : Grows q 0 q.n T
  whole = grown_grows q least rows

  so : (x : ℕ) → x < q.n → Because q x (why_of q x)
  unfolding why_of
  so x h = go (place_of x T) refl
    where
      go : (p : Place) → place_of x T ≡ p → Because q x (by_place q x p)
      go (at_cut g o) e = place_cut q least x T whole h g o e
      go (uncut_in g) e = reason_so q x g (place_held q least x T whole h g e)

  held_why : (x : ℕ) (g : Segment) → HeldBy q x g → why_of q x ≡ reason_in q x g
  unfolding why_of
  held_why x g h = ap (by_place q x) (held_place q least x T whole g h)

  only : (x : ℕ) (w : Why) → Because q x w → w ≡ why_of q x
  unfolding why_of
  only x (Why.cut g o) c = sym (ap (by_place q x) (cut_place q least x T whole g o c))
  only x (too_near g) (h, n) = rw (held_why x g h, so_near q.shortest g x n)
  only x (barred a b g) (h, n, p) = rw (held_why x g h, not_near q.shortest g x n, so_first x a b q.forbidden p)
  only x (no_number g) (h, n, f, e) = rw (held_why x g h, not_near q.shortest g x n, so_free x q.forbidden f, e)
  only x (not_above gain g) (h, n, f, v, e, t) = rw (held_why x g h, not_near q.shortest g x n, so_free x q.forbidden f, ← v, e)

  is_cut_lem : (x : ℕ) → CutAt q x → (g : Segment) × (o : Origin) × (why_of q x ≡ Why.cut g o)
  is_cut_lem x c = let (g, o, k) = cut_of_lem q least x c in (g, o, sym (only x (Why.cut g o) k))

  first_near : (w : Why) → Because q 0 w → (g : Segment) × (w ≡ too_near g)
  first_near (Why.cut g o) c = absurd (omega (arith, (cut_far q g.start g.stop c.by c.is).left, c.at))
  first_near (too_near g) b = (g, refl)
  first_near (barred a b g) (h, n, p) = absurd (n (inl (omega arith)))
  first_near (no_number g) (h, n, f, e) = absurd (n (inl (omega arith)))
  first_near (not_above gain g) (h, n, f, v, e, t) = absurd (n (inl (omega arith)))

  pub justified : Justified q
  justified =
      record {
        so = so;
        only = only;
        cut_exactly = λ x h. (
          λ (g, o, e). (on_sheet q T whole x).1 (of_cut q least x g o (rw e at (so x h))),
          λ i. is_cut_lem x ((on_sheet q T whole x).0 i),
        );
        row_0 = first_near (why_of q 0) (so 0 rows);
      }

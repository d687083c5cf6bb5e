-- The fold `best` gives the first of the greatest: one of the records, than which none has a greater gain, numeric where the first is. Assumes nothing.
use mathlib.Core.Path.{◌≡◌, refl, ap}
use mathlib.Core.Logic.{⊎_elim}
use mathlib.Core.Bool.{Bool, true, false, cond}
use mathlib.Core.List.Memᴰ
use mathlib.Core.List.{List, [], ◌∷◌, ◌++◌}
use mathlib.Core.Option.{some}
use Prim.Native.Nat.{ℕ}
use lib.Ieee.{Float, lt}
use Rattle.scope.specs.Lists.{◌∈◌}
use Rattle.scope.specs.Asked.{Shortest}
use Rattle.scope.specs.Grid.{Record, better, best, blank, trials, of_some, search}
use Rattle.scope.specs.Greatest.{numeric, FirstGreatest, kept, taken}
use Rattle.scope.proofs.Never.{never}
use Rattle.scope.proofs.Order.{both, lt_co, lt_trans, lt_asym, lt_numeric, lt_irrefl}

-- b < w, and r is numeric and not above b: r < w
lower : (b r w : Float) → lt b w ≡ true → lt b r ≡ false → numeric r ≡ true → lt r w ≡ true
lower b r w h k n = go (lt r w) refl
  where
    go : (c : Bool) → lt r w ≡ c → c ≡ true
    go true e = refl
    go false e = both (lt_co b r w n h e) k

module _ (b r : Record) (rs : List Record) (w : Record) where
  -- r is greater than b, and w is what becomes of r
  after_greater : lt b.gain r.gain ≡ true → FirstGreatest r rs w → FirstGreatest b (r ∷ rs) w
  after_greater h (kept e n) = taken [] rs (rw e) (rw e h) (λ x i. absurd (Memᴰ.not-nil i)) (λ x i. rw e (n x i))
  after_greater h (taken earlier later e g s n) =
      taken (r ∷ earlier) later (ap (λ (l : List Record). r ∷ l) e) (lt_trans b.gain r.gain w.gain h g)
      (λ x i t. ⊎_elim (λ q. rw q g) (λ j. s x j t) (Memᴰ.cases_cons i)) n

  -- r is not, and w is what becomes of b
  after_other : lt b.gain r.gain ≡ false → FirstGreatest b rs w → FirstGreatest b (r ∷ rs) w
  after_other h (kept e n) = kept e (λ x i. ⊎_elim (λ q. rw q h) (n x) (Memᴰ.cases_cons i))
  after_other h (taken earlier later e g s n) =
      taken (r ∷ earlier) later (ap (λ (l : List Record). r ∷ l) e) g
      (λ x i t. ⊎_elim (λ (q : x ≡ r). lower b.gain x.gain w.gain g (rw q h) t) (λ j. s x j t) (Memᴰ.cases_cons i)) n

pub best_is_first : (b : Record) (rs : List Record) → FirstGreatest b rs (best b rs)
unfolding best better
best_is_first b [] = kept refl (λ r i. absurd (Memᴰ.not-nil i))
best_is_first b (r ∷ rs) = go (lt b.gain r.gain) refl (best_is_first (better b r) rs)
  where
    go : (c : Bool) → lt b.gain r.gain ≡ c → FirstGreatest (cond c r b) rs (best (cond c r b) rs) → FirstGreatest b (r ∷ rs) (best (cond c r b) rs)
    go true h f = after_greater b r rs (best r rs) h f
    go false h f = after_other b r rs (best b rs) h f

-- a search's record is the first of the greatest trials, from the blank record on
pub search_first : (gain : ℕ → ℕ → ℕ → Float) (s : Shortest) (forbidden : List ℕ) (start stop : ℕ) (r : Record)
    → search gain s forbidden start stop ≡ some r → FirstGreatest (blank start stop) (trials gain s forbidden start stop) r
unfolding search
search_first gain s forbidden start stop r h = let tries = trials gain s forbidden start stop in go tries h (best_is_first (blank start stop) tries)
  where
    go : (l : List Record) → of_some (blank start stop) l ≡ some r → FirstGreatest (blank start stop) l (best (blank start stop) l) → FirstGreatest (blank start stop) l r
    go [] h f = never (cc)
    go (x ∷ l) h f = let w : best (blank start stop) (x ∷ l) ≡ r = cc in rw w at f

-- ---- what the first of the greatest is

-- nothing is above a NaN
pub not_above_lem : (w g : Float) → numeric g ≡ false → lt w g ≡ false
not_above_lem w g n = go (lt w g) refl
  where
    go : (b : Bool) → lt w g ≡ b → b ≡ false
    go true h = both (lt_numeric w g h) n
    go false h = refl

smaller_not : (w g : Float) → (numeric g ≡ true → lt g w ≡ true) → lt w g ≡ false
smaller_not w g h = go (numeric g) refl
  where
    go : (b : Bool) → numeric g ≡ b → lt w g ≡ false
    go true n = lt_asym g w (h n)
    go false n = not_above_lem w g n

among : (w : Record) (earlier later : List Record)
    → ((r : Record) → r ∈ earlier → numeric r.gain ≡ true → lt r.gain w.gain ≡ true)
    → ((r : Record) → r ∈ later → lt w.gain r.gain ≡ false)
    → (r : Record) → r ∈ earlier ++ (w ∷ later) → lt w.gain r.gain ≡ false
among w earlier later s n r i =
    ⊎_elim (λ j. smaller_not w.gain r.gain (s r j)) (λ j. ⊎_elim (λ e. rw e (lt_irrefl w.gain)) (n r) (Memᴰ.cases_cons j)) (Memᴰ.append_cases earlier i)

module _ {b : Record} {rs : List Record} {w : Record} where
  pub first_one : FirstGreatest b rs w → w ∈ b ∷ rs
  first_one (kept e n) = Memᴰ.head e
  first_one (taken earlier later e g s n) = Memᴰ.tail {xs = rs} (rw e (Memᴰ.append_right earlier (Memᴰ.head refl)))

  pub first_numeric : FirstGreatest b rs w → numeric b.gain ≡ true → numeric w.gain ≡ true
  first_numeric (kept e n) h = rw e h
  first_numeric (taken earlier later e g s n) h = lt_numeric b.gain w.gain g

  pub first_greatest : FirstGreatest b rs w → (r : Record) → r ∈ b ∷ rs → lt w.gain r.gain ≡ false
  first_greatest (kept e n) r i = ⊎_elim (λ (h : r ≡ b). rw e (rw h (lt_irrefl b.gain))) (λ j. rw e (n r j)) (Memᴰ.cases_cons i)
  first_greatest (taken earlier later e g s n) r i =
      ⊎_elim (λ h. rw h (lt_asym b.gain w.gain g)) (λ j. among w earlier later s n r (rw e at j)) (Memᴰ.cases_cons i)

-- Laws for callers of a search: what a found record is, and when there is none. Assumes nothing.
use mathlib.Core.Path.{◌≡◌, refl, sym, ◌∙◌, ap}
use mathlib.Core.Logic.{◌↔◌}
use mathlib.Core.Bool.{Bool, true, false, cond}
use mathlib.Core.List.Memᴰ
use mathlib.Core.List.{List, [], ◌∷◌, map}
use mathlib.Core.Option.{Option, none, some}
use Prim.Native.Nat.{ℕ, ◌-◌, ◌*◌}
use lib.Dec.{leb}
use lib.Ieee.{Float, lt}
use Rattle.scope.specs.Floats.{lowest}
use Rattle.scope.specs.Lists.{◌∈◌, is_empty}
use Rattle.scope.specs.Allowed.{Allowed}
use Rattle.scope.specs.Refusals.{Answer, refused, given, unless}
use Rattle.scope.specs.Asked.{Shortest, end_of}
use Rattle.scope.specs.Candidates.{candidates}
use Rattle.scope.specs.Greatest.{numeric, FirstGreatest, kept, taken}
use Rattle.scope.specs.Grid.{Record, blank, better, best, trial, trials, of_some, search}
use Rattle.scope.proofs.Candidates.{candidates_are, refusal_9_10}
use Rattle.scope.proofs.Greatest.{best_is_first, not_above_lem}
use Rattle.scope.proofs.Order.{both, lt_irrefl}
use Rattle.scope.proofs.Never.{never}
use Rattle.optimizer.specs.Records.{searched}

-- every record of a search is of the segment [a, e)
pub best_ends : (gain : ℕ → ℕ → ℕ → Float) (a e : ℕ) (b : Record) (xs : List ℕ) → b.start ≡ a → b.stop ≡ e
    → ((best b (map (trial gain a e) xs)).start ≡ a) × ((best b (map (trial gain a e) xs)).stop ≡ e)
unfolding best better
best_ends gain a e b [] h k = (h, k)
best_ends gain a e b (x ∷ xs) h k = go (lt b.gain (gain a e x)) (best_ends gain a e b xs h k) (best_ends gain a e (trial gain a e x) xs refl refl)
  where
    go : (w : Bool) → ((best b (map (trial gain a e) xs)).start ≡ a) × ((best b (map (trial gain a e) xs)).stop ≡ e)
        → ((best (trial gain a e x) (map (trial gain a e) xs)).start ≡ a) × ((best (trial gain a e x) (map (trial gain a e) xs)).stop ≡ e)
        → ((best (cond w (trial gain a e x) b) (map (trial gain a e) xs)).start ≡ a) × ((best (cond w (trial gain a e x) b) (map (trial gain a e) xs)).stop ≡ e)
    go true i j = j
    go false i j = i

module _ (gain : ℕ → ℕ → ℕ → Float) (short : Shortest) (ps : List ℕ) (start stop : ℕ) where
  abbrev answer : Answer Record
  answer = searched gain short ps start stop

  abbrev tries : List Record
  tries = trials gain short ps start stop

  -- the answer for a list of candidates
  abbrev answered : List ℕ → Answer Record
  answered l = unless (cond (is_empty l) (cond (leb (end_of short stop - start) (2 * short.m)) 9 10) 0) (best (blank start stop) (map (trial gain start stop) l))

  abbrev recorded : List ℕ → Option Record
  recorded l = of_some (blank start stop) (map (trial gain start stop) l)

  answer_is : answer ≡ answered (candidates short ps start stop)
  unfolding searched trials
  answer_is = rw refusal_9_10

  search_is : search gain short ps start stop ≡ recorded (candidates short ps start stop)
  unfolding search trials
  search_is = refl

  two : (b : Bool) (r : Record) → (k : ℕ) × (unless (cond b 9 10) r ≡ refused k)
  two true r = (9, refl)
  two false r = (10, refl)

  -- a record is found: it is the search's
  pub found_search : (r : Record) → answer ≡ given r → search gain short ps start stop ≡ some r
  found_search r h = search_is ∙ go (candidates short ps start stop) (sym answer_is ∙ h)
    where
      go : (l : List ℕ) → answered l ≡ given r → recorded l ≡ some r
      go [] e = let (k, w) = two (leb (end_of short stop - start) (2 * short.m)) (best (blank start stop) []) in never (cc)
      go (x ∷ l) e = cc

  -- it is a record of the segment
  pub found_ends : (r : Record) → answer ≡ given r → (r.start ≡ start) × (r.stop ≡ stop)
  found_ends r h = go (candidates short ps start stop) (sym answer_is ∙ h)
    where
      go : (l : List ℕ) → answered l ≡ given r → (r.start ≡ start) × (r.stop ≡ stop)
      go [] e = let (k, w) = two (leb (end_of short stop - start) (2 * short.m)) (best (blank start stop) []) in never (cc)
      go (x ∷ l) e =
          let is : best (blank start stop) (map (trial gain start stop) (x ∷ l)) ≡ r = cc in
          rw is at (best_ends gain start stop (blank start stop) (x ∷ l) refl refl)

  -- a number: the search has none
  pub refused_search : (k : ℕ) → answer ≡ refused k → search gain short ps start stop ≡ none
  refused_search k h = search_is ∙ go (candidates short ps start stop) (sym answer_is ∙ h)
    where
      go : (l : List ℕ) → answered l ≡ refused k → recorded l ≡ none
      go [] e = refl
      go (x ∷ l) e = never (cc)

  -- ---- "a refusal 9 or 10 exactly if no row is allowed"
  pub refused_exactly : ((k : ℕ) × (answer ≡ refused k)) ↔ ((x : ℕ) → Allowed short ps start stop x → ⊥)
  refused_exactly = (
    λ w x a. there (candidates short ps start stop) w.0 (sym answer_is ∙ w.1) x ((candidates_are short ps start stop x).1 a),
    λ f. let (k, e) = back (candidates short ps start stop) (λ x i. f x ((candidates_are short ps start stop x).0 i)) in (k, answer_is ∙ e),
  )
    where
      there : (l : List ℕ) (k : ℕ) → answered l ≡ refused k → (x : ℕ) → x ∈ l → ⊥
      there [] k e x i = Memᴰ.not-nil i
      there (y ∷ l) k e x i = never (cc)

      back : (l : List ℕ) → ((x : ℕ) → x ∈ l → ⊥) → (k : ℕ) × (answered l ≡ refused k)
      back [] f = two (leb (end_of short stop - start) (2 * short.m)) (best (blank start stop) [])
      back (x ∷ l) f = absurd (f x (Memᴰ.head refl))

  -- ---- "its gain is the first of the greatest numeric gains"
  module _ (s : Record) (is : answer ≡ given s) where
    pub found_first : FirstGreatest (blank start stop) tries s
    unfolding search
    found_first = go tries (found_search s is) (best_is_first (blank start stop) tries)
      where
        go : (l : List Record) → of_some (blank start stop) l ≡ some s → FirstGreatest (blank start stop) l (best (blank start stop) l) → FirstGreatest (blank start stop) l s
        go [] h f = never (cc)
        go (x ∷ l) h f = let w : best (blank start stop) (x ∷ l) ≡ s = cc in rw w at f

    -- "a found split is an allowed row": wherever its gain is above minus infinity
    pub found_allowed : lt lowest s.gain ≡ true → Allowed short ps start stop s.split × (s.gain ≡ gain start stop s.split)
    unfolding trials
    found_allowed h = go found_first
      where
        go : FirstGreatest (blank start stop) tries s → Allowed short ps start stop s.split × (s.gain ≡ gain start stop s.split)
        go (kept e n) = both h (rw (ap (λ (r : Record). r.gain) e) (lt_irrefl lowest))
        go (taken earlier later e g b n) =
            let i : s ∈ tries = rw e (mathlib.Core.List.Memᴰ.append_right earlier (Memᴰ.head refl)) in
            let (x, j, w) = Memᴰ.of_map (trial gain start stop) (candidates short ps start stop) i in
            let same : x ≡ s.split = ap (λ (r : Record). r.split) w in
            let own : gain start stop x ≡ s.gain = ap (λ (r : Record). r.gain) w in
            (rw same at ((candidates_are short ps start stop x).0 j), sym own ∙ rw same)

    -- "all NaN leaves split 0 and minus infinity"
    pub found_nan : ((x : ℕ) → Allowed short ps start stop x → numeric (gain start stop x) ≡ false) → (s.split ≡ 0) × (s.gain ≡ lowest)
    found_nan nans = go (lt lowest s.gain) refl found_first
      where
        go : (b : Bool) → lt lowest s.gain ≡ b → FirstGreatest (blank start stop) tries s → (s.split ≡ 0) × (s.gain ≡ lowest)
        go true h f = let (a, own) = found_allowed h in both h (rw own (not_above_lem lowest (gain start stop s.split) (nans s.split a)))
        go false h (kept e n) = (ap (λ (r : Record). r.split) e, ap (λ (r : Record). r.gain) e)
        go false h (taken earlier later e g b n) = both g h

-- Dropping the origin, definition by definition: what each makes without its origins is what the definition of before makes. Assumes nothing.
use mathlib.Core.Path.{◌≡◌, refl, sym, ap, ap₂, ◌∙◌}
use mathlib.Core.Bool.{Bool, true, false, cond, ◌&&◌}
use mathlib.Core.List.{List, [], ◌∷◌, ◌++◌, map, map-append, map-map, map-id}
use mathlib.Core.Option.{Option, none, some}
use Prim.Native.Nat.{ℕ, zero, suc, ◌+◌}
use lib.Dec.{ltb, leb, eqb}
use lib.Ieee.{Float, lt, is_nan}
use lib.ListN.{take}
use Rattle.scope.specs.Lists.{keep, select}
use Rattle.scope.specs.Asked.{Shortest, Source}
use Rattle.scope.specs.Candidates.{candidates}
use Rattle.scope.specs.Origin.{Origin, layer}
use Rattle.scope.specs.Grid.{Record, better, best, blank, trial, trials, of_some, search}
use Rattle.scope.specs.Layers.{Segment, StoredSegment, of_origin, ends_of, layer_count, layer_segments, seeded_from, one, labelled, stored}
use Rattle.scope.specs.Draws.{pairs_of, numbered, is_searched, is_found, drawn, by_draws, stored_segments}
use Rattle.scope.specs.Tree.{Run, direct, stored_records, inside, chosen, choice, Verdict, uncut, cut, judged, verdict, Tree, leaf, node, Grown, parted, grow, grown, tree_of, records_of, node_count, nodes, cuts, sheet}
use Rattle.scope.specs.Why.{Place, at_cut, uncut_in, place_of, is_near, Barring, by, free, first_barring, no_number, not_above, first_reason, by_place, why_of}
use Rattle.scope.specs.Origins.{bare_record, bare_records, bare_option, bare_segments, bare_run, bare_verdict, bare_tree, bare_node, bare_why}
use Rattle.scope.specs.Before as before

-- ---- a function after a choice, and after what a list keeps
module _ {A B : Type 0} (f : A → B) where
  after_cond : (b : Bool) (x y : A) → f (cond b x y) ≡ cond b (f x) (f y)
  after_cond true x y = refl
  after_cond false x y = refl

  after_keep : (b : Bool) (x : A) (xs : List A) → map f (keep b x xs) ≡ keep b (f x) (map f xs)
  after_keep true x xs = refl
  after_keep false x xs = refl

  after_select : (p : A → Bool) (r : B → Bool) → ((x : A) → p x ≡ r (f x)) → (xs : List A) → map f (select p xs) ≡ select r (map f xs)
  unfolding select
  after_select p r h [] = refl
  after_select p r h (x ∷ xs) = rw (h x) (after_keep (r (f x)) x (select p xs) ∙ rw (after_select p r h xs))

  after_draws : (draws : List ℕ) (x y : A) → f (by_draws draws x y) ≡ by_draws draws (f x) (f y)
  after_draws [] x y = refl
  after_draws (d ∷ ds) x y = refl

  after_take : (k : ℕ) (xs : List A) → map f (take k xs) ≡ take k (map f xs)
  after_take zero xs = refl
  after_take (suc k) [] = refl
  after_take (suc k) (x ∷ xs) = ap (f x ∷◌) (after_take k xs)

-- ---- Grid
bare_best : (b : Record) (rs : List Record) → bare_record (best b rs) ≡ before.best (bare_record b) (bare_records rs)
unfolding best better before.best before.better
bare_best b [] = refl
bare_best b (r ∷ rs) = bare_best (better b r) rs ∙ rw (after_cond bare_record (lt b.gain r.gain) r b)

bare_some : (b : Record) (rs : List Record) → bare_option (of_some b rs) ≡ before.of_some (bare_record b) (bare_records rs)
bare_some b [] = refl
bare_some b (r ∷ rs) = ap some (bare_best b (r ∷ rs))

pub bare_search : (gain : ℕ → ℕ → ℕ → Float) (s : Shortest) (forbidden : List ℕ) (start stop : ℕ) → bare_option (search gain s forbidden start stop) ≡ before.search gain s forbidden start stop
unfolding search trials before.search before.trials
bare_search gain s forbidden start stop =
    bare_some (blank start stop) (trials gain s forbidden start stop) ∙ rw (map-map bare_record (trial gain start stop) (candidates s forbidden start stop))

-- ---- Layers
pub bare_seeded : (k n : ℕ) (layers : List Float) → bare_segments (seeded_from k n layers) ≡ before.seeded n layers
unfolding seeded_from before.seeded
bare_seeded k n [] = refl
bare_seeded k n (v ∷ vs) =
    let ss = layer_segments n v (layer_count v) in
    map-append ends_of (map (of_origin (layer k)) ss) (seeded_from (suc k) n vs) ∙ ap₂ ◌++◌ (map-map ends_of (of_origin (layer k)) ss ∙ map-id ss) (bare_seeded (suc k) n vs)

bare_one : (o : Option Record) → bare_records (one o) ≡ before.one (bare_option o)
bare_one none = refl
bare_one (some r) = refl

bare_labelled : (w : Origin) (o : Option Record) → bare_option (labelled w o) ≡ bare_option o
bare_labelled w none = refl
bare_labelled w (some r) = refl

-- ---- Draws
bare_numbered : (k : ℕ) (ss : List Segment) → bare_segments (numbered k ss) ≡ ss
unfolding numbered
bare_numbered k [] = refl
bare_numbered k (s ∷ ss) = ap (s ∷◌) (bare_numbered (suc k) ss)

bare_found : (o : Option Record) → is_found o ≡ before.is_found (bare_option o)
bare_found none = refl
bare_found (some r) = refl

-- ---- what is stored by a search, where that of before finds the same
module _ (find : ℕ → ℕ → Option Record) (found : ℕ → ℕ → Option before.Record) (same : (a b : ℕ) → bare_option (find a b) ≡ found a b) where
  pub bare_stored_lem : (ss : List StoredSegment) → bare_records (stored find ss) ≡ before.stored found (bare_segments ss)
  unfolding stored before.stored
  bare_stored_lem [] = refl
  bare_stored_lem (s ∷ ss) =
      let o = find s.start s.stop in
      let w = labelled s.origin o in
      map-append bare_record (one w) (stored find ss) ∙ ap₂ ◌++◌ (bare_one w ∙ ap before.one (bare_labelled s.origin o ∙ same s.start s.stop)) (bare_stored_lem ss)

  -- a draw is stored, as long as W are not, if it was
  agree : (s : Segment) → (is_searched s && is_found (find s.start s.stop)) ≡ (is_searched s && before.is_found (found s.start s.stop))
  agree s = rw (bare_found (find s.start s.stop), same)

  pub bare_drawn : (draws : List ℕ) (W : ℕ) → bare_segments (drawn find draws W) ≡ before.drawn found draws W
  unfolding drawn before.drawn
  bare_drawn draws W =
      after_take ends_of W _ ∙ ap (take W) (after_select ends_of _ _ (λ s. agree (ends_of s)) (numbered 0 (pairs_of draws)) ∙ ap (select _) (bare_numbered 0 (pairs_of draws)))

  pub bare_segments_lem : (n : ℕ) (source : Source) → bare_segments (stored_segments find n source) ≡ before.stored_segments found n source
  bare_segments_lem n source =
      after_draws bare_segments source.draws _ _ ∙ ap₂ (by_draws source.draws) (bare_seeded 1 n source.layers) (bare_drawn source.draws source.W)

-- ---- Tree
bare_inside : (start stop : ℕ) (rs : List Record) → bare_records (inside start stop rs) ≡ before.inside start stop (bare_records rs)
unfolding inside before.inside
bare_inside start stop [] = refl
bare_inside start stop (r ∷ rs) = after_keep bare_record (leb start r.start && leb r.stop stop) r (inside start stop rs) ∙ rw (bare_inside start stop rs)

bare_chosen : (o : Option Record) (rs : List Record) → bare_option (chosen o rs) ≡ before.chosen (bare_option o) (bare_records rs)
bare_chosen none rs = refl
bare_chosen (some d) rs = ap some (bare_best d rs)

bare_judged : (threshold : Float) (o : Option Record) → bare_verdict (judged threshold o) ≡ before.judged threshold (bare_option o)
bare_judged threshold none = refl
bare_judged threshold (some r) = after_cond bare_verdict (lt threshold r.gain) (cut r) (uncut (some r))

-- what growing makes
abbrev bare_grown : Grown → before.Grown
bare_grown g = record { tree = bare_tree g.tree; made = bare_records g.made }

bare_parted : (start stop : ℕ) (d : List Record) (v : Verdict) (left : ℕ → Grown) (right : ℕ → List Record → Grown) (left' : ℕ → before.Grown) (right' : ℕ → List before.Record → before.Grown)
    → ((c : ℕ) → bare_grown (left c) ≡ left' c)
    → ((c : ℕ) (more : List Record) → bare_grown (right c more) ≡ right' c (bare_records more))
    → bare_grown (parted start stop d v left right) ≡ before.parted start stop (bare_records d) (bare_verdict v) left' right'
unfolding bare_tree
bare_parted start stop d (uncut o) left right left' right' h k = refl
bare_parted start stop d (cut c) left right left' right' h k =
    let l = left c.split in
    let r = right c.split l.made in
    rw (map-append bare_record d (l.made ++ r.made), map-append bare_record l.made r.made, ← h c.split, ← k c.split l.made)

module _ (q : Run) where
  bare_direct : (start stop : ℕ) → bare_option (direct q start stop) ≡ before.direct (bare_run q) start stop
  bare_direct = bare_search q.gain q.shortest q.forbidden

  pub bare_stored_records : bare_records (stored_records q) ≡ before.stored_records (bare_run q)
  unfolding stored_records before.stored_records
  bare_stored_records = bare_stored_lem (direct q) (before.direct (bare_run q)) bare_direct q.segments

  pub bare_choice : (rs : List Record) (start stop : ℕ) → bare_option (choice q rs start stop) ≡ before.choice (bare_run q) (bare_records rs) start stop
  unfolding choice before.choice
  bare_choice rs start stop = bare_chosen (direct q start stop) (inside start stop rs) ∙ ap₂ before.chosen (bare_direct start stop) (bare_inside start stop rs)

  pub bare_verdict_lem : (rs : List Record) (start stop : ℕ) → bare_verdict (verdict q rs start stop) ≡ before.verdict (bare_run q) (bare_records rs) start stop
  unfolding verdict before.verdict
  bare_verdict_lem rs start stop = bare_judged q.threshold (choice q rs start stop) ∙ ap (before.judged q.threshold) (bare_choice rs start stop)

  bare_grow : (k : ℕ) (rs : List Record) (start stop : ℕ) → bare_grown (grow q k rs start stop) ≡ before.grow (bare_run q) k (bare_records rs) start stop
  unfolding grow before.grow bare_tree
  bare_grow zero rs start stop = refl
  bare_grow (suc k) rs start stop =
      let d = one (direct q start stop) in
      let one_is : bare_records d ≡ before.one (before.direct (bare_run q) start stop) = bare_one (direct q start stop) ∙ ap before.one (bare_direct start stop) in
      rw (← one_is, ← bare_verdict_lem rs start stop)
      (bare_parted start stop d (verdict q rs start stop) _ _ _ _ (λ c. bare_grow k (rs ++ d) start c ∙ rw (map-append bare_record rs d))
      (λ c more. bare_grow k ((rs ++ d) ++ more) c stop ∙ rw (map-append bare_record (rs ++ d) more, map-append bare_record rs d)))

  bare_grown_lem : bare_grown (grown q) ≡ before.grown (bare_run q)
  unfolding grown before.grown
  bare_grown_lem = bare_grow q.n (stored_records q) 0 q.n ∙ rw bare_stored_records

  pub bare_tree_lem : bare_tree (tree_of q) ≡ before.tree_of (bare_run q)
  bare_tree_lem = ap (λ (g : before.Grown). g.tree) bare_grown_lem

  pub bare_records_lem : bare_records (records_of q) ≡ before.records_of (bare_run q)
  unfolding records_of before.records_of
  bare_records_lem = map-append bare_record (stored_records q) (grown q).made ∙ ap₂ ◌++◌ bare_stored_records (ap (λ (g : before.Grown). g.made) bare_grown_lem)

-- ---- what is read off a tree
pub bare_count : (t : Tree) → node_count t ≡ before.node_count (bare_tree t)
unfolding node_count before.node_count bare_tree
bare_count (leaf start stop o) = refl
bare_count (node start stop c l r) = rw (bare_count l, bare_count r)

pub bare_nodes : (p : ℕ) (t : Tree) → map bare_node (nodes p t) ≡ before.nodes p (bare_tree t)
unfolding nodes before.nodes bare_tree
bare_nodes p (leaf start stop o) = refl
bare_nodes p (node start stop c l r) =
    rw (map-append bare_node (nodes (p + 1) l) (nodes (p + 1 + node_count l) r), bare_nodes (p + 1) l, bare_nodes (p + 1 + node_count l) r, bare_count l)

pub bare_cuts : (t : Tree) → bare_records (cuts t) ≡ before.cuts (bare_tree t)
unfolding cuts before.cuts bare_tree
bare_cuts (leaf start stop o) = refl
bare_cuts (node start stop c l r) = rw (map-append bare_record (cuts l) (c ∷ cuts r), bare_cuts l, bare_cuts r)

pub bare_sheet : (t : Tree) → sheet t ≡ before.sheet (bare_tree t)
unfolding sheet before.sheet
bare_sheet t = rw (← bare_cuts t) (sym (map-map (λ (r : before.Record). r.split) bare_record (cuts t)))

-- ---- Why
abbrev bare_place : Place → before.Place
bare_place (at_cut g o) = before.at_cut g
bare_place (uncut_in g) = before.uncut_in g

bare_place_lem : (x : ℕ) (t : Tree) → bare_place (place_of x t) ≡ before.place_of x (bare_tree t)
unfolding place_of before.place_of bare_tree
bare_place_lem x (leaf start stop o) = refl
bare_place_lem x (node start stop c l r) =
    after_cond bare_place (eqb x c.split) (at_cut (record { start = start; stop = stop }) c.origin) (cond (ltb x c.split) (place_of x l) (place_of x r))
    ∙ rw (after_cond bare_place (ltb x c.split) (place_of x l) (place_of x r), bare_place_lem x l, bare_place_lem x r)

bare_reason : (near : Bool) (b : Barring) (gain : Float) (g : Segment) → bare_why (first_reason near b gain g) ≡ before.first_reason near b gain g
bare_reason true b gain g = refl
bare_reason false (by x y) gain g = refl
bare_reason false free gain g = after_cond bare_why (is_nan gain) (no_number g) (not_above gain g)

bare_by_place : (q : Run) (x : ℕ) (p : Place) → bare_why (by_place q x p) ≡ before.by_place (bare_run q) x (bare_place p)
bare_by_place q x (at_cut g o) = refl
bare_by_place q x (uncut_in g) = bare_reason (is_near q.shortest g x) (first_barring q.forbidden x) (q.gain g.start g.stop x) g

pub bare_why_lem : (q : Run) (x : ℕ) → bare_why (why_of q x) ≡ before.why_of (bare_run q) x
unfolding why_of before.why_of
bare_why_lem q x = bare_by_place q x (place_of x (tree_of q)) ∙ ap (before.by_place (bare_run q) x) (bare_place_lem x (tree_of q) ∙ ap (before.place_of x) (bare_tree_lem q))

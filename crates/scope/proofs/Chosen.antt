-- "NaN never does" win: the gain of every record that a search makes, that the tree stores and that a node chooses is numeric, whatever the gains are. Assumes nothing.
use mathlib.Core.Path.{◌≡◌, refl, ap}
use mathlib.Core.Logic.{⊎_elim}
use mathlib.Core.Bool.{Bool, true, false, cond}
use mathlib.Core.List.Memᴰ
use mathlib.Core.List.{List, [], ◌∷◌, ◌++◌}
use mathlib.Core.Option.{Option, none, some}
use Prim.Native.Nat.{ℕ, zero, suc, ◌+◌}
use lib.Ieee.{Float, nan, lt}
use Rattle.scope.specs.Lists.{◌∈◌}
use Rattle.scope.specs.Greatest.{numeric}
use Rattle.scope.specs.Asked.{Shortest}
use Rattle.scope.specs.Grid.{Record, best, search}
use Rattle.scope.specs.Origin.{Origin}
use Rattle.scope.specs.Layers.{StoredSegment, one, labelled, stored}
use Rattle.scope.specs.Tree.{Run, direct, stored_records, inside, chosen, choice, Verdict, uncut, cut, judged, verdict, Tree, leaf, node, Grown, parted, grow, grown, tree_of, records_of, Node, nodes, node_count}
use Rattle.scope.proofs.Never.{never}
use Rattle.scope.proofs.Greatest.{best_is_first, search_first, first_numeric}

-- the best of some records is numeric where the first is
pub best_numeric : (b : Record) (rs : List Record) → numeric b.gain ≡ true → numeric (best b rs).gain ≡ true
best_numeric b rs h = first_numeric (best_is_first b rs) h

-- every record of the list has a numeric gain
abbrev pub NumericGains : List Record → Type 0
NumericGains rs = (r : Record) → r ∈ rs → numeric r.gain ≡ true

-- and so has the record, if there is one
abbrev pub NumericIfSome : Option Record → Type 0
NumericIfSome o = (r : Record) → o ≡ some r → numeric r.gain ≡ true

append_numbers : (rs ss : List Record) → NumericGains rs → NumericGains ss → NumericGains (rs ++ ss)
append_numbers rs ss h k r i = ⊎_elim (h r) (k r) (Memᴰ.append_cases rs i)

one_numbers : (o : Option Record) → NumericIfSome o → NumericGains (one o)
one_numbers none h r i = absurd (Memᴰ.not-nil i)
one_numbers (some s) h r i = rw (Memᴰ.eq_of_singleton i) (h s refl)

labelled_number : (w : Origin) (o : Option Record) → NumericIfSome o → NumericIfSome (labelled w o)
labelled_number w none h r e = never (cc)
labelled_number w (some s) h r e = let same : s.gain ≡ r.gain = ap gain_of e in rw same at (h s refl)
  where
    gain_of : Option Record → Float
    gain_of none = nan
    gain_of (some z) = z.gain

-- what searches leave
pub stored_numbers : (find : ℕ → ℕ → Option Record) → ((start stop : ℕ) → NumericIfSome (find start stop)) → (ss : List StoredSegment) → NumericGains (stored find ss)
unfolding stored
stored_numbers find h [] r i = absurd (Memᴰ.not-nil i)
stored_numbers find h (s ∷ ss) r i =
    let o = labelled s.origin (find s.start s.stop) in
    append_numbers (one o) (stored find ss) (one_numbers o (labelled_number s.origin (find s.start s.stop) (h s.start s.stop))) (stored_numbers find h ss) r i

-- what a search finds
pub search_number : (gain : ℕ → ℕ → ℕ → Float) (s : Shortest) (forbidden : List ℕ) (start stop : ℕ) → NumericIfSome (search gain s forbidden start stop)
search_number gain s forbidden start stop r h = first_numeric (search_first gain s forbidden start stop r h) refl

-- ---- the tree
module _ (q : Run) where
  direct_number : (start stop : ℕ) → NumericIfSome (direct q start stop)
  direct_number = search_number q.gain q.shortest q.forbidden

  chosen_number : (o : Option Record) (rs : List Record) → NumericIfSome o → NumericIfSome (chosen o rs)
  chosen_number none rs h r e = never (cc)
  chosen_number (some d) rs h r e = let w : best d rs ≡ r = cc in rw w at (best_numeric d rs (h d refl))

  -- a verdict shows its choice
  abbrev Shows : Verdict → Type 0
  Shows (uncut o) = NumericIfSome o
  Shows (cut r) = numeric r.gain ≡ true

  judged_shows : (o : Option Record) → NumericIfSome o → Shows (judged q.threshold o)
  judged_shows none h = h
  judged_shows (some r) h = go (lt q.threshold r.gain)
    where
      go : (b : Bool) → Shows (cond b (cut r) (uncut (some r)))
      go true = h r refl
      go false = h

  verdict_shows : (rs : List Record) (start stop : ℕ) → Shows (verdict q rs start stop)
  unfolding verdict choice
  verdict_shows rs start stop = judged_shows (choice q rs start stop) (chosen_number (direct q start stop) (inside start stop rs) (direct_number start stop))

  -- each choice of the tree is numeric, and so is each record that growing it made
  abbrev Choices : Tree → Type 0
  Choices (leaf start stop o) = NumericIfSome o
  Choices (node start stop c l r) = (numeric c.gain ≡ true) × Choices l × Choices r

  record Sound (g : Grown) : Type 0 where
    choices : Choices g.tree
    made : NumericGains g.made

  parted_sound : (start stop : ℕ) (d : List Record) (v : Verdict) (left : ℕ → Grown) (right : ℕ → List Record → Grown) → NumericGains d → Shows v
      → ((c : ℕ) → Sound (left c)) → ((c : ℕ) (more : List Record) → Sound (right c more)) → Sound (parted start stop d v left right)
  parted_sound start stop d (uncut o) left right h s l r = record { choices = s; made = h }
  parted_sound start stop d (cut c) left right h s l r =
      let x = l c.split in
      let y = r c.split (left c.split).made in
      record { choices = (s, x.choices, y.choices); made = append_numbers d _ h (append_numbers _ _ x.made y.made) }

  grow_sound : (k : ℕ) (rs : List Record) (start stop : ℕ) → Sound (grow q k rs start stop)
  unfolding grow
  grow_sound zero rs start stop = record { choices = λ r e. never (cc); made = λ r i. absurd (Memᴰ.not-nil i) }
  grow_sound (suc k) rs start stop =
      let d = one (direct q start stop) in
      parted_sound start stop d (verdict q rs start stop) _ _ (one_numbers (direct q start stop) (direct_number start stop)) (verdict_shows rs start stop)
      (λ c. grow_sound k (rs ++ d) start c) (λ c more. grow_sound k ((rs ++ d) ++ more) c stop)

  -- the stored records, and the nodes' choices
  pub records_numbers : NumericGains (records_of q)
  unfolding records_of stored_records grown
  records_numbers = append_numbers (stored_records q) (grown q).made (stored_numbers (direct q) direct_number q.segments) (grow_sound q.n (stored_records q) 0 q.n).made

  node_numbers : (t : Tree) → Choices t → (p : ℕ) (d : Node) → d ∈ nodes p t → NumericIfSome d.choice
  unfolding nodes
  node_numbers (leaf start stop o) h p d i = rw (Memᴰ.eq_of_singleton i) h
  node_numbers (node start stop c l r) h p d i =
      ⊎_elim (λ e. rw e (λ s w. let z : c ≡ s = cc in rw z at h.0))
      (λ j. ⊎_elim (node_numbers l h.1 (p + 1) d) (node_numbers r h.2 (p + 1 + node_count l) d) (Memᴰ.append_cases (nodes (p + 1) l) j))
      (Memᴰ.cases_cons i)

  pub nodes_numbers : (d : Node) → d ∈ nodes 0 (tree_of q) → NumericIfSome d.choice
  unfolding grown
  nodes_numbers = node_numbers (tree_of q) (grow_sound q.n (stored_records q) 0 q.n).choices 0

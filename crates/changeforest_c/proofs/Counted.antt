-- The tree for a host: where its counts don't fit no nodes are lent on, and the number is the one that its tests give. Assumes nothing.
use mathlib.Core.Path.{◌≡◌, refl, ◌∙◌, ap, subst}
use mathlib.Core.Bool.{Bool, true, false, cond}
use mathlib.Core.List.{List, [], ◌∷◌, ◌++◌, map, append-nil}
use Prim.Native.Nat.{ℕ, zero, suc, ◌-◌, ◌/◌, ◌≤◌, ◌<◌}
use native.Mathlib.Omega.{arith}
use borrow.Author.Tests.{lt-ltb, ltb-false}
use lib.Dec.{T, ltb}
use lib.Ieee.{Float}
use lib.ListN.{length, take, drop}
use lib.Seq.{length-take-le, take-length, drop-length}
use Rattle.std.specs.Prelude.{Result, Ok, Err}
use Rattle.scope.specs.Lists.{holding}
use Rattle.scope.specs.Asked.{Matrix, Settings}
use Rattle.scope.specs.Refusals.{Test, test, first_of, Answer, given, unless, told_unless, no7}
use Rattle.scope.specs.Draws.{no8_draws}
use Rattle.scope.specs.Tree.{Run, tree_of, records_of, Node, nodes, sheet, most_nodes}
use Rattle.scope.specs.Calls.{sums_of, tree_tests, tree_refusal, tree_call, Counts, counts_of, run_of, run_follows, counted_refusal, counted_call, counts_told}
use Rattle.scope.specs.Feed.{State, fed_last_tests, fed_tests, fed_refusal, fed_room, fed_run, fed_call, fed_counted_refusal, fed_counted_call}
use Rattle.control.specs.declared.refusal.Refusal.{Refusal}
use Rattle.control.specs.Refused.{told as answered}
use Rattle.scope.proofs.Never.{never}
use Rattle.control.proofs.Clean.{Numbered}
use Rattle.segmentation.specs.Segments.{Held}
use Rattle.node.specs.Nodes.{to_node}
use Rattle.demand.specs.Demand.{Demand}
use Rattle.prepared.specs.Answers.{tree_asked}
use Rattle.entry_tree.specs.declared.Grown.{Grown}
use Rattle.entry_tree.specs.Answers.{to_counts}
use Rattle.entry_tree.specs.Left.{Slices, record_slices, RunLeft, TreeLeft, fed_asked, FedLeft}
use Rattle.told.specs.Told.{counted_room, four_in, told_or, GrownTold}
use Rattle.changeforest_c.specs.Stored.{RunStored, TreeStored, FedStored}

-- ---- the number
-- the same tests in front give the same number, where the others do
under : (front ts us : List Test) → first_of ts ≡ first_of us → first_of (front ++ ts) ≡ first_of (front ++ us)
under [] ts us h = h
under (test true k ∷ front) ts us h = refl
under (test false k ∷ front) ts us h = under front ts us h

sevens : (p q : Bool) (ts us : List Test) → first_of (test true 7 ∷ ts) ≡ first_of (test p 7 ∷ test q 7 ∷ test true 7 ∷ us)
sevens true q ts us = refl
sevens false true ts us = refl
sevens false false ts us = refl

-- the room for nodes that is lent on, beside that for cuts, and the room for counts in its place: `before` are the tests before, `last` those behind
module _ (before last : List Test) (most nodes counts : ℕ) (cuts : Bool) (some : 0 < most) where
  abbrev entry : ℕ
  entry = first_of (before ++ (no7 most (counted_room nodes counts) ∷ test cuts 7 ∷ last))

  abbrev host : ℕ
  host = first_of (before ++ (no7 most nodes ∷ test cuts 7 ∷ no7 4 counts ∷ last))

  counted_number : entry ≡ host
  unfolding counted_room
  counted_number = go (ltb counts 4)
    where
      go : (b : Bool) → first_of (before ++ (no7 most (cond b 0 nodes) ∷ test cuts 7 ∷ last)) ≡ first_of (before ++ (no7 most nodes ∷ test cuts 7 ∷ test b 7 ∷ last))
      go true = rw (lt-ltb 0 most some) (under before (test true 7 ∷ test cuts 7 ∷ last) (no7 most nodes ∷ test cuts 7 ∷ test true 7 ∷ last) (sevens (ltb nodes most) cuts (test cuts 7 ∷ last) last))
      go false = under before (no7 most nodes ∷ test cuts 7 ∷ last) (no7 most nodes ∷ test cuts 7 ∷ test false 7 ∷ last) (passed_by (ltb nodes most) cuts)
        where
          passed_by : (p q : Bool) → first_of (test p 7 ∷ test q 7 ∷ last) ≡ first_of (test p 7 ∷ test q 7 ∷ test false 7 ∷ last)
          passed_by true q = refl
          passed_by false true = refl
          passed_by false false = refl

  -- where the counts don't fit, some number applies
  short_refused : T (Numbered before) → ltb counts 4 ≡ true → (k : ℕ) × (host ≡ suc k)
  short_refused numbered h = rw h (go before numbered)
    where
      sevenths : (p q : Bool) → (k : ℕ) × (first_of (test p 7 ∷ test q 7 ∷ test true 7 ∷ last) ≡ suc k)
      sevenths true q = (6, refl)
      sevenths false true = (6, refl)
      sevenths false false = (6, refl)

      go : (ts : List Test) → T (Numbered ts) → (k : ℕ) × (first_of (ts ++ (no7 most nodes ∷ test cuts 7 ∷ test true 7 ∷ last)) ≡ suc k)
      go [] z = sevenths (ltb nodes most) cuts
      go (test true zero ∷ ts) z = absurd z
      go (test true (suc k) ∷ ts) z = (k, refl)
      go (test false zero ∷ ts) z = absurd z
      go (test false (suc k) ∷ ts) z = go ts z

-- ---- the counts
four : (a b c d : ℕ) (l : List ℕ) → 4 ≤ length l → four_in a b c d l ≡ holding (a ∷ b ∷ c ∷ d ∷ []) l
four a b c d [] h = absurd (omega arith)
four a b c d (x ∷ []) h = absurd (omega arith)
four a b c d (x ∷ y ∷ []) h = absurd (omega arith)
four a b c d (x ∷ y ∷ z ∷ []) h = absurd (omega arith)
four a b c d (x ∷ y ∷ z ∷ v ∷ l) h = refl

-- ---- what the entry point leaves, told: it was lent the first nodes, so many as the counts let
abbrev pub front : Slices → ℕ → Slices
front l k = record { sums = l.sums; rows = l.rows; gains = l.gains; nodes = take k l.nodes; cuts = l.cuts }

-- the others stand behind them as they were
abbrev pub whole : Slices → ℕ → Slices → Slices
whole before k l = record { sums = l.sums; rows = l.rows; gains = l.gains; nodes = l.nodes ++ drop k before.nodes; cuts = l.cuts }

-- ---- a run q, with the sums that are told: the entry point's number, and the host's, which is one
module _ (q : Run) (sums : List Float) (entry number : ℕ) (before : Slices) (counts₀ : List ℕ) (room : ℕ) (is : room ≡ counted_room (length before.nodes) (length counts₀))
    (same : entry ≡ number) (short : ltb (length counts₀) 4 ≡ true → (k : ℕ) × (number ≡ suc k)) where
  abbrev told : List Node
  told = told_unless number (nodes 0 (tree_of q))

  nodes_whole : holding (map to_node told) (take room before.nodes) ++ drop room before.nodes ≡ holding (map to_node told) before.nodes
  unfolding counted_room
  nodes_whole = go (ltb (length counts₀) 4) refl
    where
      go : (b : Bool) → ltb (length counts₀) 4 ≡ b → holding (map to_node told) (take room before.nodes) ++ drop room before.nodes ≡ holding (map to_node told) before.nodes
      go true e = let (k, w) = short e in rw (is, e, w)
      go false e = rw (is, e, take-length, drop-length, append-nil)

  module _ (g : Result Grown Refusal) (after : Slices) (counts₁ : List ℕ) (r : ℕ) (left : RunLeft (run_follows q sums entry) q g (front before room) after)
      (heard : GrownTold (answered to_counts g) r counts₀ counts₁) where
    abbrev answer : Answer Counts
    answer = unless number (counts_of q)

    grew : answered to_counts g ≡ answer
    grew = left.answer ∙ ap (λ (k : ℕ). unless k (counts_of q)) same

    counted : GrownTold answer r counts₀ counts₁
    counted = rw grew at heard

    counts_told_lem : counts₁ ≡ holding (counts_told answer) counts₀
    counts_told_lem = counted.counts ∙ go number refl
      where
        go : (k : ℕ) → number ≡ k → told_or (λ c. four_in c.nodes c.records c.cuts c.stored) (unless k (counts_of q)) counts₀ ≡ holding (counts_told (unless k (counts_of q))) counts₀
        go zero e = four _ _ _ _ counts₀ (roomy (ltb (length counts₀) 4) refl)
          where
            roomy : (b : Bool) → ltb (length counts₀) 4 ≡ b → 4 ≤ length counts₀
            roomy true h = let (k, w) = short h in absurd (omega arith)
            roomy false h = ltb-false (length counts₀) 4 h
        go (suc k) e = refl

    demanded : r ≡ 0 → Demand q
    demanded z = go number refl
      where
        found : (f : Result Grown Refusal) (c : Counts) → answered to_counts f ≡ given c → ((x : Grown) → f ≡ Ok x → Demand q) → Demand q
        found (Ok x) c e d = d x refl
        found (Err x) c e d = never (cc)

        go : (k : ℕ) → number ≡ k → Demand q
        go zero e = found g (counts_of q) (rw e at grew) left.demand
        go (suc k) e = absurd (omega (arith, rw e at counted.number))

    stored : RunStored (run_follows q sums number) q r before (whole before room after) counts₀ counts₁
    stored =
        record {
          number = counted.number;
          held = subst (λ (k : ℕ). Held (told_unless k sums) (told_unless k (records_of q)) (record_slices before) (record_slices after)) same left.held;
          nodes = ap (λ l. l ++ drop room before.nodes) (left.nodes ∙ ap (λ (k : ℕ). holding (map to_node (told_unless k (nodes 0 (tree_of q)))) (take room before.nodes)) same) ∙ nodes_whole;
          cuts = left.cuts ∙ ap (λ (k : ℕ). holding (told_unless k (sheet (tree_of q))) before.cuts) same;
          counts = counts_told_lem;
          demand = demanded;
        }

-- ---- a tree, from a matrix or from the sums of a fed run
module _ (s : Settings) (before : Slices) (counts₀ : List ℕ) (room : ℕ) (is : room ≡ counted_room (length before.nodes) (length counts₀)) (few : room ≤ length before.nodes) where
  -- the room that the entry point is lent
  lent_on : length (take room before.nodes) ≡ counted_room (length before.nodes) (length counts₀)
  lent_on = length-take-le room before.nodes few ∙ is

  abbrev short_cuts : ℕ → Bool
  short_cuts n = ltb (length before.cuts) ((most_nodes n s.shortest - 1) / 2)

  module _ (x : Matrix) where
    abbrev tests : List Test
    tests = take 11 (tree_tests (tree_asked x s (record_slices before) (length before.nodes) (length before.cuts)))

    abbrev last : List Test
    last = no8_draws x.n s.source ∷ []

    same_tree : tree_refusal (tree_asked x s (record_slices before) (length (take room before.nodes)) (length before.cuts)) ≡ counted_refusal (tree_asked x s (record_slices before) (length before.nodes) (length before.cuts)) (length counts₀)
    unfolding tree_refusal counted_refusal
    same_tree = rw lent_on (counted_number tests last (most_nodes x.n s.shortest) (length before.nodes) (length counts₀) (short_cuts x.n) (omega arith))

    short_tree : ltb (length counts₀) 4 ≡ true → (k : ℕ) × (counted_refusal (tree_asked x s (record_slices before) (length before.nodes) (length before.cuts)) (length counts₀) ≡ suc k)
    unfolding counted_refusal
    short_tree = short_refused tests last (most_nodes x.n s.shortest) (length before.nodes) (length counts₀) (short_cuts x.n) (omega arith) tt

    pub tree_stored : (g : Result Grown Refusal) (after : Slices) (counts₁ : List ℕ) (r : ℕ) → TreeLeft x s g (front before room) after → GrownTold (answered to_counts g) r counts₀ counts₁ → TreeStored x s r before (whole before room after) counts₀ counts₁
    unfolding tree_call counted_call
    tree_stored g after counts₁ r left heard = stored (run_of x s) (sums_of x) _ _ before counts₀ room is same_tree short_tree g after counts₁ r left heard

  module _ (st : State) where
    abbrev fed_tests_lem : List Test
    fed_tests_lem = take 10 (fed_tests st s (fed_room (fed_asked st s before)))

    same_fed : fed_refusal st s (fed_room (fed_asked st s (front before room))) ≡ fed_counted_refusal st s (fed_room (fed_asked st s before)) (length counts₀)
    unfolding fed_refusal fed_counted_refusal
    same_fed = rw lent_on (counted_number fed_tests_lem (fed_last_tests st s) (most_nodes st.n s.shortest) (length before.nodes) (length counts₀) (short_cuts st.n) (omega arith))

    short_fed : ltb (length counts₀) 4 ≡ true → (k : ℕ) × (fed_counted_refusal st s (fed_room (fed_asked st s before)) (length counts₀) ≡ suc k)
    unfolding fed_counted_refusal
    short_fed = short_refused fed_tests_lem (fed_last_tests st s) (most_nodes st.n s.shortest) (length before.nodes) (length counts₀) (short_cuts st.n) (omega arith) tt

    pub fed_stored : (g : Result Grown Refusal) (after : Slices) (counts₁ : List ℕ) (r : ℕ) → FedLeft st s g (front before room) after → GrownTold (answered to_counts g) r counts₀ counts₁ → FedStored st s r before (whole before room after) counts₀ counts₁
    unfolding fed_call fed_counted_call
    fed_stored g after counts₁ r left heard = stored (fed_run st s before.sums) [] _ _ before counts₀ room is same_fed short_fed g after counts₁ r left heard

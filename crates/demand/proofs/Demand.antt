-- The demand on the tree and its sheet, proved for every run with m and n at least 1. Assumes nothing.
use mathlib.Core.Path.{◌≡◌, refl}
use mathlib.Core.Bool.{true, false}
use mathlib.Core.List.{List, []}
use Prim.Native.Nat.{ℕ, ◌+◌, ◌*◌, ◌≤◌, ◌<◌}
use native.Mathlib.Omega.{arith}
use lib.IntN.{pos}
use lib.Ieee.{Float, fin, inf, lt, eq}
use lib.ListN.{length}
use Rattle.scope.specs.Floats.{+0}
use Rattle.scope.specs.Lists.{every}
use Rattle.scope.specs.Refusals.{most_rows}
use Rattle.scope.specs.Greatest.{numeric}
use Rattle.scope.specs.Draws.{most_stored}
use Rattle.scope.specs.Tree.{Run, tree_of, records_of, node_count, most_nodes}
use Rattle.scope.specs.Asked.{Matrix, Settings}
use Rattle.scope.specs.Calls.{search_in, run_of}
use Rattle.scope.proofs.Draws.{segments_few}
use Rattle.demand.specs.AllZero.{AllZero}
use Rattle.demand.specs.Levels.{levels, most_levels}
use Rattle.demand.specs.Demand.{Demand}
use Rattle.demand.proofs.Choice.{choice_source, choice_first, choice_none}
use Rattle.demand.proofs.Cut.{cut_when, greatest_some, never_cut, cut_by}
use Rattle.demand.proofs.Grows.{one_tree}
use Rattle.demand.proofs.Sheet.{on_cuts, on_sheet, sheet_ascends, sheet_spaced}
use Rattle.demand.proofs.Nodes.{on_nodes, nodes_once}
use Rattle.demand.proofs.Told.{nodes_told}
use Rattle.demand.proofs.Made.{grown_grows, grown_made}
use Rattle.demand.proofs.Room.{count_nodes, nodes_few, levels_few, cuts_few, records_few}
use Rattle.demand.proofs.Level.{level_most}
use Rattle.demand.proofs.Zero.{zero_gain}

-- where all gains are one that exceeds the threshold, and nothing is forbidden, the bounds on nodes and on levels are reached, whatever the stored segments
pub level_gains : (q : Run) → 1 ≤ q.shortest.m → 1 ≤ q.n → q.forbidden ≡ [] → (g : Float)
    → ((start stop x : ℕ) → start < x → x < stop → stop ≤ q.n → q.gain start stop x ≡ g)
    → lt q.threshold g ≡ true
    → (node_count (tree_of q) ≡ most_nodes q.n q.shortest) × (levels (tree_of q) ≡ most_levels q.n q.shortest)
level_gains q m n free g all over = level_most q m free g all over (tree_of q) (grown_grows q m n) n

zero_readings : (q : Run) → 1 ≤ q.shortest.m → 1 ≤ q.n → (cells : List Float) (d : ℕ) → AllZero q cells d
    → (node_count (tree_of q) ≡ most_nodes q.n q.shortest) × (levels (tree_of q) ≡ most_levels q.n q.shortest)
zero_readings q m n cells d z =
    level_gains q m n z.none_forbidden +0
    (λ start stop x low high fits. rw z.gain_is (zero_gain cells q.n d z.filled z.zeros z.rows start stop x low high fits))
    z.below

pub demand : (q : Run) → 1 ≤ q.shortest.m → 1 ≤ q.n → Demand q
unfolding records_of
demand q m n =
    let t = tree_of q in
    let whole = grown_grows q m n in
    let made = grown_made q m n in
    record {
      exact = on_sheet q t whole;
      exact_record = on_cuts q t whole;
      ascending = sheet_ascends q t whole m;
      free = λ x i a b p. let c = (on_sheet q t whole x).0 i in rw c.at ((cut_by q c.chosen.start c.chosen.stop c.by c.chosen.is).row.free a b p);
      gaps = sheet_spaced q t whole;
      when = cut_when q;
      some_numeric = greatest_some q;
      none_numeric = never_cut q;
      by = cut_by q;
      first = choice_first q;
      from = choice_source q;
      no_direct = choice_none q;
      unmoved = whole;
      only = λ u g. one_tree q 0 q.n t u whole g;
      made = made;
      shown = on_nodes q t whole;
      once = nodes_once q m t whole n;
      told = nodes_told q t whole;
      counted = λ p. count_nodes p t;
      few_nodes = nodes_few q m t whole;
      most_nodes_lem = λ cells d z. (zero_readings q m n cells d z).0;
      few_levels = levels_few q m t whole;
      most_levels_lem = λ cells d z. (zero_readings q m n cells d z).1;
      few_cuts = cuts_few q m t whole;
      few_records = rw made (omega (arith, records_few q t, nodes_few q m t whole));
    }

-- plus infinity is numeric
pub infinity_numeric : numeric (inf false) ≡ true
infinity_numeric = refl

-- all-zero readings, a threshold below 0, nothing forbidden, any stored segments
pub all_zero_readings : (x : Matrix) (s : Settings) → 1 ≤ s.shortest.m → 1 ≤ x.n → x.n ≤ most_rows
    → length x.cells ≡ x.n * x.d
    → every (λ v. eq v +0) x.cells ≡ true
    → lt s.threshold +0 ≡ true
    → s.forbidden ≡ []
    → node_count (tree_of (run_of x s)) ≡ most_nodes x.n s.shortest
all_zero_readings x s least rows most filled zeros below free =
    (demand (run_of x s) least rows).most_nodes_lem x.cells x.d
    (record { rows = most; filled = filled; zeros = zeros; gain_is = refl; below = below; none_forbidden = free })

-- -1 is a threshold below 0
pub minus_one_below : lt (fin true 1 (pos 0)) +0 ≡ true
unfolding lt
minus_one_below = refl

-- ---- T+B records are room enough
pub records_fit : (x : Matrix) (s : Settings) → 1 ≤ s.shortest.m → 1 ≤ x.n → length (records_of (run_of x s)) ≤ most_stored s.source + most_nodes x.n s.shortest
records_fit x s least rows = omega (arith, (demand (run_of x s) least rows).few_records, segments_few (search_in x s.shortest s.forbidden) x.n s.source)

-- Marked cases: M1 to M11, "One statement over a single table proves these of the definitions"; and some of what document 02 adds.
use Rattle.std.specs.Prelude.{◌≡◌, refl, true, false, ℕ, ◌-◌, ◌^◌, pos, negsuc, length, replicate, Float}
use mathlib.Core.List.{List, [], ◌∷◌, map, flatten}
use Rattle.std.proofs.Math.Option.{Option, none, some}
use Prim.Native.String.{String}
use Rattle.std.specs.Float.{nan, fin, binary64}
use Rattle.std.specs.Float.Ieee.{add, sub, mul, div, of_int, of_bits, to_bits, lt, le, is_nan}
use Rattle.scope.specs.Floats.{whole, ◌⊘◌}
use Rattle.scope.specs.Lists.{upward, select, every}
use Rattle.scope.specs.Asked.{Matrix, Shortest, off, on, one_more, Source, nothing, Settings}
use Rattle.scope.specs.Refusals.{Answer, refused, given, outside, wrong_matrix, is_between, well_paired, wrong_layers, wrong_segment, wrong_split}
use Rattle.scope.specs.Rounding.{nearest_of, truncation, ceiling, minimal_length, whole_root}
use Rattle.scope.specs.Candidates.{is_barred, range_size, candidates, all_barred}
use Rattle.scope.specs.Sums.{flat_sums, prefix_sums}
use Rattle.scope.specs.Gain.{term, terms, inner_gain, gain_of}
use Rattle.scope.specs.Origin.{Origin, direct, layer, draw, origin_text}
use Rattle.scope.specs.Grid.{Record, better, best, trials, search}
use Rattle.scope.specs.Layers.{Segment, ends_of, layer_length, layer_count, layer_step, layer_start, layer_stop, layer_segments, seeded_from, seeded, layers_total, one, stored}
use Rattle.scope.specs.Draws.{pairs_of, numbered, drawn, is_odd, both_given, any_past}
use Rattle.scope.specs.Tree.{Node, stored_records, inside, choice, verdict, grow, grown, records_of, node_count, nodes, cuts, sheet}
use Rattle.scope.specs.Neighbours.{difference, squares, distances, insert, ordered, order_of, others, neighbours, count_of, predictions}
use Rattle.scope.specs.Curves.{guesses}
use Rattle.scope.specs.Permutations.{is_permutation, wrong_permutations, add_deltas, added, reaches, exceeds, counter}
use Rattle.scope.specs.Calls.{Split, Room, OrderingAsked, Counts, Tested, length_answer, candidates_refusal, candidates_call, gain_refusal, gain_call, search_refusal, search_call, stored_refusal, stored_call, tree_refusal, tree_call, predict_refusal, predict_call, guesses_answer, wrong_lengths, permutation_answer}
use Rattle.scope.specs.Feed.{State, open_refusal, open_call, fed_sums, feed_refusal, feed_call, close_answer, fed_refusal, fed_call}
use Rattle.scope.specs.Fed.{Step, lot, closing, handed_on, after, opened_in, later_of}
use Rattle.scope.specs.Why.{Why, cut, too_near, barred, no_number, not_above, place_of, is_near, first_barring, why_of, why_refusal, why_call}
use Rattle.scope.specs.Text.{bytes, same, parts, value_of, number, cell, cells_of, hex_value_of, threshold, decimal_of, hex_of, line}
use Rattle.scope.specs.Program.{wrong_deck, wrong_pairs, read_line, read_lines, read_input, deck_refusal, cut_lines, sheet_text, program}
use Rattle.scope.specs.WhyText.{asked_refusal, why_program}

-- a case, by the call that it makes; every lent slice has the room of ten rows and more
data Case : Type 0 where
  allowed_rows : Shortest → (start stop : ℕ) → List ℕ → Case
  gain_at : List ℕ → (start stop split : ℕ) → Case
  best_split : List ℕ → Shortest → Case
  sheet_of : String → Case
  cuts_of : List ℕ → Shortest → Float → Source → Case
  stored_by : List ℕ → Source → Case
  counts_at : List Float → ℕ → ℕ → ℕ → Case
  permuted : List Float → Float → Shortest → Float → ℕ → List ℕ → Case
  seeded_by : ℕ → Float → Case
  length_of : Float → ℕ → Case
  guesses_of : Shortest → (start stop : ℕ) → Option (List ℕ) → Case
  why_of_row : List ℕ → Shortest → Float → List ℕ → Source → ℕ → Case
  line_of : ℕ → String → Case
  origins_by : List ℕ → Source → Case
  origin_told : Source → ℕ → ℕ → Case
  origins_in : Source → Case
  opened_by : (n d room : ℕ) → Case
  lot_to : State → List Float → ℕ → Case
  closed_at : State → Case
  fed_by : (n d : ℕ) → List Step → Case
  later_sheet : (n d : ℕ) → List Step → Float → Source → Case
  sheet_over : State → Float → List Float → Case

-- what is seen of it
data Seen : Type 0 where
  rows : Answer ℕ → List ℕ → Seen
  gain : Answer Float → Seen
  split : Answer Split → Seen
  text : List ℕ → Seen
  tree : Answer Counts → List ℕ → Seen
  records : Answer ℕ → List Segment → Seen
  predicted : List ℕ → List Float → Seen
  tested : Answer Tested → Seen
  segments : List Segment → Seen
  least : Answer ℕ → Seen
  guessed : Answer (List ℕ) → Seen
  why : Answer Why → Seen
  origins : List Origin → Seen
  told : Answer Why → List ℕ → Seen
  in_tree : List Origin → List Origin → Seen
  state : Answer State → Seen
  sums : Answer State → List Float → Seen

abbrev room : ℕ
room = 64

ample : Room
ample = record { sums = room; records = room; nodes = room; cuts = room }

-- one column of whole numbers
column : List ℕ → Matrix
column cells = record { cells = map whole cells; n = length cells; d = 1 }

-- [start, stop)
from : ℕ → ℕ → Segment
from start stop = record { start = start; stop = stop }

-- draws alone
wild : List ℕ → ℕ → Source
wild draws W = record { layers = []; draws = draws; W = W }

-- layers alone, of the values 1/2 and 3/4
layered : Source
layered = record { layers = fin false 1 (negsuc 0) ∷ fin false 3 (negsuc 1) ∷ []; draws = []; W = 0 }

-- rows that by themselves have gain 32, at 4, and in [0,6) 256/3, at 4
hump : List ℕ
hump = 0 ∷ 0 ∷ 0 ∷ 0 ∷ 8 ∷ 8 ∷ 0 ∷ 0 ∷ []

run : Case → Seen
unfolding column ample from hump
run (allowed_rows s start stop forbidden) =
    let told = candidates_call (record { n = 10; shortest = s; forbidden = forbidden; start = start; stop = stop; room = room }) in
    rows told.answer told.rows
run (gain_at cells start stop x) = gain (gain_call (record { matrix = column cells; start = start; stop = stop; split = x; room = room })).answer
run (best_split cells s) =
    split (search_call (record { matrix = column cells; shortest = s; forbidden = []; start = 0; stop = length cells; room = room })).answer
run (sheet_of input) = text (program (bytes input))
run (cuts_of cells s t source) =
    let settings : Settings = record { shortest = s; threshold = t; forbidden = []; source = source } in
    let told = tree_call (record { matrix = column cells; settings = settings; room = ample }) in
    tree told.answer told.cuts
run (stored_by cells source) =
    let told = stored_call (record { matrix = column cells; shortest = off 1; forbidden = []; source = source; sums = room; records = room }) in
    records told.answer (map (λ (r : Record). from r.start r.stop) told.records)
run (counts_at cells start stop x) =
    let order : OrderingAsked = record { matrix = record { cells = cells; n = length cells; d = 1 }; ordering = room; distances = room } in
    predicted (map (count_of cells (length cells) 1 start stop x) (upward start (stop - start)))
    (predict_call (record { order = order; start = start; stop = stop; split = x; room = room })).predictions
run (permuted deltas base s maximum P permutations) =
    tested (permutation_answer (record {
      shortest = s;
      alpha = of_bits binary64 0x3fa9_9999_9999_999a;
      maximum = maximum;
      k = 1;
      bases = base ∷ [];
      curves = deltas ∷ [];
      P = P;
      permutations = permutations;
    }))
run (seeded_by n v) = segments (map ends_of (seeded n (v ∷ [])))
run (length_of r n) = least (length_answer r n)
run (guesses_of s start stop forbidden) = guessed (guesses_answer (record { n = 10; shortest = s; forbidden = forbidden; start = start; stop = stop }))
run (why_of_row cells s t forbidden source row) =
    let settings : Settings = record { shortest = s; threshold = t; forbidden = forbidden; source = source } in
    why (why_call (record { matrix = column cells; settings = settings; row = row; sums = room; records = room; text = room })).answer
run (line_of row input) = text (why_program row (bytes input))
run (origins_by cells source) =
    let told = stored_call (record { matrix = column cells; shortest = off 1; forbidden = []; source = source; sums = room; records = room }) in
    origins (map (λ (r : Record). r.origin) told.records)
run (origin_told source row bytes) =
    let settings : Settings = record { shortest = off 1; threshold = whole 50; forbidden = []; source = source } in
    let call = why_call (record { matrix = column hump; settings = settings; row = row; sums = room; records = room; text = bytes }) in
    told call.answer call.text
run (origins_in source) =
    let settings : Settings = record { shortest = off 1; threshold = whole 50; forbidden = []; source = source } in
    let call = tree_call (record { matrix = column hump; settings = settings; room = ample }) in
    let origin_of : Record → Origin = λ r. r.origin in
    in_tree (map origin_of call.records) (map origin_of (flatten (map (λ (d : Node). one d.choice) call.nodes)))
run (opened_by n d room) = let told = open_call (record { n = n; d = d; room = room }) in sums told.answer told.sums
run (lot_to st values room) = state (feed_call (record { state = st; lot = values; sums = replicate room (whole 0) })).answer
run (closed_at st) = state (close_answer st)
run (fed_by n d steps) = let h = after (opened_in n d (replicate 10 (whole 7))) steps in sums (given h.state) h.sums
run (later_sheet n d steps t source) =
    let h = after (opened_in n d (replicate 10 (whole 7))) steps in
    let settings : Settings = record { shortest = off 1; threshold = t; forbidden = []; source = source } in
    let told = fed_call (later_of h settings ample) in
    tree told.answer told.cuts
run (sheet_over st t found) =
    let settings : Settings = record { shortest = off 1; threshold = t; forbidden = []; source = nothing } in
    let told = fed_call (record { state = st; settings = settings; sums = found; records = room; nodes = room; cuts = room }) in
    tree told.answer told.cuts

-- a case and what is to be seen
record Marked : Type 0 where
  case : Case
  seen : Seen

-- M7's deck, and its rows
M7 : String
M7 = "cfg\t8\t1\t1\t4024000000000000\nrow\t0\nrow\t0\nrow\t0\nrow\t0\nrow\t8\nrow\t8\nrow\t8\nrow\t8\n"

halves : List ℕ
halves = 0 ∷ 0 ∷ 0 ∷ 0 ∷ 8 ∷ 8 ∷ 8 ∷ 8 ∷ []

-- a lot of whole numbers
cells : List ℕ → Step
cells l = lot (map whole l)

-- n rows of d columns of which so many cells were taken
taken : ℕ → ℕ → ℕ → State
taken n d count = record { n = n; d = d; count = count }

-- M7's rows in lots: an empty one, and one that ends nowhere in particular; a bad cell, too many cells and an early close among them, which take nothing
lots : List Step
unfolding cells
lots = cells (0 ∷ 0 ∷ 0 ∷ []) ∷ cells [] ∷ lot (whole 8 ∷ nan ∷ []) ∷ cells (0 ∷ 8 ∷ 8 ∷ []) ∷ cells (8 ∷ 8 ∷ 8 ∷ []) ∷ closing ∷ cells (8 ∷ 8 ∷ []) ∷ closing ∷ []

marked : List Marked
unfolding from wild layered hump M7 halves cells taken lots
marked =
    -- M1 [0,10), m=3: 3 to 6
    record { case = allowed_rows (off 3) 0 10 []; seen = rows (given 4) (3 ∷ 4 ∷ 5 ∷ 6 ∷ []) }
    -- M2 m=5: refusal 9
    ∷ record { case = allowed_rows (off 5) 0 10 []; seen = rows (refused 9) [] }
    -- M3 [0,9), m=4: only 4
    ∷ record { case = allowed_rows (off 4) 0 9 []; seen = rows (given 1) (4 ∷ []) }
    -- M4 M1 with (3,5): 3, 6
    ∷ record { case = allowed_rows (off 3) 0 10 (3 ∷ 5 ∷ []); seen = rows (given 2) (3 ∷ 6 ∷ []) }
    -- M5 M1 with (0,9): refusal 10
    ∷ record { case = allowed_rows (off 3) 0 10 (0 ∷ 9 ∷ []); seen = rows (refused 10) [] }
    -- M6 rows 0,0,8,0,0, m=1: gains at 2 and 3 both 256/30 rounded; 2 wins
    ∷ record { case = gain_at (0 ∷ 0 ∷ 8 ∷ 0 ∷ 0 ∷ []) 0 5 2; seen = gain (given (whole 256 ⊘ whole 30)) }
    ∷ record { case = gain_at (0 ∷ 0 ∷ 8 ∷ 0 ∷ 0 ∷ []) 0 5 3; seen = gain (given (of_bits binary64 0x4021_1111_1111_1111)) }
    ∷ record { case = best_split (0 ∷ 0 ∷ 8 ∷ 0 ∷ 0 ∷ []) (off 1); seen = split (given (record { split = 2; gain = whole 256 ⊘ whole 30 })) }
    -- M7 the program's case
    ∷ record {
      case = sheet_of M7;
      seen = text (bytes "cuts\t1\ncut\t4\t4060000000000000\t0\t8\tdirect\nnodes\t3\n");
    }
    -- M8 five zero rows, m=1, threshold -1: cuts 1,2,3, 7 nodes
    ∷ record { case = cuts_of (replicate 5 0) (off 1) (fin true 1 (pos 0)) nothing; seen = tree (given (record { nodes = 7; records = 3; cuts = 3; stored = 0 })) (1 ∷ 2 ∷ 3 ∷ []) }
    -- M9 rows 0,1,3,7, [0,4), split 2: counts 1,1,0,1 of k=2
    ∷ record {
      case = counts_at (map whole (0 ∷ 1 ∷ 3 ∷ 7 ∷ [])) 0 4 2;
      seen = predicted (1 ∷ 1 ∷ 0 ∷ 1 ∷ []) ((whole 1 ⊘ whole 2) ∷ (whole 1 ⊘ whole 2) ∷ (whole 0 ⊘ whole 2) ∷ (whole 1 ⊘ whole 2) ∷ []);
    }
    -- M10 deltas 1,0,-1, base 0, m=1, maximum 1, permutations 210, 012, 102: counter 3, p = 0.75
    ∷ record {
      case = permuted (fin false 1 (pos 0) ∷ fin false 0 (pos 0) ∷ fin true 1 (pos 0) ∷ []) (fin false 0 (pos 0)) (off 1) (fin false 1 (pos 0)) 3 (2 ∷ 1 ∷ 0 ∷ 0 ∷ 1 ∷ 2 ∷ 1 ∷ 0 ∷ 2 ∷ []);
      seen = tested (given (record { counted = 3; p = fin false 3 (negsuc 1); significant = false }));
    }
    -- M11 n=20, v=0.5: [0,10) [5,15) [10,20)
    ∷ record { case = seeded_by 20 (fin false 1 (negsuc 0)); seen = segments (from 0 10 ∷ from 5 15 ∷ from 10 20 ∷ []) }
    -- v = 0.25: starts 0, 2, 5, 7, 10, 12, 15, length 5
    ∷ record {
      case = seeded_by 20 (fin false 1 (negsuc 1));
      seen = segments (from 0 5 ∷ from 2 7 ∷ from 5 10 ∷ from 7 12 ∷ from 10 15 ∷ from 12 17 ∷ from 15 20 ∷ []);
    }
    -- r = 0.07, n = 100 gives 8
    ∷ record { case = length_of (of_bits binary64 0x3fb1_eb85_1eb8_51ec) 100; seen = least (given 8) }
    -- for the slips: sums start at row 0, "so a late segment's bits depend on earlier rows": after 2^53 the 1 is lost, and [1,4) has no gain at 2
    ∷ record { case = gain_at (9007199254740992 ∷ 1 ∷ 0 ∷ 0 ∷ []) 1 4 2; seen = gain (given (whole 0)) }
    -- and an empty forbidden list is not the same as none: M1's rows
    ∷ record { case = guesses_of (off 3) 0 10 (some []); seen = guessed (given (4 ∷ 5 ∷ 6 ∷ [])) }
    ∷ record { case = guesses_of (off 3) 0 10 none; seen = guessed (given (5 ∷ [])) }
    -- a reading is its own neighbour: rows 5,5,9, [0,3), split 1. The second row's order is 0,1,2, and without itself 0,2: its one neighbour is the first row.
    -- Without its first it would be 1,2, and the row would count itself
    ∷ record { case = counts_at (map whole (5 ∷ 5 ∷ 9 ∷ [])) 0 3 1; seen = predicted (1 ∷ 0 ∷ 0 ∷ []) (map whole (1 ∷ 0 ∷ 0 ∷ [])) }
    -- the same with 1e-200 and 0, whose computed distance is 0
    ∷ record { case = counts_at (of_bits binary64 0x1668_7e92_154e_f7ac ∷ whole 0 ∷ whole 9 ∷ []) 0 3 1; seen = predicted (1 ∷ 0 ∷ 0 ∷ []) (map whole (1 ∷ 0 ∷ 0 ∷ [])) }
    -- and in [1,3) of 5,5,9, where the equal row is none of the segment's: each row has the other one
    ∷ record { case = counts_at (map whole (5 ∷ 5 ∷ 9 ∷ [])) 1 3 2; seen = predicted (1 ∷ 0 ∷ []) (map whole (1 ∷ 0 ∷ [])) }
    -- M2 with the closed end: row 5
    ∷ record { case = allowed_rows (on 5) 0 10 []; seen = rows (given 1) (5 ∷ []) }
    -- and one row fewer: refusal 9
    ∷ record { case = allowed_rows (on 5) 0 9 []; seen = rows (refused 9) [] }
    -- two rows, m=1: "equal guesses both stay"; with a list, each only if above the last kept
    ∷ record { case = guesses_of (on 1) 4 6 none; seen = guessed (given (5 ∷ 5 ∷ [])) }
    ∷ record { case = guesses_of (on 1) 4 6 (some []); seen = guessed (given (5 ∷ [])) }
    -- four zero rows, m=1, threshold -1: cuts 1,2,3, 7 nodes, the last gap 1
    ∷ record { case = cuts_of (replicate 4 0) (on 1) (fin true 1 (pos 0)) nothing; seen = tree (given (record { nodes = 7; records = 3; cuts = 3; stored = 0 })) (1 ∷ 2 ∷ 3 ∷ []) }
    -- L = 2m tests one sum: of 1, 0 and of 0, 1 the first is 1, once
    ∷ record {
      case = permuted (fin false 1 (pos 0) ∷ fin false 0 (pos 0) ∷ []) (fin false 0 (pos 0)) (on 1) (fin false 1 (pos 0)) 2 (0 ∷ 1 ∷ 1 ∷ 0 ∷ []);
      seen = tested (given (record { counted = 2; p = whole 2 ⊘ whole 3; significant = false }));
    }
    -- draws of ten rows: those passed over and those that are refused, as [3,5), are not stored; those that answer are, in order, until W stand
    ∷ record { case = stored_by (replicate 10 0) (wild (4 ∷ 4 ∷ 6 ∷ 2 ∷ 3 ∷ 5 ∷ 2 ∷ 9 ∷ 0 ∷ 4 ∷ 0 ∷ 10 ∷ []) 2); seen = records (given 2) (from 2 9 ∷ from 0 4 ∷ []) }
    -- or the list ends; a draw twice is stored twice
    ∷ record { case = stored_by (replicate 10 0) (wild (0 ∷ 4 ∷ 3 ∷ 5 ∷ 0 ∷ 4 ∷ []) 9); seen = records (given 2) (from 0 4 ∷ from 0 4 ∷ []) }
    ∷ record { case = stored_by (replicate 10 0) (wild (0 ∷ 4 ∷ []) 0); seen = records (given 0) [] }
    -- a search whose gains are all NaN answers: 2^1023 three times
    ∷ record { case = stored_by (replicate 3 (2 ^ 1023)) (wild (0 ∷ 3 ∷ []) 1); seen = records (given 1) (from 0 3 ∷ []) }
    -- 5: an odd list. 6: layers and draws; W above 4,096, without draws too
    ∷ record { case = stored_by (replicate 10 0) (wild (0 ∷ 4 ∷ 6 ∷ []) 1); seen = records (refused 5) [] }
    ∷ record { case = stored_by (replicate 10 0) (record { layers = fin false 1 (negsuc 0) ∷ []; draws = 0 ∷ 4 ∷ []; W = 1 }); seen = records (refused 6) [] }
    ∷ record { case = stored_by (replicate 10 0) (wild [] 4097); seen = records (refused 6) [] }
    -- 7: T is W, before 8; without draws W asks no room
    ∷ record { case = stored_by (replicate 10 0) (wild (0 ∷ 11 ∷ []) 65); seen = records (refused 7) [] }
    ∷ record { case = stored_by (replicate 10 0) (wild [] 65); seen = records (given 0) [] }
    -- 8: a stop past n, where the draw would be passed over or never reached too
    ∷ record { case = stored_by (replicate 10 0) (wild (11 ∷ 11 ∷ []) 1); seen = records (refused 8) [] }
    ∷ record { case = stored_by (replicate 10 0) (wild (0 ∷ 4 ∷ 0 ∷ 11 ∷ []) 1); seen = records (refused 8) [] }
    -- a tree that a draw decides: [0,8) by itself has gain 32, at 4; [0,6) inside it 256/3, at 4; then [4,8) has 64, at 6
    ∷ record {
      case = cuts_of (0 ∷ 0 ∷ 0 ∷ 0 ∷ 8 ∷ 8 ∷ 0 ∷ 0 ∷ []) (off 1) (whole 50) (wild (0 ∷ 6 ∷ []) 1);
      seen = tree (given (record { nodes = 5; records = 4; cuts = 2; stored = 1 })) (4 ∷ 6 ∷ []);
    }
    ∷ record {
      case = cuts_of (0 ∷ 0 ∷ 0 ∷ 0 ∷ 8 ∷ 8 ∷ 0 ∷ 0 ∷ []) (off 1) (whole 50) nothing;
      seen = tree (given (record { nodes = 1; records = 1; cuts = 0; stored = 0 })) [];
    }
    -- why, of rows 0,0,0,0,8,8,8,8, m=1, threshold 10, which is cut at 4: row 4 is the cut of the whole run, though it is the first row of [4,8) too
    ∷ record { case = why_of_row halves (off 1) (whole 10) [] nothing 4; seen = why (given (cut (from 0 8) direct)) }
    -- the others by the uncut segment that holds them: at its ends too near, else with their gain there, which is 0
    ∷ record { case = why_of_row halves (off 1) (whole 10) [] nothing 0; seen = why (given (too_near (from 0 4))) }
    ∷ record { case = why_of_row halves (off 1) (whole 10) [] nothing 3; seen = why (given (too_near (from 0 4))) }
    ∷ record { case = why_of_row halves (off 1) (whole 10) [] nothing 7; seen = why (given (too_near (from 4 8))) }
    ∷ record { case = why_of_row halves (off 1) (whole 10) [] nothing 2; seen = why (given (not_above (whole 0) (from 0 4))) }
    -- with the closed end row 7 is not too near
    ∷ record { case = why_of_row halves (on 1) (whole 10) [] nothing 7; seen = why (given (not_above (whole 0) (from 4 8))) }
    -- barred, by the first listed pair that bars it; too near comes first
    ∷ record { case = why_of_row halves (off 1) (whole 10) (5 ∷ 6 ∷ 4 ∷ 7 ∷ []) nothing 6; seen = why (given (barred 5 6 (from 4 8))) }
    ∷ record { case = why_of_row halves (off 1) (whole 10) (4 ∷ 7 ∷ 5 ∷ 6 ∷ []) nothing 6; seen = why (given (barred 4 7 (from 4 8))) }
    ∷ record { case = why_of_row halves (off 1) (whole 10) (4 ∷ 7 ∷ []) nothing 7; seen = why (given (too_near (from 4 8))) }
    -- no number: 2^1023 three times
    ∷ record { case = why_of_row (replicate 3 (2 ^ 1023)) (off 1) (whole 10) [] nothing 1; seen = why (given (no_number (from 0 3))) }
    -- a cut by a draw's record, that of [0,6), is told of the reached segment
    ∷ record { case = why_of_row (0 ∷ 0 ∷ 0 ∷ 0 ∷ 8 ∷ 8 ∷ 0 ∷ 0 ∷ []) (off 1) (whole 50) [] (wild (0 ∷ 6 ∷ []) 1) 4; seen = why (given (cut (from 0 8) (draw 0))) }
    -- 8: a row at n. 3 comes before
    ∷ record { case = why_of_row halves (off 1) (whole 10) [] nothing 8; seen = why (refused 8) }
    ∷ record { case = why_of_row halves (off 1) nan [] nothing 8; seen = why (refused 3) }
    -- as the program writes it
    ∷ record { case = line_of 4 M7; seen = text (bytes "cut\t4\t0\t8\tdirect\n") }
    ∷ record { case = line_of 2 M7; seen = text (bytes "below\t2\t0000000000000000\t0\t4\n") }
    ∷ record { case = line_of 8 M7; seen = text (bytes "refused\t8\n") }
    -- origins: a draw's is its place among all pairs, [4,4), [6,2) and [3,5) too, which leave no record
    ∷ record { case = origins_by (replicate 10 0) (wild (4 ∷ 4 ∷ 6 ∷ 2 ∷ 3 ∷ 5 ∷ 2 ∷ 9 ∷ 0 ∷ 4 ∷ 0 ∷ 10 ∷ []) 2); seen = origins (draw 3 ∷ draw 4 ∷ []) }
    -- a layer's is its number, from 1: three segments each
    ∷ record { case = origins_by (replicate 8 0) layered; seen = origins (layer 1 ∷ layer 1 ∷ layer 1 ∷ layer 2 ∷ layer 2 ∷ layer 2 ∷ []) }
    -- a cut by the second layer's [0,6), as 85.33 is more than the first layer's 64; by a draw behind one that is passed over; by the segment itself
    ∷ record { case = origin_told layered 4 25; seen = told (given (cut (from 0 8) (layer 2))) (bytes "layer 2") }
    ∷ record { case = origin_told (wild (6 ∷ 6 ∷ 0 ∷ 6 ∷ []) 1) 4 25; seen = told (given (cut (from 0 8) (draw 1))) (bytes "draw 1") }
    ∷ record { case = origin_told (wild (6 ∷ 6 ∷ 0 ∷ 6 ∷ []) 1) 6 25; seen = told (given (cut (from 4 8) direct)) (bytes "direct") }
    -- of its tree's records the stored one comes first; the choices of the whole run, of [0,4) and of [4,8)
    ∷ record { case = origins_in (wild (6 ∷ 6 ∷ 0 ∷ 6 ∷ []) 1); seen = in_tree (draw 1 ∷ direct ∷ direct ∷ direct ∷ []) (draw 1 ∷ direct ∷ direct ∷ []) }
    -- of two draws of one segment the first is told; of a draw and the segment itself, with equal gains, the segment
    ∷ record { case = origin_told (wild (0 ∷ 6 ∷ 0 ∷ 6 ∷ []) 2) 4 25; seen = told (given (cut (from 0 8) (draw 0))) (bytes "draw 0") }
    ∷ record { case = origin_told (wild (0 ∷ 6 ∷ 4 ∷ 8 ∷ []) 2) 6 25; seen = told (given (cut (from 4 8) direct)) (bytes "direct") }
    -- a row that is no cut has no text; 24 bytes are refused for either
    ∷ record { case = origin_told (wild (0 ∷ 6 ∷ []) 1) 5 25; seen = told (given (too_near (from 4 6))) [] }
    ∷ record { case = origin_told (wild (0 ∷ 6 ∷ []) 1) 4 24; seen = told (refused 7) [] }
    ∷ record { case = origin_told (wild (0 ∷ 6 ∷ []) 1) 5 24; seen = told (refused 7) [] }
    -- an opening: the first d sums are 0. 1: 65 columns; 7: (n+1)*d sums, one less, and 1 before it
    ∷ record { case = opened_by 2 3 9; seen = sums (given (taken 2 3 0)) (whole 0 ∷ whole 0 ∷ whole 0 ∷ []) }
    ∷ record { case = opened_by 2 65 0; seen = sums (refused 1) [] }
    ∷ record { case = opened_by 2 3 8; seen = sums (refused 7) [] }
    -- two rows of two columns, a lot ending mid-row: each sum is the cell and the sum two before; what stood behind them stays
    ∷ record {
      case = fed_by 2 2 (cells (1 ∷ []) ∷ cells (2 ∷ 3 ∷ []) ∷ []);
      seen = sums (given (taken 2 2 3)) (map whole (0 ∷ 0 ∷ 1 ∷ 2 ∷ 4 ∷ 7 ∷ 7 ∷ 7 ∷ 7 ∷ 7 ∷ []));
    }
    -- M7's rows: the sums of the whole matrix, and its sheet
    ∷ record { case = fed_by 8 1 lots; seen = sums (given (taken 8 1 8)) (map whole (0 ∷ 0 ∷ 0 ∷ 0 ∷ 0 ∷ 8 ∷ 16 ∷ 24 ∷ 32 ∷ 7 ∷ [])) }
    ∷ record { case = later_sheet 8 1 lots (whole 10) nothing; seen = tree (given (record { nodes = 3; records = 3; cuts = 1; stored = 0 })) (4 ∷ []) }
    ∷ record { case = cuts_of halves (off 1) (whole 10) nothing; seen = tree (given (record { nodes = 3; records = 3; cuts = 1; stored = 0 })) (4 ∷ []) }
    -- the sheet asked for one cell early: 14; with a threshold that is no number 3, and a draw past n 8, come before
    ∷ record { case = later_sheet 8 1 (cells (0 ∷ 0 ∷ 0 ∷ 0 ∷ 8 ∷ 8 ∷ 8 ∷ []) ∷ []) (whole 10) nothing; seen = tree (refused 14) [] }
    ∷ record { case = later_sheet 8 1 [] nan nothing; seen = tree (refused 3) [] }
    ∷ record { case = later_sheet 8 1 [] (whole 10) (wild (0 ∷ 9 ∷ []) 1); seen = tree (refused 8) [] }
    -- a lot's refusals: 1 before 4 before 7 before 13
    ∷ record { case = lot_to (taken 4097 1 0) (nan ∷ []) 0; seen = state (refused 1) }
    ∷ record { case = lot_to (taken 2 2 9) (nan ∷ []) 0; seen = state (refused 4) }
    ∷ record { case = lot_to (taken 2 2 9) (whole 1 ∷ []) 5; seen = state (refused 7) }
    ∷ record { case = lot_to (taken 2 2 3) (whole 1 ∷ whole 1 ∷ []) 6; seen = state (refused 13) }
    ∷ record { case = lot_to (taken 2 2 3) (whole 1 ∷ []) 6; seen = state (given (taken 2 2 4)) }
    -- an empty lot to a run that is full, and to a state with a count past n*d
    ∷ record { case = lot_to (taken 2 2 4) [] 6; seen = state (given (taken 2 2 4)) }
    ∷ record { case = lot_to (taken 2 2 5) [] 6; seen = state (refused 13) }
    -- closing: 1, 13 past n*d, 14 before it; and there is no 4 and no 7, as it takes the state alone
    ∷ record { case = closed_at (taken 0 2 0); seen = state (refused 1) }
    ∷ record { case = closed_at (taken 2 2 5); seen = state (refused 13) }
    ∷ record { case = closed_at (taken 2 2 3); seen = state (refused 14) }
    ∷ record { case = closed_at (taken 2 2 4); seen = state (given (taken 2 2 4)) }
    -- over any sums: a NaN among them is no refusal, and cuts nothing; with a count past n*d 13
    ∷ record { case = sheet_over (taken 2 1 2) (fin true 1 (pos 0)) (replicate 3 nan); seen = tree (given (record { nodes = 1; records = 0; cuts = 0; stored = 0 })) [] }
    ∷ record { case = sheet_over (taken 3 1 3) (fin true 1 (pos 0)) (replicate 4 nan); seen = tree (given (record { nodes = 1; records = 1; cuts = 0; stored = 0 })) [] }
    ∷ record { case = sheet_over (taken 3 1 4) (whole 10) (replicate 4 (whole 0)); seen = tree (refused 13) [] }
    ∷ []

-- M1 to M11, the three rows for the slips, three for equal rows, six for the closed end, thirteen for draws, sixteen for why, eleven for origins and 24 for fed runs
marked_right : map (λ (c : Marked). run c.case) marked ≡ map (λ (c : Marked). c.seen) marked
unfolding run marked open_refusal open_call fed_sums feed_refusal feed_call close_answer handed_on after fed_refusal fed_call origin_text one_more add sub mul div of_int of_bits to_bits lt le is_nan upward select every outside wrong_matrix is_between well_paired wrong_layers wrong_segment wrong_split all_barred wrong_permutations wrong_lengths wrong_deck wrong_pairs nearest_of truncation ceiling minimal_length whole_root is_barred range_size candidates flat_sums prefix_sums term terms inner_gain gain_of better best trials search layer_length layer_count layer_step layer_start layer_stop layer_segments seeded_from layers_total stored pairs_of numbered drawn is_odd both_given any_past stored_records inside choice verdict grow grown records_of node_count nodes cuts sheet difference squares distances insert ordered order_of others neighbours count_of predictions is_permutation add_deltas added reaches exceeds counter length_answer candidates_refusal candidates_call gain_refusal gain_call search_refusal search_call stored_refusal stored_call tree_refusal tree_call predict_refusal predict_call guesses guesses_answer permutation_answer place_of is_near first_barring why_of why_refusal why_call asked_refusal why_program bytes same parts value_of number cell cells_of hex_value_of threshold decimal_of hex_of line read_line read_lines read_input deck_refusal cut_lines sheet_text program flatten
marked_right = refl

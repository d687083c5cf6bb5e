-- The program: the whole input's bytes to the whole output's bytes.
use Rattle.std.specs.Prelude.{◌≡◌, Bool, cond, ◌||◌, not, List, [], ◌∷◌, ◌++◌, map, ℕ, zero, suc, ◌+◌, ◌*◌, ltb, leb, eqb, ℤ, pos, negsuc, length}
use Rattle.std.proofs.Math.Option.{Option, none, some}
use Rattle.std.specs.Float.{binary64}
use Rattle.std.specs.Float.Ieee.{of_int, of_bits, to_bits}
use Rattle.scope.specs.Lists.{every}
use Rattle.scope.specs.Asked.{Matrix, off, nothing, Settings}
use Rattle.scope.specs.Refusals.{Test, test, first_of, outside, most_columns, well_paired, no2, no3}
use Rattle.scope.specs.Origin.{origin_text}
use Rattle.scope.specs.Grid.{Record}
use Rattle.scope.specs.Tree.{Run, Tree, tree_of, cuts, node_count}
use Rattle.scope.specs.Calls.{run_of}
use Rattle.scope.specs.Text.{bytes, tab, lf, same, parts, number, cells_of, threshold, decimal, hex_of, line}

-- ---- "Lines, fields parted by tabs: `cfg n d m threshold`, `no a b`, `row cells`"
pub data Line : Type 0 where
  cfg_line : ℕ → ℕ → ℕ → ℕ → Line
  no_line : ℕ → ℕ → Line
  row_line : List ℤ → Line
  malformed : Line

abbrev pub cfg_of : Option ℕ → Option ℕ → Option ℕ → Option ℕ → Line
cfg_of none d m t = malformed
cfg_of (some n) none m t = malformed
cfg_of (some n) (some d) none t = malformed
cfg_of (some n) (some d) (some m) none = malformed
cfg_of (some n) (some d) (some m) (some t) = cfg_line n d m t

abbrev pub no_of : Option ℕ → Option ℕ → Line
no_of none b = malformed
no_of (some a) none = malformed
no_of (some a) (some b) = no_line a b

-- "a `row` has 1 to 64 cells"
abbrev pub row_of : Option (List ℤ) → Line
row_of none = malformed
row_of (some cs) = cond (outside 64 (length cs)) malformed (row_line cs)

abbrev pub cfg_fields : List (List ℕ) → Line
cfg_fields [] = malformed
cfg_fields (n ∷ []) = malformed
cfg_fields (n ∷ d ∷ []) = malformed
cfg_fields (n ∷ d ∷ m ∷ []) = malformed
cfg_fields (n ∷ d ∷ m ∷ t ∷ []) = cfg_of (number n) (number d) (number m) (threshold t)
cfg_fields (n ∷ d ∷ m ∷ t ∷ f ∷ fs) = malformed

abbrev pub no_fields : List (List ℕ) → Line
no_fields [] = malformed
no_fields (a ∷ []) = malformed
no_fields (a ∷ b ∷ []) = no_of (number a) (number b)
no_fields (a ∷ b ∷ f ∷ fs) = malformed

-- the fields after the word
abbrev pub by_word : List (List ℕ) → Line
by_word [] = malformed
by_word (w ∷ fs) =
    cond (same w (bytes "cfg")) (cfg_fields fs) (cond (same w (bytes "no")) (no_fields fs) (cond (same w (bytes "row")) (row_of (cells_of fs)) malformed))

-- "A line ends in LF and has at most 1,024 bytes, LF included": a line without its LF
unfoldable pub read_line : List ℕ → Line
read_line l = cond (leb (length l + 1) 1024) (by_word (parts tab l)) malformed

-- ---- "order cfg (once), no, row"; "all cells in order forming the matrix"

-- what the lines give: the threshold by its bits, the forbidden pairs flat, the cells in order
pub record Deck : Type 0 where
  pub n : ℕ
  pub d : ℕ
  pub m : ℕ
  pub threshold : ℕ
  pub forbidden : List ℕ
  pub cells : List ℤ

-- before `cfg`, after it, after a `row`; or malformed, with the first malformed line's number
pub data Reading : Type 0 where
  begun : Reading
  barring : Deck → Reading
  feeding : Deck → Reading
  bad : ℕ → Reading

abbrev pub deck_of : ℕ → ℕ → ℕ → ℕ → Deck
deck_of n d m t = record { n = n; d = d; m = m; threshold = t; forbidden = []; cells = [] }

abbrev pub with_pair : Deck → ℕ → ℕ → Deck
with_pair deck a b =
    record { n = deck.n; d = deck.d; m = deck.m; threshold = deck.threshold; forbidden = deck.forbidden ++ (a ∷ b ∷ []); cells = deck.cells }

abbrev pub with_cells : Deck → List ℤ → Deck
with_cells deck cs =
    record { n = deck.n; d = deck.d; m = deck.m; threshold = deck.threshold; forbidden = deck.forbidden; cells = deck.cells ++ cs }

-- line number k, after those before it
abbrev pub next : ℕ → Reading → Line → Reading
next k (bad j) l = bad j
next k begun (cfg_line n d m t) = barring (deck_of n d m t)
next k begun (no_line a b) = bad k
next k begun (row_line cs) = bad k
next k begun malformed = bad k
next k (barring deck) (cfg_line n d m t) = bad k
next k (barring deck) (no_line a b) = barring (with_pair deck a b)
next k (barring deck) (row_line cs) = feeding (with_cells deck cs)
next k (barring deck) malformed = bad k
next k (feeding deck) (cfg_line n d m t) = bad k
next k (feeding deck) (no_line a b) = bad k
next k (feeding deck) (row_line cs) = feeding (with_cells deck cs)
next k (feeding deck) malformed = bad k

-- the input's end at line number k: what follows the last LF is no line; "empty input is so at line 1"
abbrev pub ended : ℕ → Reading → List ℕ → Reading
ended k (bad j) l = bad j
ended k begun l = bad k
ended k (barring deck) [] = barring deck
ended k (barring deck) (b ∷ bs) = bad k
ended k (feeding deck) [] = feeding deck
ended k (feeding deck) (b ∷ bs) = bad k

-- the parts between LFs, from line number k on
unfoldable pub read_lines : List (List ℕ) → ℕ → Reading → Reading
read_lines [] k r = ended k r []
read_lines (l ∷ []) k r = ended k r l
read_lines (l ∷ p ∷ ps) k r = read_lines (p ∷ ps) (k + 1) (next k r (read_line l))

unfoldable pub read_input : List ℕ → Reading
read_input input = read_lines (parts lf input) 1 begun

-- the input's lines make this deck, with rows or without
pub data Reads (input : List ℕ) (deck : Deck) : Type 0 where
  with_rows : read_input input ≡ feeding deck → Reads input deck
  without_rows : read_input input ≡ barring deck → Reads input deck

-- ---- "n at most 256, n*d at most 2,048, at most 64 forbidden pairs, cells whole -32768 to 32767, no layers; otherwise refusal 1, 4 or 5"
abbrev pub is_reading : ℤ → Bool
is_reading (pos v) = leb v 32767
is_reading (negsuc v) = leb v 32767

unfoldable pub wrong_deck : Deck → Bool
wrong_deck deck =
    outside 256 deck.n || outside most_columns deck.d || ltb 2048 (deck.n * deck.d) || not (eqb (length deck.cells) (deck.n * deck.d))

unfoldable pub wrong_pairs : List ℕ → Bool
wrong_pairs forbidden = ltb (2 * 64) (length forbidden) || not (well_paired forbidden)

-- what the tree is asked for a deck: the end is not closed
abbrev pub deck_matrix : Deck → Matrix
deck_matrix deck = record { cells = map (of_int binary64) deck.cells; n = deck.n; d = deck.d }

abbrev pub deck_settings : Deck → Settings
deck_settings deck = record { shortest = off deck.m; threshold = of_bits binary64 deck.threshold; forbidden = deck.forbidden; source = nothing }

abbrev pub deck_tests : Deck → List Test
deck_tests deck =
    test (wrong_deck deck) 1
    ∷ no2 (deck_settings deck).shortest
    ∷ no3 (deck_settings deck).threshold
    ∷ test (not (every is_reading deck.cells)) 4
    ∷ test (wrong_pairs deck.forbidden) 5
    ∷ []

unfoldable pub deck_refusal : Deck → ℕ
deck_refusal deck = first_of (deck_tests deck)

-- ---- what is written

-- "A `cut` line gives the row, the gain's bits and the chosen record's ends"; its origin "as a sixth field, always `direct` there"
abbrev pub cut_line : Record → List ℕ
cut_line r = line (bytes "cut" ∷ decimal r.split ∷ hex_of 16 (to_bits binary64 r.gain) ∷ decimal r.start ∷ decimal r.stop ∷ origin_text r.origin ∷ [])

unfoldable pub cut_lines : List Record → List ℕ
cut_lines [] = []
cut_lines (r ∷ rs) = cut_line r ++ cut_lines rs

unfoldable pub sheet_text : Tree → List ℕ
sheet_text t = line (bytes "cuts" ∷ decimal (length (cuts t)) ∷ []) ++ cut_lines (cuts t) ++ line (bytes "nodes" ∷ decimal (node_count t) ∷ [])

-- "a refusal writes `refused` and the number"; else the text
abbrev pub or_refused : ℕ → List ℕ → List ℕ
or_refused zero text = text
or_refused (suc k) text = line (bytes "refused" ∷ decimal (suc k) ∷ [])

abbrev pub deck_run : Deck → Run
deck_run deck = run_of (deck_matrix deck) (deck_settings deck)

abbrev pub deck_tree : Deck → Tree
deck_tree deck = tree_of (deck_run deck)

abbrev pub deck_text : Deck → List ℕ
deck_text deck = or_refused (deck_refusal deck) (sheet_text (deck_tree deck))

-- "The first malformed line writes `bad` and its number from 1, before anything else is judged"; else the deck's text
abbrev pub reading_text : (Deck → List ℕ) → Reading → List ℕ
reading_text text (bad k) = line (bytes "bad" ∷ decimal k ∷ [])
reading_text text begun = []
reading_text text (barring deck) = text deck
reading_text text (feeding deck) = text deck

unfoldable pub program : List ℕ → List ℕ
program input = reading_text deck_text (read_input input)

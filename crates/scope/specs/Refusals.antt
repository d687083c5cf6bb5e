-- Refusal numbers, and what a call answers and leaves.
use Rattle.std.specs.Prelude.{Bool, true, false, not, ◌&&◌, ◌||◌, List, [], ◌∷◌, ℕ, zero, suc, ◌-◌, ◌*◌, ltb, leb, eqb, pos, negsuc, length, Float}
use Rattle.std.specs.Float.{fin}
use Rattle.std.specs.Float.Ieee.{lt, le, is_nan}
use Rattle.scope.specs.Floats.{+0, half, is_finite}
use Rattle.scope.specs.Lists.{every}
use Rattle.scope.specs.Asked.{Matrix, Shortest, end_of}

-- ---- "The lowest number that applies is given."

-- a test, and the number that is given where it holds
pub data Test : Type 0 where
  test : Bool → ℕ → Test

-- the number of the first test that holds; 0 if none does
abbrev pub first_of : List Test → ℕ
first_of [] = 0
first_of (test true k ∷ ts) = k
first_of (test false k ∷ ts) = first_of ts

-- "The answer is the number alone."
pub data Answer (A : Type 0) : Type 0 where
  refused : ℕ → Answer A
  given : A → Answer A

abbrev pub unless : {A : Type 0} → ℕ → A → Answer A
unless zero a = given a
unless (suc k) a = refused (suc k)

-- what a call tells to a lent slice: nothing if it refuses, so that the slice stays as it was
abbrev pub told_unless : {A : Type 0} → ℕ → List A → List A
told_unless zero l = l
told_unless (suc k) l = []

-- what a slice holds afterwards where a call changes it past its first entries: as it was, if the call refuses
abbrev pub left_unless : {A : Type 0} → ℕ → List A → List A → List A
left_unless zero before after = after
left_unless (suc k) before after = before

-- ---- Sizes: "n 1 to 4,096 rows; d 1 to 64 columns; m 1 to 4,096; at most 64 layers; kNN n at most 1,024; at most 999 permutations; 1 to 3 curves"
abbrev pub most_rows : ℕ
most_rows = 4096

abbrev pub most_columns : ℕ
most_columns = 64

abbrev pub most_length : ℕ
most_length = 4096

abbrev pub most_layers : ℕ
most_layers = 64

abbrev pub most_neighbours : ℕ
most_neighbours = 1024

abbrev pub most_permutations : ℕ
most_permutations = 999

abbrev pub most_curves : ℕ
most_curves = 3

-- v is not one of 1 to most
unfoldable pub outside : ℕ → ℕ → Bool
outside most v = ltb v 1 || ltb most v

-- ---- 1: "n or d outside its size, or length not n*d"
abbrev pub wrong_sizes : ℕ → ℕ → ℕ → Bool
wrong_sizes most n d = outside most n || outside most_columns d

unfoldable pub wrong_matrix : ℕ → List Float → ℕ → ℕ → Bool
wrong_matrix most cells n d = wrong_sizes most n d || not (eqb (length cells) (n * d))

abbrev pub no1 : ℕ → Matrix → Test
no1 most x = test (wrong_matrix most x.cells x.n x.d) 1

-- where there is no matrix, n alone
abbrev pub no1_rows : ℕ → Test
no1_rows n = test (outside most_rows n) 1

-- or n and d
abbrev pub no1_sizes : ℕ → ℕ → Test
no1_sizes n d = test (wrong_sizes most_rows n d) 1

-- ---- 2: "m outside its size; or a relative length not strictly between 0 and 0.5 (NaN included)"
abbrev pub no2 : Shortest → Test
no2 s = test (outside most_length s.m) 2

-- strictly between
unfoldable pub is_between : Float → Float → Float → Bool
is_between low high x = lt low x && lt x high

abbrev pub no2_relative : Float → Test
no2_relative r = test (not (is_between +0 half r)) 2

-- ---- 3: "threshold NaN; or alpha not strictly between 0 and 1"
abbrev pub no3 : Float → Test
no3 threshold = test (is_nan threshold) 3

abbrev pub no3_alpha : Float → Test
no3_alpha alpha = test (not (is_between +0 (fin false 1 (pos 0)) alpha)) 3

-- ---- 4: "an infinite or NaN cell, likelihood, delta, base or observed maximum"
abbrev pub no4 : List Float → Test
no4 values = test (not (every is_finite values)) 4

-- ---- 5: "forbidden list of odd length, or a pair with a > b"
unfoldable pub well_paired : List ℕ → Bool
well_paired [] = true
well_paired (a ∷ []) = false
well_paired (a ∷ b ∷ ps) = leb a b && well_paired ps

abbrev pub no5 : List ℕ → Test
no5 forbidden = test (not (well_paired forbidden)) 5

-- ---- 6: "more than 64 layers, or a layer value not in [1/4096, 1)"
abbrev pub is_layer : Float → Bool
is_layer v = le (fin false 1 (negsuc 11)) v && lt v (fin false 1 (pos 0))

unfoldable pub wrong_layers : List Float → Bool
wrong_layers layers = ltb most_layers (length layers) || not (every is_layer layers)

abbrev pub no6 : List Float → Test
no6 layers = test (wrong_layers layers) 6

-- ---- 7: "a lent working or output slice shorter than stated here"
abbrev pub no7 : ℕ → ℕ → Test
no7 needed room = test (ltb room needed) 7

-- ---- 8: "start > stop or stop > n; a given split (gain, kNN) below start or above stop; for kNN also start = stop"
unfoldable pub wrong_segment : ℕ → ℕ → ℕ → Bool
wrong_segment n start stop = ltb stop start || ltb n stop

abbrev pub no8 : ℕ → ℕ → ℕ → Test
no8 n start stop = test (wrong_segment n start stop) 8

unfoldable pub wrong_split : ℕ → ℕ → ℕ → Bool
wrong_split start stop split = ltb split start || ltb stop split

abbrev pub no8_split : ℕ → ℕ → ℕ → Test
no8_split start stop split = test (wrong_split start stop split) 8

abbrev pub no8_empty : ℕ → ℕ → Test
no8_empty start stop = test (eqb start stop) 8

-- ---- 9: "2*m >= stop-start", with the closed end "2*m > stop-start"; permutation counts, "for 2*m >= L": [0, L)
abbrev pub no9 : Shortest → ℕ → ℕ → Test
no9 s start stop = test (leb (end_of s stop - start) (2 * s.m)) 9

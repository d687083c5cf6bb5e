-- The program's text: fields, numbers, cells and thresholds, read and written. A text is a list of bytes.
use Rattle.std.specs.Prelude.{Bool, true, false, cond, ◌&&◌, ◌||◌, not, List, [], ◌∷◌, ◌++◌, ℕ, zero, suc, ◌+◌, ◌-◌, ◌*◌, ◌/◌, ◌%◌, ltb, leb, eqb, ℤ, pos, negsuc, length}
use Rattle.std.proofs.Math.Option.{Option, none, some}
use Prim.Native.String.{String}
use Prim.Native.Char.{code}
use Rattle.scope.specs.Lists.{every}

-- the bytes of a quoted text
unfoldable pub bytes : String → List ℕ
bytes String.[] = []
bytes (String.◌∷◌ c s) = code c ∷ bytes s

abbrev pub tab : ℕ
tab = 9

abbrev pub lf : ℕ
lf = 10

abbrev pub minus : ℕ
minus = 45

-- whether two texts are the same
unfoldable pub same : List ℕ → List ℕ → Bool
same [] [] = true
same [] (c ∷ cs) = false
same (b ∷ bs) [] = false
same (b ∷ bs) (c ∷ cs) = eqb b c && same bs cs

-- the parts between the bytes z: "fields parted by tabs", lines ended by LF
abbrev pub parts_on : Bool → ℕ → List (List ℕ) → List (List ℕ)
parts_on true b ps = [] ∷ ps
parts_on false b [] = (b ∷ []) ∷ []
parts_on false b (p ∷ ps) = (b ∷ p) ∷ ps

unfoldable pub parts : ℕ → List ℕ → List (List ℕ)
parts z [] = [] ∷ []
parts z (b ∷ bs) = parts_on (eqb b z) b (parts z bs)

-- ---- "numbers have at most 10 digits, no leading zero or plus"
abbrev pub is_digit : ℕ → Bool
is_digit b = leb 48 b && leb b 57

abbrev pub has_leading_zero : List ℕ → Bool
has_leading_zero [] = false
has_leading_zero (b ∷ []) = false
has_leading_zero (b ∷ c ∷ bs) = eqb b 48

abbrev pub is_number : List ℕ → Bool
is_number f = leb 1 (length f) && leb (length f) 10 && every is_digit f && not (has_leading_zero f)

-- the value of digits, after v
unfoldable pub value_of : ℕ → List ℕ → ℕ
value_of v [] = v
value_of v (b ∷ bs) = value_of (v * 10 + (b - 48)) bs

unfoldable pub number : List ℕ → Option ℕ
number f = cond (is_number f) (some (value_of 0 f)) none

-- ---- "a minus only on a cell that isn't 0"
abbrev pub positive : Option ℕ → Option ℤ
positive none = none
positive (some v) = some (pos v)

abbrev pub negative : Option ℕ → Option ℤ
negative none = none
negative (some zero) = none
negative (some (suc v)) = some (negsuc v)

unfoldable pub cell : List ℕ → Option ℤ
cell [] = none
cell (b ∷ bs) = cond (eqb b minus) (negative (number bs)) (positive (number (b ∷ bs)))

-- all are cells
abbrev pub cons_some : Option ℤ → Option (List ℤ) → Option (List ℤ)
cons_some none cs = none
cons_some (some c) none = none
cons_some (some c) (some cs) = some (c ∷ cs)

unfoldable pub cells_of : List (List ℕ) → Option (List ℤ)
cells_of [] = some []
cells_of (f ∷ fs) = cons_some (cell f) (cells_of fs)

-- ---- "the threshold is 16 lower-case hex digits": its bits
abbrev pub is_hex_digit : ℕ → Bool
is_hex_digit b = is_digit b || (leb 97 b && leb b 102)

abbrev pub hex_value : ℕ → ℕ
hex_value b = cond (is_digit b) (b - 48) (b - 87)

unfoldable pub hex_value_of : ℕ → List ℕ → ℕ
hex_value_of v [] = v
hex_value_of v (b ∷ bs) = hex_value_of (v * 16 + hex_value b) bs

unfoldable pub threshold : List ℕ → Option ℕ
threshold f = cond (eqb (length f) 16 && every is_hex_digit f) (some (hex_value_of 0 f)) none

-- ---- written: a number in decimal, bits as 16 hex digits, a line of fields
abbrev pub digit : ℕ → ℕ
digit v = cond (ltb v 10) (48 + v) (87 + v)

-- the last k decimal digits at most, without leading zeros
unfoldable pub decimal_of : ℕ → ℕ → List ℕ
decimal_of zero v = []
decimal_of (suc k) v = let front = decimal_of k (v / 10) in cond (ltb v 10) (digit v ∷ []) (front ++ (digit (v % 10) ∷ []))

-- no number that is written has more than 20 digits
abbrev pub decimal : ℕ → List ℕ
decimal v = decimal_of 20 v

-- the last k hex digits
unfoldable pub hex_of : ℕ → ℕ → List ℕ
hex_of zero b = []
hex_of (suc k) b = hex_of k (b / 16) ++ (digit (b % 16) ∷ [])

-- fields parted by tabs, and the LF
unfoldable pub line : List (List ℕ) → List ℕ
line [] = lf ∷ []
line (f ∷ []) = f ++ (lf ∷ [])
line (f ∷ g ∷ fs) = f ++ (tab ∷ line (g ∷ fs))

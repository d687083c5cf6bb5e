-- A field byte by byte: what the code keeps of it.
use Rattle.std.specs.Prelude.{cond, ℕ, ◌+◌, ◌-◌, ◌*◌, ◌&&◌, ◌||◌, leb, eqb, ℤ, Option, Some, None}
use Rattle.std.proofs.Math.Option.{none, some}
use Rattle.std.proofs.Math.Option as maybe
use Rattle.scope.specs.Text.{is_digit, positive, negative}
use Rattle.token.specs.declared.Word.{Word}
use Rattle.token.specs.declared.Word.TheVariants.{Empty, C, Cf, Cfg, N, No, R, Ro, Row, Other}
use Rattle.token.specs.declared.Digits.{Digits}
use Rattle.token.specs.declared.Digits.TheVariants.{Value, Wrong}
use Rattle.token.specs.declared.Cell.{Cell}
use Rattle.token.specs.declared.Cell.TheVariants.{Plain, Minus}
use Rattle.token.specs.declared.Places.{Places}
use Rattle.token.specs.declared.Token.{Token}

-- ---- the words `cfg`, `no` and `row`
abbrev pub first_letter : ℕ → Word
first_letter b = cond (eqb b 99) C (cond (eqb b 110) N (cond (eqb b 114) R Other))

abbrev pub awaited : ℕ → ℕ → Word → Word
awaited b letter next = cond (eqb b letter) next Other

abbrev pub word_more : Word → ℕ → Word
word_more Empty b = first_letter b
word_more C b = awaited b 102 Cf
word_more Cf b = awaited b 103 Cfg
word_more Cfg b = Other
word_more N b = awaited b 111 No
word_more No b = Other
word_more R b = awaited b 111 Ro
word_more Ro b = awaited b 119 Row
word_more Row b = Other
word_more Other b = Other

-- ---- numbers: a value of 0 is a leading zero, and one of 1,000,000,000 or more has ten digits
abbrev pub value_more : ℕ → ℕ → Digits
value_more v d = cond (eqb v 0 || leb 1000000000 v) Wrong (Value (v * 10 + d))

abbrev pub digit_of : Digits → ℕ → Digits
digit_of Digits.Empty d = Value d
digit_of (Value v) d = value_more v d
digit_of Wrong d = Wrong

abbrev pub digit_more : Digits → ℕ → Digits
digit_more g b = cond (is_digit b) (digit_of g (b - 48)) Wrong

-- ---- cells: a number, or a minus and a number
abbrev pub first_of_cell : ℕ → Cell
first_of_cell b = cond (eqb b 45) (Minus Digits.Empty) (Plain (digit_more Digits.Empty b))

abbrev pub cell_more : Cell → ℕ → Cell
cell_more Cell.Empty b = first_of_cell b
cell_more (Plain g) b = Plain (digit_more g b)
cell_more (Minus g) b = Minus (digit_more g b)

-- ---- thresholds
abbrev pub hex_digit : ℕ → Option ℕ
hex_digit b = cond (is_digit b) (Some (b - 48)) (cond (leb 97 b && leb b 102) (Some (b - 97 + 10)) None)

abbrev pub place_more : Places → ℕ → Option Places
place_more p d = cond (leb 16 p.count || leb 0x1000_0000_0000_0000 p.bits) None (Some (record { count = p.count + 1; bits = p.bits * 16 + d }))

-- a digit, or none, after the places so far
abbrev pub place_after : Places → Option ℕ → Option Places
place_after p None = None
place_after p (Some d) = place_more p d

abbrev pub hex_more : Option Places → ℕ → Option Places
hex_more None b = None
hex_more (Some p) b = place_after p (hex_digit b)

-- ---- a field as all three
abbrev pub fresh : Token
fresh = record { word = Empty; cell = Cell.Empty; hex = Some (record { count = 0; bits = 0 }) }

abbrev pub token_more : Token → ℕ → Token
token_more t b = record { word = word_more t.word b; cell = cell_more t.cell b; hex = hex_more t.hex b }

-- ---- what a walked field is: a number, which has no minus; a cell; a threshold
abbrev pub as_plain : Cell → Digits
as_plain Cell.Empty = Digits.Empty
as_plain (Plain g) = g
as_plain (Minus g) = Wrong

abbrev pub as_number : Digits → maybe.Option ℕ
as_number Digits.Empty = none
as_number (Value v) = some v
as_number Wrong = none

abbrev pub as_cell : Cell → maybe.Option ℤ
as_cell Cell.Empty = none
as_cell (Plain g) = positive (as_number g)
as_cell (Minus g) = negative (as_number g)

abbrev pub as_bits : Option Places → maybe.Option ℕ
as_bits None = none
as_bits (Some p) = cond (eqb p.count 16) (some p.bits) none

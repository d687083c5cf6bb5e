-- The program that answers why: the row that it is asked, the whole input's bytes, and the whole output's bytes.
use Rattle.std.specs.Prelude.{List, [], ◌∷◌, ◌++◌, ℕ}
use Rattle.std.proofs.Math.Option.{Option, none}
use Rattle.std.specs.Float.{binary64}
use Rattle.std.specs.Float.Ieee.{to_bits}
use Rattle.scope.specs.Refusals.{Test, first_of}
use Rattle.scope.specs.Origin.{origin_text}
use Rattle.scope.specs.Layers.{Segment}
use Rattle.scope.specs.Text.{bytes, number, decimal, hex_of, line}
use Rattle.scope.specs.Program.{Deck, deck_tests, deck_run, or_refused, reading_text, read_input}
use Rattle.scope.specs.Why.{Why, cut, too_near, barred, no_number, not_above, why_of, no8_row}

-- the row is the one argument, a number as decks have it: 1 to 10 digits, no leading zero, no sign
abbrev pub row_asked : List (List ℕ) → Option ℕ
row_asked [] = none
row_asked (a ∷ []) = number a
row_asked (a ∷ b ∷ more) = none

-- the segment's ends
abbrev pub ends : Segment → List (List ℕ)
ends g = decimal g.start ∷ decimal g.stop ∷ []

-- the reason's word, the row, what goes with the reason, and the segment's ends; for a cut then its origin
abbrev pub why_line : ℕ → Why → List ℕ
why_line x (cut g o) = line (bytes "cut" ∷ decimal x ∷ ends g ++ (origin_text o ∷ []))
why_line x (too_near g) = line (bytes "near" ∷ decimal x ∷ ends g)
why_line x (barred a b g) = line (bytes "barred" ∷ decimal x ∷ decimal a ∷ decimal b ∷ ends g)
why_line x (no_number g) = line (bytes "nan" ∷ decimal x ∷ ends g)
why_line x (not_above gain g) = line (bytes "below" ∷ decimal x ∷ hex_of 16 (to_bits binary64 gain) ∷ ends g)

-- a deck is refused as for its sheet, and then by 8 for a row at or past n
abbrev pub asked_tests : Deck → ℕ → List Test
asked_tests deck x = deck_tests deck ++ (no8_row deck.n x ∷ [])

unfoldable pub asked_refusal : Deck → ℕ → ℕ
asked_refusal deck x = first_of (asked_tests deck x)

abbrev pub asked_text : ℕ → Deck → List ℕ
asked_text x deck = or_refused (asked_refusal deck x) (why_line x (why_of (deck_run deck) x))

unfoldable pub why_program : ℕ → List ℕ → List ℕ
why_program x input = reading_text (asked_text x) (read_input input)

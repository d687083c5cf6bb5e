-- A line between two fields. Assumes nothing.
use Rattle.std.proofs.Common.{◌≡◌, ℕ, List, [], ◌∷◌, refl, ap, ◌∙◌}
use Rattle.std.specs.List.{fold}
use lib.Ieee.{Float}
use Rattle.scope.specs.Text.{number, cell, threshold}
use Rattle.token.specs.Walk.{word_more, cell_more, hex_more, fresh, token_more}
use Rattle.token.specs.declared.Token.{Token}
use Rattle.token.specs.declared.Word.TheVariants.{Empty}
use Rattle.token.proofs.Numbers.{walked_cell, walked_plain}
use Rattle.token.proofs.Thresholds.{walked_threshold}
use Rattle.line.specs.Walk.{Reads, reads, ended, stored_cells, stored_forbidden}
use Rattle.line.specs.declared.Place.{Place}
use Rattle.line.specs.declared.Given.{Given}
use Rattle.line.specs.declared.Ended.{Ended}

-- ---- a field's bytes
token_walk : (f : List ℕ) (t : Token) → fold token_more t f ≡ record { word = fold word_more t.word f; cell = fold cell_more t.cell f; hex = fold hex_more t.hex f }
token_walk [] t = refl
token_walk (b ∷ f) t = token_walk f (token_more t b)

-- what a field is
abbrev pub field_reads : List ℕ → Reads
field_reads f = record { word = fold word_more Empty f; number = number f; cell = cell f; bits = threshold f }

pub token_reads : (f : List ℕ) → reads (fold token_more fresh f) ≡ field_reads f
token_reads f = ap reads (token_walk f fresh) ∙ rw (walked_plain f, walked_cell f, walked_threshold f)

-- ---- between two fields of a line: what comes next, what is given, what is held
pub record Head : Type 0 where
  pub place : Place
  pub given : Given
  pub cells : List Float
  pub forbidden : List ℕ

abbrev pub head : Place → Given → List Float → List ℕ → Head
head p g a q = record { place = p; given = g; cells = a; forbidden = q }

abbrev pub head_on : Head → Ended → Head
head_on h e = head e.place e.given (stored_cells e.event h.cells) (stored_forbidden e.event h.forbidden)

-- one field more
abbrev pub field : Head → List ℕ → Head
field h f = head_on h (ended h.place h.given (field_reads f))

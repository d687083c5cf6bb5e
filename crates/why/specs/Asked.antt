-- What is told for the row that the argument asks, by the definitions' rule.
use Rattle.std.specs.Prelude.{◌≡◌, List, [], ◌∷◌, ℕ, ◌≤◌, length, take, Option, None, Some, Result, IfOk}
use Rattle.std.proofs.Math.Option.{some, none}
use Rattle.scope.specs.WhyText.{row_asked}
use Rattle.demand.specs.Printed.{AnswersWhy}
use Rattle.reading.specs.declared.Unreadable.{Unreadable}
use Rattle.reading.specs.Told.{Told, ToldOf}

-- a text of n bytes, one at least, for the row that the argument asks, where the input could be read
pub record TextFor (argument kept out : List ℕ) (r : Result ℕ Unreadable) : Type 0 where
  pub row : ℕ
  pub asks : row_asked (argument ∷ []) ≡ some row
  pub told : IfOk r (λ n. Told (AnswersWhy row) kept (take n out))
  pub least : IfOk r (λ n. 1 ≤ n)
  pub most : IfOk r (λ n. n ≤ length out)

-- no row is asked, or the text is for the row that is
abbrev pub RowTold : List ℕ → List ℕ → List ℕ → Option (Result ℕ Unreadable) → Type 0
RowTold argument kept out None = row_asked (argument ∷ []) ≡ none
RowTold argument kept out (Some r) = TextFor argument kept out r

-- The same where the reader tells its bytes. They are answered, by one byte at least.
pub record TextOf (argument xs out : List ℕ) (r : Result ℕ Unreadable) : Type 0 where
  pub row : ℕ
  pub asks : row_asked (argument ∷ []) ≡ some row
  pub told : IfOk r (λ n. ToldOf (AnswersWhy row) xs (take n out))
  pub least : IfOk r (λ n. 1 ≤ n)

abbrev pub RowToldOf : List ℕ → List ℕ → List ℕ → Option (Result ℕ Unreadable) → Type 0
RowToldOf argument xs out None = row_asked (argument ∷ []) ≡ none
RowToldOf argument xs out (Some r) = TextOf argument xs out r

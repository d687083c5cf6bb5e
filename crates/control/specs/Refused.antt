-- The refusals by document 01's numbers, and what is answered with as that document's answer.
use Rattle.std.specs.Prelude.{ℕ, Result, Ok, Err}
use Rattle.scope.specs.Refusals.{Answer, refused, given}
use Rattle.control.specs.declared.refusal.Refusal.{Refusal}
use Rattle.control.specs.declared.refusal.Refusal.TheVariants as refusal

-- the number of a refusal
abbrev pub number_of : Refusal → ℕ
number_of refusal.Sizes = 1
number_of refusal.Length = 2
number_of refusal.Threshold = 3
number_of refusal.NotFinite = 4
number_of refusal.Pairs = 5
number_of refusal.Source = 6
number_of refusal.Room = 7
number_of refusal.Segment = 8
number_of refusal.TooShort = 9
number_of refusal.AllBarred = 10
number_of refusal.Permutations = 11
number_of refusal.Curves = 12
number_of refusal.TooManyCells = 13
number_of refusal.StillOpen = 14

-- the number that applies, or 0: what tests come to
abbrev pub number_in : Result Unit Refusal → ℕ
number_in (Ok _) = 0
number_in (Err r) = number_of r

-- what a call answers with
abbrev pub told : {X A : Type 0} → (X → A) → Result X Refusal → Answer A
told of (Ok x) = given (of x)
told of (Err r) = refused (number_of r)

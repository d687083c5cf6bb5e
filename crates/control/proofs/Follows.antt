-- What follows from a call's tests: its answer, and what a lent slice holds. Assumes nothing.
use mathlib.Core.Path.{◌≡◌, sym, ◌∙◌, ap}
use mathlib.Core.List.{List, []}
use Prim.Native.Nat.{ℕ}
use native.Mathlib.Omega.{arith}
use Rattle.scope.specs.Lists.{holding}
use Rattle.scope.specs.Refusals.{refused, given, unless, told_unless, left_unless}
use Rattle.control.specs.declared.refusal.Refusal.{Refusal}
use Rattle.control.specs.declared.refusal.Refusal.TheVariants as refusal
use Rattle.control.specs.Refused.{number_of}
use Rattle.control.proofs.Sizes.{unless_refused, told_nothing, left_alone}

-- a refusal's number is above 0
pub numbered : (r : Refusal) → number_of r ≡ 0 → ⊥
numbered refusal.Sizes h = absurd (omega arith)
numbered refusal.Length h = absurd (omega arith)
numbered refusal.Threshold h = absurd (omega arith)
numbered refusal.NotFinite h = absurd (omega arith)
numbered refusal.Pairs h = absurd (omega arith)
numbered refusal.Source h = absurd (omega arith)
numbered refusal.Room h = absurd (omega arith)
numbered refusal.Segment h = absurd (omega arith)
numbered refusal.TooShort h = absurd (omega arith)
numbered refusal.AllBarred h = absurd (omega arith)
numbered refusal.Permutations h = absurd (omega arith)
numbered refusal.Curves h = absurd (omega arith)
numbered refusal.TooManyCells h = absurd (omega arith)
numbered refusal.StillOpen h = absurd (omega arith)

-- r is the refusal that the definition gives
module _ (r : Refusal) {no : ℕ} (is : number_of r ≡ no) where
  pub answer_refused : {A : Type 0} (a : A) → refused (number_of r) ≡ unless no a
  answer_refused a = sym (unless_refused (number_of r) a (numbered r)) ∙ ap (λ (n : ℕ). unless n a) is

  -- and nothing is told, through whatever form a list takes in memory
  pub held_refused : {A B : Type 0} (form : List A → List B) (l : List A) (before : List B) → form [] ≡ [] → before ≡ holding (form (told_unless no l)) before
  held_refused form l before e = rw (← is, told_nothing (number_of r) l (numbered r), e)

  -- and what a call changes past its first entries is as it was
  pub left_refused : {A : Type 0} (before after : List A) → before ≡ left_unless no before after
  left_refused before after = rw (← is, left_alone (number_of r) before after (numbered r))

-- no test holds
module _ {no : ℕ} (none : 0 ≡ no) where
  pub answer_given : {A : Type 0} (a : A) → given a ≡ unless no a
  answer_given a = rw (← none)

  pub held_given : {A B : Type 0} (form : List A → List B) (l : List A) (before : List B) {after : List B} → after ≡ holding (form l) before → after ≡ holding (form (told_unless no l)) before
  held_given form l before h = rw (← none) h

  pub left_given : {A : Type 0} (before : List A) {after now : List A} → now ≡ after → now ≡ left_unless no before after
  left_given before h = rw (← none) h

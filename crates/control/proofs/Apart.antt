-- What is told alike is alike: no two refusals have one number, so two answers that a contract permits are one. Assumes nothing.
use mathlib.Core.Path.{◌≡◌, refl, sym, ◌∙◌, ap}
use mathlib.Core.Bool.{cond}
use Prim.Native.Nat.{ℕ}
use lib.Dec.{eqb}
use Rattle.std.specs.Prelude.{Result, Ok, Err}
use Rattle.scope.specs.Refusals.{refused, given}
use Rattle.scope.proofs.Never.{never}
use Rattle.control.specs.declared.refusal.Refusal.{Refusal}
use Rattle.control.specs.declared.refusal.Refusal.TheVariants as refusal
use Rattle.control.specs.Refused.{number_of, told}

-- the refusal that has a number
with_number : ℕ → Refusal
with_number k =
    cond (eqb k 1) refusal.Sizes (cond (eqb k 2) refusal.Length (cond (eqb k 3) refusal.Threshold (cond (eqb k 4) refusal.NotFinite
    (cond (eqb k 5) refusal.Pairs (cond (eqb k 6) refusal.Source (cond (eqb k 7) refusal.Room (cond (eqb k 8) refusal.Segment
    (cond (eqb k 9) refusal.TooShort (cond (eqb k 10) refusal.AllBarred (cond (eqb k 11) refusal.Permutations
    (cond (eqb k 12) refusal.Curves (cond (eqb k 13) refusal.TooManyCells refusal.StillOpen))))))))))))

its_own : (r : Refusal) → with_number (number_of r) ≡ r
unfolding with_number
its_own refusal.Sizes = refl
its_own refusal.Length = refl
its_own refusal.Threshold = refl
its_own refusal.NotFinite = refl
its_own refusal.Pairs = refl
its_own refusal.Source = refl
its_own refusal.Room = refl
its_own refusal.Segment = refl
its_own refusal.TooShort = refl
its_own refusal.AllBarred = refl
its_own refusal.Permutations = refl
its_own refusal.Curves = refl
its_own refusal.TooManyCells = refl
its_own refusal.StillOpen = refl

pub number_apart : (r s : Refusal) → number_of r ≡ number_of s → r ≡ s
number_apart r s h = sym (its_own r) ∙ ap with_number h ∙ its_own s

pub told_apart : {X A : Type 0} (of : X → A) → ((x y : X) → of x ≡ of y → x ≡ y) → (a b : Result X Refusal) → told of a ≡ told of b → a ≡ b
told_apart of apart (Ok x) (Ok y) h = let same : of x ≡ of y = cc in ap Ok (apart x y same)
told_apart of apart (Ok x) (Err s) h = never (cc)
told_apart of apart (Err r) (Ok y) h = never (cc)
told_apart of apart (Err r) (Err s) h = let same : number_of r ≡ number_of s = cc in ap Err (number_apart r s same)

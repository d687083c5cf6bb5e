-- What is told of a row of what is held of a deck, and the text that is written from it. Assumes nothing.
use mathlib.Core.Path.{◌≡◌, refl, ap}
use mathlib.Core.List.{List}
use Prim.Native.Nat.{ℕ, zero, suc}
use lib.Ieee.{Float}
use lib.ListN.{length}
use Rattle.std.specs.Prelude.{Result, Ok}
use Rattle.scope.specs.Refusals.{given, unless}
use Rattle.scope.specs.Tree.{Run}
use Rattle.scope.specs.Why.{why_of, why_call}
use Rattle.scope.specs.WhyText.{why_line}
use Rattle.scope.proofs.Never.{never}
use Rattle.control.specs.declared.refusal.Refusal.{Refusal}
use Rattle.demand.proofs.Because.{justified}
use Rattle.segmentation.specs.Segments.{Slices}
use Rattle.line.specs.declared.Given.{Given}
use Rattle.limits.specs.Limits.{given_refusal}
use Rattle.limits.specs.Held.{matrix_held, settings_held, run_held}
use Rattle.limits.proofs.Clean.{given_clean}
use Rattle.reasons.specs.Answers.{to_why}
use Rattle.entry_why.specs.Left.{WhyLeft}
use Rattle.entry_why.specs.declared.Explained.{Explained}
use Rattle.why_answers.specs.Answered.{row_number, Tells, given_number}

module _ (x : ℕ) (g : Given) (cells : List Float) (forbidden : List ℕ) where
  -- what the call ensures, in the room that the types give, is what `Tells` says
  pub tells : (before after : Slices) (text₀ text₁ : List ℕ) (r : Result Explained Refusal) → length before.sums ≡ 2112 → length before.rows ≡ 0 → length before.gains ≡ 0 → length text₀ ≡ 25
      → WhyLeft (matrix_held g cells) (settings_held g forbidden) x r before after text₀ text₁ → Tells x g cells forbidden r
  unfolding row_number why_call
  tells before after text₀ text₁ r a b c d left = record { answer_is = rw (a, b, c, d) at left.answer; written = rw (a, b, c, d) at left.written; because = left.because }

  abbrev q : Run
  q = run_held g cells forbidden

  -- ---- of a deck that is not refused, what is told is so, and nothing else is: the line is the definitions'
  module _ (judged : 0 ≡ given_refusal g forbidden) (e : Explained) (told : Tells x g cells forbidden (Ok e)) where
    pub none : 0 ≡ given_number x g cells forbidden
    none = rw (← judged) (go (row_number x g cells forbidden) told.answer_is)
      where
        go : (k : ℕ) → given (to_why e.why) ≡ unless k (why_of q x) → 0 ≡ k
        go zero h = refl
        go (suc k) h = never (cc)

    pub line_is : why_line x (to_why e.why) ≡ why_line x (why_of q x)
    line_is = let f = given_clean g forbidden (rw (← judged)) in ap (why_line x) ((justified q f.least f.sizes.rows.0).only x (to_why e.why) (told.because e refl))

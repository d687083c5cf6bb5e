-- What the call leaves: its answer, and what each lent slice holds; and of a row that is not refused, that what is told of it is so.
use Rattle.std.specs.Prelude.{◌≡◌, List, ℕ, length, Result, Ok}
use Rattle.scope.specs.Lists.{holding}
use Rattle.scope.specs.Asked.{Matrix, Settings}
use Rattle.scope.specs.Why.{WhyAsked, WhyTold, why_call}
use Rattle.scope.specs.Calls.{run_of}
use Rattle.control.specs.declared.refusal.Refusal.{Refusal}
use Rattle.control.specs.Refused.{told}
use Rattle.demand.specs.Because.{Because}
use Rattle.stored.specs.Flat.{record_room}
use Rattle.segmentation.specs.Segments.{Slices, Held}
use Rattle.reasons.specs.Answers.{to_why}
use Rattle.entry_why.specs.declared.Explained.{Explained}

-- what is asked where these slices are lent, and this text
abbrev pub why_asked : Matrix → Settings → ℕ → Slices → List ℕ → WhyAsked
why_asked x s row lent text =
    record { matrix = x; settings = s; row = row; sums = length lent.sums; records = record_room lent.rows lent.gains; text = length text }

-- what follows
abbrev pub why_told : Matrix → Settings → ℕ → Slices → List ℕ → WhyTold
why_told x s row lent text = why_call (why_asked x s row lent text)

-- the answer, and how long the text is that goes with it; the prefix sums, the records of the stored segments, flat, and the text
pub record WhyLeft (x : Matrix) (s : Settings) (row : ℕ) (r : Result Explained Refusal) (before after : Slices) (text₀ text₁ : List ℕ) : Type 0 where
  pub answer : told (λ e. to_why e.why) r ≡ (why_told x s row before text₀).answer
  pub written : (e : Explained) → r ≡ Ok e → e.written ≡ length (why_told x s row before text₀).text
  pub held : Held (why_told x s row before text₀).sums (why_told x s row before text₀).records before after
  pub text : text₁ ≡ holding (why_told x s row before text₀).text text₀
  pub because : (e : Explained) → r ≡ Ok e → Because (run_of x s) row (to_why e.why)

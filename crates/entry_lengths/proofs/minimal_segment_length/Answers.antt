-- `minimal_segment_length` meets its contract: 1, 2, or the ceiling of a product that is in range.
use Rattle.std.proofs.Common.{◌≡◌, true, sym, ◌∙◌, ap, refl}
use lib.Ieee.{Float, of_bits, lt}
use Rattle.scope.specs.Floats.{+0, half}
use Rattle.scope.specs.Refusals.{is_between, given}
use Rattle.scope.specs.Rounding.{minimal_length}
use Rattle.scope.specs.Calls.{length_answer}
use Rattle.scope.proofs.Members.{first_of_lem, second_of}
use Rattle.scope.proofs.Candidates.{not_outside}
use Rattle.control.proofs.Sizes.{small}
use Rattle.rounding.proofs.Relative.{minimal_length_range}
use Rattle.entry_lengths.proofs.minimal_segment_length.Goals as goal

between : (r : Float) → is_between +0 half r ≡ true → (lt +0 r ≡ true) × (lt r half ≡ true)
unfolding is_between
between r e = (first_of_lem (lt +0 r) (lt r half) e, second_of (lt +0 r) (lt r half) e)

pub returns-then-not-is_between : goal.returns-then-not-is_between
unfolding length_answer of_bits
returns-then-not-is_between c = rw (← c.is_outside.ensures, c.if-is_outside.false, ← c.is_between.ensures, c.if-not-is_between.true) record { answer = refl }

pub int_to_float-n : goal.int_to_float-n
int_to_float-n c = small _ (not_outside 4096 c.args.n (sym c.is_outside.ensures ∙ c.if-is_outside.false)).1

pub ceiling-requires : goal.ceiling-requires
unfolding of_bits
ceiling-requires c =
    let b = between c.args.relative (sym c.is_between.ensures ∙ c.if-not-is_between.false) in
    minimal_length_range c.args.relative c.args.n b.0 b.1 (not_outside 4096 c.args.n (sym c.is_outside.ensures ∙ c.if-is_outside.false)).1

pub returns : goal.returns
unfolding length_answer of_bits minimal_length
returns c = rw (← c.is_outside.ensures, c.if-is_outside.false, ← c.is_between.ensures, c.if-not-is_between.false) record { answer = ap given c.ceiling.ensures }

-- `signed_end` meets its contract: the float of a magnitude, negated, is the float of its negative.
use Rattle.std.proofs.Common.{◌≡◌, ◌∙◌, true, rules}
use Rattle.line.proofs.Minus.{minus_cell}
use Rattle.line.proofs.signed_end.Goals as goal

pub returns-then-v-gt0 : goal.returns-then-v-gt0
returns-then-v-gt0 c =
    let minus : c.args.minus ≡ true = search rules in
    rw (minus, ← c.value.ensures, c.in_ok-v.was)
    (c.cell_at-then-v-gt0.ensures ∙ rw c.nearest_usize_to_f64-then-v-gt0.ensures (minus_cell _ _ _ c.if-v-gt0.true))

-- `Layer::start` meets its contract: 0 if the count is 1, else the truncation.
use mathlib.Core.Path.{sym, ◌∙◌, ap, subst}
use native.Mathlib.Omega.{arith}
use borrow.Author.Tests.{eq-eqb, ne_eqb}
use lib.Ieee.{Float}
use Rattle.scope.specs.Floats.{◌⊗◌, whole}
use Rattle.scope.specs.Rounding.{to_f32, truncation}
use Rattle.scope.specs.Layers.{layer_count, layer_start}
use Rattle.rounding.specs.Range.{in_range}
use Rattle.rounding.proofs.Layers.{layer_count_bounds, layer_start_range}
use Rattle.layers.proofs.Layered.{held}
use Rattle.layers.proofs.Layer.start.Goals as goal

pub returns-then-self-eq1 : goal.returns-then-self-eq1
unfolding layer_start
returns-then-self-eq1 c = rw (eq-eqb (layer_count c.args.self.value) 1 (sym c.args.self.made.counted ∙ c.if-self-eq1.true))

pub int_to_float-id : goal.int_to_float-id
int_to_float-id c =
    let l = c.args.self.made in
    held c.args.id (omega (arith, l.counted, layer_count_bounds c.args.self.value l.is_layer_lem))

pub truncated-requires : goal.truncated-requires
truncated-requires c =
    let l = c.args.self.made in
    subst (λ (x : Float). in_range (to_f32 (whole c.args.id ⊗ x))) (sym l.stepped)
    (layer_start_range c.args.self.value l.is_layer_lem c.args.self.n l.rows (λ e. c.if-self-eq1.false (l.counted ∙ e)) c.args.id (omega (arith, l.counted)))

pub returns : goal.returns
unfolding layer_start
returns c =
    let l = c.args.self.made in
    rw (ne_eqb (layer_count c.args.self.value) 1 (λ e. c.if-self-eq1.false (l.counted ∙ e)))
    (c.truncated.ensures ∙ ap (λ (x : Float). truncation (to_f32 (whole c.args.id ⊗ x))) l.stepped)

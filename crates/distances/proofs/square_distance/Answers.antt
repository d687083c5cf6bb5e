-- `square_distance` meets its contract. Assumes nothing.
use Rattle.std.proofs.Common.{◌≡◌, List, ℕ, ◌+◌, ◌*◌, refl, add-one, arith}
use lib.Ieee.{Float, of_bits}
use Rattle.scope.specs.Floats.{◌⊕◌, ◌⊖◌}
use Rattle.scope.specs.Lists.{at}
use Rattle.scope.specs.Gain.{square}
use Rattle.scope.specs.Neighbours.{difference, squares}
use Rattle.distances.proofs.square_distance.Goals as goal

next : (cells : List Float) (d i j c : ℕ) (sum : Float) → sum ≡ squares cells d i j c → sum ⊕ square (at cells (i * d + c) ⊖ at cells (j * d + c)) ≡ squares cells d i j (c + 1)
unfolding squares difference
next cells d i j c sum e = rw (add-one, e)

pub loop-c-init : goal.loop-c-init
unfolding of_bits squares
loop-c-init c = refl

pub loop-c-preserved : goal.loop-c-preserved
loop-c-preserved c = next _ _ c.args.i.0 c.args.j.0 _ _ c.loop-c.invariant

pub returns : goal.returns
returns c =
    let e : c.loop-c.c ≡ c.args.matrix.d = omega arith in
    rw e at c.loop-c.invariant

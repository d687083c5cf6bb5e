-- `distances_from` meets its contract. Assumes nothing.
use mathlib.Core.Path.{◌≡◌, refl, ◌∙◌}
use mathlib.Core.List.{List, ◌++◌, append-nil}
use Prim.Native.Nat.{ℕ, ◌+◌, ◌<◌}
use native.Mathlib.Nat.{mul-le-mul_right}
use native.Mathlib.Numerals.{add-one}
use native.Mathlib.Omega.{arith}
use lib.Ieee.{Float}
use lib.ListN.{length, drop, set}
use lib.Seq.{drop-length}
use Rattle.scope.specs.Neighbours.{squares, distances}
use Rattle.scope.proofs.Lists.{store_more}
use Rattle.scope.proofs.Signs.{length_distances}
use Rattle.distances.proofs.Distances.{row_in}
use Rattle.distances.proofs.distances_from.Goals as goal

next : (cells : List Float) (d i j : ℕ) (ds₀ ds : List Float) (v : Float) → v ≡ squares cells d i j d → j < length ds₀ → ds ≡ distances cells d i j ++ drop j ds₀ → set ds j v ≡ distances cells d i (j + 1) ++ drop (j + 1) ds₀
unfolding distances
next cells d i j ds₀ ds v g h e = rw (e, g) (store_more (distances cells d i j) ds₀ j (squares cells d i j d) (length_distances cells d i j) h ∙ rw (add-one j))

pub loop-j-init : goal.loop-j-init
unfolding distances
loop-j-init c = refl

pub square_distance-requires : goal.square_distance-requires
square_distance-requires c =
    let n = length c.args.ds.now in
    let d = c.args.matrix.d in
    (omega (arith, mul-le-mul_right d c.requires.1, c.requires.0, c.requires.3), row_in c.args.i.0 n d _ c.requires.2 c.requires.3, row_in c.loop-j.j n d _ (omega arith) c.requires.3)

pub loop-j-preserved : goal.loop-j-preserved
loop-j-preserved c = next c.args.matrix.cells.now c.args.matrix.d c.args.i.0 c.loop-j.j c.args.ds.now c.loop-j.ds _ c.square_distance.ensures (omega arith) c.loop-j.invariant

pub returns : goal.returns
returns c =
    let e : c.loop-j.j ≡ length c.args.ds.now = omega arith in
    c.loop-j.invariant ∙ rw (e, drop-length, append-nil)

-- A matrix with room for its sums, and the sums that are left there. Assumes nothing.
use mathlib.Core.Path.{◌≡◌, ◌∙◌, ap}
use mathlib.Core.Bool.{false}
use mathlib.Core.List.{List}
use Prim.Native.Nat.{ℕ, ◌+◌, ◌*◌, ◌≤◌}
use native.Mathlib.Nat.{add-mul, mul-le-mul_right}
use native.Mathlib.Omega.{arith}
use borrow.Author.Tests.{ltb-false}
use lib.Dec.{ltb}
use lib.Ieee.{Float}
use lib.ListN.{length, take}
use lib.Seq.{take_at, length-take-le}
use Rattle.scope.specs.Lists.{holding}
use Rattle.scope.specs.Asked.{Matrix}
use Rattle.scope.specs.Refusals.{most_rows, wrong_matrix}
use Rattle.scope.specs.Sums.{flat_sums, prefix_sums}
use Rattle.scope.specs.Calls.{sums_of, sums_room}
use Rattle.scope.proofs.Sums.{length_flat}
use Rattle.control.proofs.Sizes.{Matrix as Shape, matrix}

pub record SumsClean (x : Matrix) (room : ℕ) : Type 0 where
  pub shape : Shape most_rows x.cells x.n x.d
  pub fits : sums_room x ≤ room
  pub total : sums_room x ≡ x.d + length x.cells

pub sums_clean : (x : Matrix) (room : ℕ) → wrong_matrix most_rows x.cells x.n x.d ≡ false → ltb room (sums_room x) ≡ false → SumsClean x room
sums_clean x room e h =
    let w = matrix most_rows x.cells x.n x.d e in
    record { shape = w; fits = ltb-false room (sums_room x) h; total = omega (arith, add-mul x.n 1 x.d, w.long) }

-- the sums that are stored, of a matrix of that shape
module _ (x : Matrix) (room : ℕ) (w : SumsClean x room) (out : List Float) where
  pub sums_are : holding (flat_sums x.cells x.d (length x.cells)) out ≡ holding (sums_of x) out
  unfolding prefix_sums
  sums_are = rw w.shape.long

  -- as a part of the slice
  pub sums_part : {len : ℕ} {cumsum : List Float} → len ≡ sums_room x → cumsum ≡ holding (flat_sums x.cells x.d (length x.cells)) out → take len cumsum ≡ sums_of x
  unfolding prefix_sums
  sums_part e f =
      rw (e, f, w.total) (take_at (flat_sums x.cells x.d (length x.cells)) _ (x.d + length x.cells) (length_flat x.cells x.d (length x.cells)))
      ∙ ap (flat_sums x.cells x.d) w.shape.long

-- row stop lies within the sums
pub row_within : (stop n d : ℕ) (out : List Float) → stop ≤ n → (n + 1) * d ≤ length out → (stop + 1) * d ≤ length (take ((n + 1) * d) out)
row_within stop n d out h k = rw (length-take-le ((n + 1) * d) out k) (mul-le-mul_right d (omega arith))

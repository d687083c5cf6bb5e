-- `sums_len` meets its contract: the product is small.
use Prim.Native.Nat.{◌+◌}
use native.Mathlib.Omega.{arith}
use Rattle.control.proofs.Sizes.{product_small}
use Rattle.control.proofs.sums_len.Goals as goal

pub overflow_mul-result : goal.overflow_mul-result
overflow_mul-result c = omega (arith, product_small (c.args.n + 1) c.args.d (omega arith) (omega arith))

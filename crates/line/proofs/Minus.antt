-- A cell with a minus: the float of its magnitude, negated, is its float. Assumes nothing.
use Rattle.std.proofs.Common.{◌≡◌, ◌<◌, arith, ℕ, zero, suc, true, not, ltb, leb, pos, negsuc, le-ltb, lt-ltb, leb-false, leb-true}
use mathlib.Core.Option.{some}
use lib.Dec.{leb-suc-suc}
use lib.Ieee.{Format, binary64, neg, of_int}
use Rattle.scope.specs.Text.{negative}
use Rattle.scope.proofs.Negated.{neg_round}
use Rattle.token.proofs.Tested.{either}
use Rattle.line.specs.Walk.{cell_at, cell_end}
use Rattle.line.specs.declared.Given.{Given}

pub negated : (f : Format) (n : ℕ) → neg (of_int f (pos (suc n))) ≡ of_int f (negsuc n)
unfolding of_int
negated f n = neg_round f true (suc n) 1

-- above n is not up to n
pub above : (n v : ℕ) → ltb n v ≡ not (leb v n)
above n v = either (leb v n) (λ t. rw t (le-ltb n v (leb-true v n t))) (λ t. rw t (lt-ltb n v (leb-false v n t)))

pub minus_cell : (k : ℕ) (g : Given) (v : ℕ) → 0 < v → cell_at k g (ltb 32768 v) (neg (of_int binary64 (pos v))) ≡ cell_end k g (negative (some v))
minus_cell k g zero h = absurd (omega arith)
minus_cell k g (suc v) h = rw (leb-suc-suc 32768 v, above 32767 v, negated binary64 v)

-- `most_nodes` meets its contract: the quotient is small, and 0 where there is no row.
use mathlib.Core.Path.{◌≡◌}
use Prim.Native.Nat.{ℕ, ◌+◌, ◌-◌, ◌/◌, ◌≤◌, ◌<◌}
use native.Mathlib.Nat.{div-lt_iff_lt-mul}
use native.Mathlib.Omega.{arith}
use Rattle.scope.specs.Asked.{end_of}
use Rattle.scope.proofs.Candidates.{one_at_most}
use Rattle.control.specs.Settings.{shortest_of}
use Rattle.control.proofs.most_nodes.Goals as goal

small : (rows m : ℕ) → rows ≤ 4096 → 1 ≤ m → rows / m < 4097
small rows m few least = (div-lt_iff_lt-mul least).1 (omega arith)

pub returns-then-n-lt1 : goal.returns-then-n-lt1
returns-then-n-lt1 c =
    let s = c.args in
    let one = one_at_most (shortest_of s.shortest) in
    let none : (end_of (shortest_of s.shortest) s.n - 1) / s.shortest.m < 1 = (div-lt_iff_lt-mul c.requires.1).1 (omega (arith, c.requires)) in
    (omega arith, omega arith)

-- the rows that are shared out, and how many parts they make
rows : (end n m shared : ℕ) → shared + 1 ≡ end → end ≤ n + 1 → n ≤ 4096 → 1 ≤ m → (shared ≡ end - 1) × (shared / m < 4097)
rows end n m shared is one few least = (omega arith, small shared m (omega arith) least)

pub returns-then-q-lt1 : goal.returns-then-q-lt1
returns-then-q-lt1 c =
    let s = c.args in
    let one = one_at_most (shortest_of s.shortest) in
    let e = rows (end_of (shortest_of s.shortest) s.n) s.n s.shortest.m c.shared_rows.result c.shared_rows.ensures (omega arith) c.requires.0 c.requires.1 in
    rw (← e.0) (omega arith, omega arith)

pub overflow_mul-result : goal.overflow_mul-result
overflow_mul-result c =
    let s = c.args in
    let one = one_at_most (shortest_of s.shortest) in
    let e = rows (end_of (shortest_of s.shortest) s.n) s.n s.shortest.m c.shared_rows.result c.shared_rows.ensures (omega arith) c.requires.0 c.requires.1 in
    omega arith

pub returns : goal.returns
returns c =
    let s = c.args in
    let one = one_at_most (shortest_of s.shortest) in
    let e = rows (end_of (shortest_of s.shortest) s.n) s.n s.shortest.m c.shared_rows.result c.shared_rows.ensures (omega arith) c.requires.0 c.requires.1 in
    rw (← e.0) (omega arith, omega arith)

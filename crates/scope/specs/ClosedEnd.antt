-- "Add a setting, closed end, off by default and then as the Rust." Each rule is stated once over both settings; here is what it comes to in
-- either, for a reader. proofs/ClosedEnd.antt has both records for every m; what the setting does to levels and gaps is in crates/demand.
use Rattle.std.specs.Prelude.{◌≡◌, ◌↔◌, Bool, not, List, [], ◌++◌, ℕ, ◌+◌, ◌-◌, ◌*◌, ◌/◌, ◌≤◌, ◌<◌, max, ltb, leb}
use Rattle.scope.specs.Lists.{upward, keep, select}
use Rattle.scope.specs.Asked.{off, on}
use Rattle.scope.specs.Refusals.{test, no9}
use Rattle.scope.specs.Candidates.{is_barred, range_size, candidates}
use Rattle.scope.specs.Allowed.{Pair, Allowed}
use Rattle.scope.specs.Tree.{most_nodes}

-- no pair bars x
abbrev pub Free : List ℕ → ℕ → Type 0
Free forbidden x = (a b : ℕ) → Pair a b forbidden → a < x → x ≤ b → ⊥

-- off: document 01's rules, word for word
pub record AsTheRust (m : ℕ) : Type 0 where
  -- "Rows x with start+m <= x < stop-m, except a < x <= b for some pair."
  pub allowed : (forbidden : List ℕ) (start stop x : ℕ) → Allowed (off m) forbidden start stop x ↔ ((start + m ≤ x) × (x + m < stop) × Free forbidden x)
  -- "at least stop-start-2m entries (0 if that is negative)"
  pub size : (start stop : ℕ) → range_size (off m) start stop ≡ stop - start - 2 * m
  pub listed : (forbidden : List ℕ) (start stop : ℕ)
      → candidates (off m) forbidden start stop ≡ select (λ x. not (is_barred forbidden x)) (upward (start + m) (stop - start - 2 * m))
  -- 9: "2*m >= stop-start"; permutation counts: "2*m >= L"
  pub nine : (start stop : ℕ) → no9 (off m) start stop ≡ test (leb (stop - start) (2 * m)) 9
  pub nine_counts : (L : ℕ) → no9 (off m) 0 L ≡ test (leb L (2 * m)) 9
  -- "B = max(1, 2*floor((n-1)/m)-1)"
  pub nodes : (n : ℕ) → most_nodes n (off m) ≡ max 1 (2 * ((n - 1) / m) - 1)

-- on: "x = stop-m allowed"
pub record WithClosedEnd (m : ℕ) : Type 0 where
  -- start+m <= x <= stop-m, except for pairs
  pub allowed : (forbidden : List ℕ) (start stop x : ℕ) → Allowed (on m) forbidden start stop x ↔ ((start + m ≤ x) × (x + m ≤ stop) × Free forbidden x)
  -- where 2*m <= stop-start: "stop-start-2m+1 entries"; the candidates are those of off and, if no pair bars it, stop-m as the last
  pub size : (start stop : ℕ) → start + 2 * m ≤ stop → range_size (on m) start stop ≡ stop - start - 2 * m + 1
  pub listed : (forbidden : List ℕ) (start stop : ℕ)
      → start + 2 * m ≤ stop
      → candidates (on m) forbidden start stop ≡ candidates (off m) forbidden start stop ++ keep (not (is_barred forbidden (stop - m))) (stop - m) []
  -- elsewhere there are none, in either setting
  pub none : (closed : Bool) (forbidden : List ℕ) (start stop : ℕ)
      → stop < start + 2 * m
      → (range_size (record { m = m; closed = closed }) start stop ≡ 0) × (candidates (record { m = m; closed = closed }) forbidden start stop ≡ [])
  -- "refusal 9 means 2*m > stop-start"; of permutation counts "L = 2m is then admitted"
  pub nine : (start stop : ℕ) → start ≤ stop → no9 (on m) start stop ≡ test (ltb (stop - start) (2 * m)) 9
  pub nine_counts : (L : ℕ) → no9 (on m) 0 L ≡ test (ltb L (2 * m)) 9
  -- "B is max(1, 2*floor(n/m)-1)"
  pub nodes : (n : ℕ) → most_nodes n (on m) ≡ max 1 (2 * (n / m) - 1)

-- Members of the candidates, by a test of the row alone; three rows, kept or not. Assumes nothing.
use mathlib.Core.Path.{◌≡◌, refl, sym, ◌∙◌, ap}
use mathlib.Core.Bool.{Bool, true, false, not, false≢true}
use mathlib.Core.List.{List, [], ◌++◌}
use Prim.Native.Nat.{ℕ, ◌+◌, ◌-◌, ◌*◌, ◌/◌, ◌≤◌, ◌<◌}
use native.Mathlib.Omega.{arith}
use Rattle.scope.specs.Lists.{◌∈◌, upward, keep}
use Rattle.scope.specs.Asked.{Shortest}
use Rattle.scope.specs.Candidates.{is_barred, range_size, candidates}
use Rattle.scope.specs.Curves.{is_member}
use Rattle.scope.proofs.Lists.{select_are, select_all, upward_are}
use Rattle.scope.proofs.Candidates.{one_at_most}
use Rattle.scope.proofs.Members.{member_in, in_member}
use lib.ListN.{length, get_or}
use Rattle.std.specs.Prelude.{Option, Some, None}
use Rattle.std.specs.List.{slice_get}
use Rattle.std.specs.Option.{option_map, unwrap_or}
use Rattle.std.proofs.lemmas.Option.{unwrap_or-slice_get}
use Rattle.rows.specs.declared.Position.{Position}
use Rattle.optimizer.specs.Remaining.{row_of}
use Rattle.optimizer.proofs.Remaining.{candidates_few}

-- two tests that pass together are the same
same_test : (a b : Bool) → (a ≡ true → b ≡ true) → (b ≡ true → a ≡ true) → a ≡ b
same_test true b h k = sym (h refl)
same_test false true h k = k refl
same_test false false h k = refl

module _ (short : Shortest) (ps : List ℕ) (a e x : ℕ) where
  in_range_lem : x ∈ candidates short ps a e → (a + short.m ≤ x) × (x < a + short.m + range_size short a e) × (not (is_barred ps x) ≡ true)
  unfolding candidates
  in_range_lem i =
      let (j, t) = select_are (λ y. not (is_barred ps y)) (upward (a + short.m) (range_size short a e)) x i in
      let (l, h) = (upward_are (a + short.m) (range_size short a e) x).0 j in
      (l, h, t)

  pub member_outside : ((a + short.m ≤ x) × (x < a + short.m + range_size short a e) → ⊥) → is_member x (candidates short ps a e) ≡ false
  member_outside no_row = sym (same_test false (is_member x (candidates short ps a e)) (λ w. absurd (false≢true w)) (λ w. let (l, h, t) = in_range_lem (member_in x (candidates short ps a e) w) in absurd (no_row (l, h))))

  pub member_below : x < a + short.m → is_member x (candidates short ps a e) ≡ false
  member_below h = member_outside (λ w. let l = w.0 in omega arith)

  pub member_above : a + short.m + range_size short a e ≤ x → is_member x (candidates short ps a e) ≡ false
  member_above h = member_outside (λ w. let l = w.1 in omega arith)

  pub member_inside : a + short.m ≤ x → x < a + short.m + range_size short a e → is_member x (candidates short ps a e) ≡ not (is_barred ps x)
  unfolding candidates
  member_inside l h =
      sym (same_test (not (is_barred ps x)) (is_member x (candidates short ps a e))
      (λ t. in_member x (candidates short ps a e) (select_all (λ y. not (is_barred ps y)) (upward (a + short.m) (range_size short a e)) x ((upward_are (a + short.m) (range_size short a e) x).1 (l, h)) t))
      (λ w. (in_range_lem (member_in x (candidates short ps a e) w)).2))

-- ---- the quarters of [a, b), as rows past its start
pub quarters_past : (a b : ℕ) → a ≤ b → (a + (b - a) / 4 ≡ (3 * a + b) / 4) × (a + (b - a) / 2 ≡ (a + b) / 2) × (a + 3 * (b - a) / 4 ≡ (a + 3 * b) / 4)
quarters_past a b h = (omega arith, omega arith, omega arith)

-- ---- three rows, each kept or not
pub three_kept : (p q r : Bool) (x y z : ℕ) → (([] ++ keep p x []) ++ keep q y []) ++ keep r z [] ≡ keep p x (keep q y (keep r z []))
three_kept true true true x y z = refl
three_kept true true false x y z = refl
three_kept true false true x y z = refl
three_kept true false false x y z = refl
three_kept false true true x y z = refl
three_kept false true false x y z = refl
three_kept false false true x y z = refl
three_kept false false false x y z = refl

-- ---- no segment has more candidates than the longest run has rows, and its end
pub few_rows : (short : Shortest) (ps : List ℕ) (a e : ℕ) → e ≤ 4096 → length (candidates short ps a e) ≤ 4097
unfolding range_size
few_rows short ps a e h = omega (arith, candidates_few short ps a e, one_at_most short)

-- ---- the candidate of a number, or row 0
pub numbered : (r : Option Position) (l : List ℕ) (i : ℕ) → option_map row_of r ≡ slice_get l i → (unwrap_or r (record { 0 = 0 })).0 ≡ get_or l i 0
numbered None l i h = ap (λ (o : Option ℕ). unwrap_or o 0) h ∙ unwrap_or-slice_get l i 0
numbered (Some x) l i h = ap (λ (o : Option ℕ). unwrap_or o 0) h ∙ unwrap_or-slice_get l i 0

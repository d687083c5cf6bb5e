-- What the closed end adds, and that without it the rules are those of before. Assumes nothing.
use mathlib.Core.Path.{◌≡◌, refl, ap, ◌∙◌}
use mathlib.Core.Logic.{◌↔◌}
use mathlib.Core.Bool.{Bool, true, not}
use mathlib.Core.List.{List, [], ◌++◌}
use Prim.Native.Nat.{ℕ, suc, ◌+◌, ◌-◌, ◌*◌, ◌≤◌, ◌<◌}
use native.Mathlib.Nat.{add-zero, sub-zero}
use native.Mathlib.Omega.{arith}
use borrow.Author.Tests.{leb-true, le-leb}
use Rattle.scope.specs.Lists.{upward, keep, select}
use Rattle.scope.specs.Asked.{Shortest, off, on, one_more, end_of}
use Rattle.scope.specs.Refusals.{test, no9}
use Rattle.scope.specs.Candidates.{is_barred, range_size, candidates}
use Rattle.scope.specs.ClosedEnd.{AsTheRust, WithClosedEnd}
use Rattle.scope.proofs.Lists.{select_append}
use Rattle.scope.proofs.Lowest.{holds}
use Rattle.scope.proofs.Candidates.{one_at_most}

pub off_end : (m stop : ℕ) → end_of (off m) stop ≡ stop
unfolding one_more
off_end m stop = add-zero stop

pub on_end : (m stop : ℕ) → end_of (on m) stop ≡ stop + 1
unfolding one_more
on_end m stop = refl

pub on_end_less : (m n : ℕ) → end_of (on m) n - 1 ≡ n
on_end_less m n = omega (arith, on_end m n)

-- ---- on: one row more at the end of the range
module _ (m : ℕ) (ps : List ℕ) (start stop : ℕ) where
  abbrev free : ℕ → Bool
  free x = not (is_barred ps x)

  one_longer : start + 2 * m ≤ stop → candidates (on m) ps start stop ≡ candidates (off m) ps start stop ++ keep (free (stop - m)) (stop - m) []
  unfolding candidates range_size upward select
  one_longer long =
      let size = stop - start - 2 * m in
      let last : start + m + size ≡ stop - m = omega arith in
      let more : end_of (on m) stop - start - 2 * m ≡ suc size = omega (arith, on_end m stop) in
      let same : end_of (off m) stop - start - 2 * m ≡ size = ap (λ (k : ℕ). k - start - 2 * m) (off_end m stop) in
      rw (more, same) (select_append free (upward (start + m) size) _ ∙ rw last)

  no_rows : (closed : Bool) → stop < start + 2 * m → range_size (record { m = m; closed = closed }) start stop ≡ 0
  unfolding range_size
  no_rows closed short = omega (arith, one_at_most (record { m = m; closed = closed }))

  no_candidates : (closed : Bool) → stop < start + 2 * m → candidates (record { m = m; closed = closed }) ps start stop ≡ []
  unfolding candidates upward select
  no_candidates closed short = rw (no_rows closed short)

pub with_closed_end : (m : ℕ) → WithClosedEnd m
unfolding range_size
with_closed_end m =
    record {
      allowed = λ ps start stop x. (
        λ w. (w.low, omega (arith, w.high, on_end m stop), w.free),
        λ (l, h, f). record { low = l; high = omega (arith, on_end m stop); free = f },
      );
      size = λ start stop long. omega (arith, on_end m stop);
      listed = one_longer m;
      none = λ closed ps start stop short. (no_rows m ps start stop closed short, no_candidates m ps start stop closed short);
      nine = λ start stop filled. let e : end_of (on m) stop - start ≡ suc (stop - start) = omega (arith, on_end m stop) in rw e;
      nine_counts = λ L. let e : end_of (on m) L - 0 ≡ suc L = omega (arith, on_end m L) in rw e;
      nodes = λ n. rw (on_end_less m n);
    }

-- ---- off
pub as_the_rust : (m : ℕ) → AsTheRust m
unfolding range_size candidates
as_the_rust m =
    record {
      allowed = λ ps start stop x. (λ w. (w.low, rw (off_end m stop) at w.high, w.free), λ (l, h, f). record { low = l; high = rw (off_end m stop) h; free = f });
      size = λ start stop. rw (off_end m stop);
      listed = λ ps start stop. rw (off_end m stop);
      nine = λ start stop. rw (off_end m stop);
      nine_counts = λ L. rw (off_end m L, sub-zero);
      nodes = λ n. rw (off_end m n);
    }

-- ---- 9 is given exactly where the range has no row, in either setting
pub nine_is_no_range : (s : Shortest) (start stop : ℕ) → (no9 s start stop ≡ test true 9) ↔ (range_size s start stop ≡ 0)
unfolding range_size
nine_is_no_range s start stop =
    let long = end_of s stop - start in (
      λ e. let few = leb-true long (2 * s.m) (ap holds e) in omega arith,
      λ e. rw (le-leb long (2 * s.m) (omega arith)),
    )

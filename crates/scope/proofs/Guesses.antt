-- "One to three guesses, ascending", each a candidate, and when "equal guesses both stay": for every call that is not refused, with a forbidden
-- list and without. Assumes nothing.
use mathlib.Core.Path.{◌≡◌, refl}
use mathlib.Core.Logic.{⊎_elim}
use mathlib.Core.Bool.{Bool, true, false, cond, true≢false, false≢true}
use mathlib.Core.List.Memᴰ
use mathlib.Core.List.{List, [], ◌∷◌}
use mathlib.Core.Option.{Option, none, some}
use Prim.Native.Nat.{ℕ, suc, ◌+◌, ◌-◌, ◌*◌, ◌/◌, ◌≤◌, ◌<◌}
use native.Mathlib.Omega.{arith}
use borrow.Author.Tests.{ltb-true, lt-ltb, leb-false, eqb-true, eqb-false}
use lib.Dec.{ltb, eqb}
use lib.ListN.{length, get_or}
use Rattle.scope.specs.Lists.{◌∈◌, keep, select, is_empty}
use Rattle.scope.specs.Asked.{Shortest, end_of}
use Rattle.scope.specs.Refusals.{test, first_of, given, most_length}
use Rattle.scope.specs.Candidates.{range_size, candidates, all_barred}
use Rattle.scope.specs.Allowed.{Allowed, Ascending, stands_twice, AllowedGuesses}
use Rattle.scope.specs.Curves.{is_member, quarters, quarters_of, above_last, guesses}
use Rattle.scope.specs.Calls.{listed, GuessesAsked, guesses_tests, guesses_answer}
use Rattle.scope.proofs.Lists.{select_are, select_all}
use Rattle.scope.proofs.Members.{at_in, member_in, in_member}
use Rattle.scope.proofs.Lowest.{holds, not_held, given_is, all_in_order}
use Rattle.scope.proofs.Candidates.{one_at_most, not_outside, no_pair, candidates_are, select_ascends}

-- ---- without a list: a quarter, a half and three quarters of the way, of which the half is always allowed
some_in : {A : Type 0} (x : A) (l : List A) → x ∈ l → 1 ≤ length l
some_in x [] i = absurd (Memᴰ.not-nil i)
some_in x (y ∷ l) i = omega arith

select_few : {A : Type 0} (p : A → Bool) (l : List A) → length (select p l) ≤ length l
unfolding select
select_few p [] = omega arith
select_few p (x ∷ l) = go (p x) (select_few p l)
  where
    go : (b : Bool) → length (select p l) ≤ length l → length (keep b x (select p l)) ≤ suc (length l)
    go true h = omega arith
    go false h = omega arith

module _ (s : Shortest) (start stop : ℕ) (least : 1 ≤ s.m) (long : 2 * s.m < end_of s stop - start) where
  abbrev is_candidate : ℕ → Bool
  is_candidate x = is_member x (candidates s [] start stop)

  half_allowed : Allowed s [] start stop ((start + stop) / 2)
  half_allowed = record { low = omega (arith, one_at_most s); high = omega (arith, one_at_most s); free = λ a b p. absurd (no_pair [] a b refl p) }

  -- of two rows, of which m is 1: the quarter stands at the start, the half and the three quarters a row past it
  first_no : stop - start ≡ 2 → is_candidate start ≡ false
  first_no two = go (is_candidate start) refl
    where
      go : (b : Bool) → is_candidate start ≡ b → b ≡ false
      go true e = let w = (candidates_are s [] start stop start).0 (member_in start _ e) in absurd (omega (arith, w.low))
      go false e = refl

  both_kept : stop - start ≡ 2 → guesses s none start stop ≡ (start + 1) ∷ (start + 1) ∷ []
  unfolding guesses select
  both_kept two =
      let quarter : (3 * start + stop) / 4 ≡ start = omega arith in
      let half : (start + stop) / 2 ≡ start + 1 = omega arith in
      let three : (start + 3 * stop) / 4 ≡ start + 1 = omega arith in
      let yes : is_candidate (start + 1) ≡ true = rw half at (in_member _ _ ((candidates_are s [] start stop _).1 half_allowed)) in
      rw (quarter, half, three, first_no two, yes)

  between : AllowedGuesses s [] (eqb (stop - start) 2) start stop (guesses s none start stop)
  unfolding guesses
  between =
      record {
        some =
            some_in ((start + stop) / 2) (select is_candidate (quarters start stop))
            (select_all is_candidate (quarters start stop) _ (Memᴰ.tail (Memᴰ.head refl)) (in_member _ _ ((candidates_are s [] start stop _).1 half_allowed)));
        few = select_few is_candidate (quarters start stop);
        ascending = λ e.
            let not-two = eqb-false (stop - start) 2 e in
            let more : 2 < stop - start = omega (arith, one_at_most s, not-two) in
            select_ascends is_candidate 0 (quarters start stop) (omega arith, (omega arith, (omega arith, tt)));
        equal = λ e. both_kept (eqb-true (stop - start) 2 e);
        allowed = λ x i. (candidates_are s [] start stop x).0 (member_in x _ (select_are is_candidate (quarters start stop) x i).1);
      }

-- ---- with a list: the candidates number c/4, c/2 and 3c/4, each only if above the last kept
above_ascends : (last : ℕ) (l : List ℕ) → Ascending (last + 1) (above_last last l)
above_ascends last [] = tt
above_ascends last (x ∷ l) = go (ltb last x) refl (above_ascends x l) (above_ascends last l)
  where
    go : (b : Bool) → ltb last x ≡ b → Ascending (x + 1) (above_last x l) → Ascending (last + 1) (above_last last l) → Ascending (last + 1) (cond b (x ∷ above_last x l) (above_last last l))
    go true e h k = (omega (arith, ltb-true last x e), h)
    go false e h k = k

above_few : (last : ℕ) (l : List ℕ) → length (above_last last l) ≤ length l
above_few last [] = omega arith
above_few last (x ∷ l) = go (ltb last x) (above_few x l) (above_few last l)
  where
    go : (b : Bool) → length (above_last x l) ≤ length l → length (above_last last l) ≤ length l → length (cond b (x ∷ above_last x l) (above_last last l)) ≤ suc (length l)
    go true h k = omega arith
    go false h k = omega arith

above_are : (last : ℕ) (l : List ℕ) (y : ℕ) → y ∈ above_last last l → y ∈ l
above_are last [] y i = i
above_are last (x ∷ l) y i = go (ltb last x) (above_are x l y) (above_are last l y) i
  where
    go : (b : Bool) → (y ∈ above_last x l → y ∈ l) → (y ∈ above_last last l → y ∈ l) → y ∈ cond b (x ∷ above_last x l) (above_last last l) → y ∈ x ∷ l
    go true h k i = ⊎_elim Memᴰ.head (λ j. Memᴰ.tail (h j)) (Memᴰ.cases_cons i)
    go false h k i = Memᴰ.tail (k i)

module _ (s : Shortest) (ps : List ℕ) (start stop : ℕ) (any : 0 < length (candidates s ps start stop)) where
  abbrev cs : List ℕ
  cs = candidates s ps start stop

  -- the candidate number i
  number : (i : ℕ) → i < length cs → (x : ℕ) → x ≡ get_or cs i 0 → Allowed s ps start stop x
  number i h x e = rw e ((candidates_are s ps start stop (get_or cs i 0)).0 (at_in cs i 0 h))

  quarter_allowed : (x : ℕ) → x ∈ quarters_of cs → Allowed s ps start stop x
  quarter_allowed x i =
      ⊎_elim (number (length cs / 4) (omega arith) x)
      (λ j.
      ⊎_elim (number (length cs / 2) (omega arith) x)
      (λ k. ⊎_elim (number (3 * length cs / 4) (omega arith) x) (λ l. absurd (Memᴰ.not-nil l)) (Memᴰ.cases_cons k))
      (Memᴰ.cases_cons j))
      (Memᴰ.cases_cons i)

  among : AllowedGuesses s ps false start stop (guesses s (some ps) start stop)
  unfolding guesses
  among =
      let first = get_or cs (length cs / 4) 0 in
      let later = get_or cs (length cs / 2) 0 ∷ get_or cs (3 * length cs / 4) 0 ∷ [] in
      record {
        some = omega arith;
        few = omega (arith, above_few first later);
        ascending = λ e. (omega arith, above_ascends first later);
        equal = λ e. absurd (false≢true e);
        allowed = λ x i. quarter_allowed x (⊎_elim Memᴰ.head (λ j. Memᴰ.tail (above_are first later x j)) (Memᴰ.cases_cons i));
      }

-- ---- a call that is not refused: 1 ≤ m by 2, a range by 9, and a candidate by 10
either : (s : Shortest) (f : Option (List ℕ)) (start stop : ℕ) → 1 ≤ s.m → 2 * s.m < end_of s stop - start → 0 < length (candidates s (listed f) start stop)
    → AllowedGuesses s (listed f) (stands_twice f start stop) start stop (guesses s f start stop)
either s none start stop least long any = between s start stop least long
either s (some ps) start stop least long any = among s ps start stop any

pub some_long : {A : Type 0} (l : List A) → is_empty l ≡ false → 0 < length l
some_long [] e = absurd (true≢false e)
some_long (x ∷ l) e = omega arith

module _ (a : GuessesAsked) (passed : first_of (guesses_tests a) ≡ 0) where
  held : (i : ℕ) → i < 6 → holds (get_or (guesses_tests a) i (test false 0)) ≡ false
  held = not_held (guesses_tests a) (all_in_order.guesses a) passed

  least : 1 ≤ a.shortest.m
  least = (not_outside most_length a.shortest.m (held 1 (omega arith))).0

  long : 2 * a.shortest.m < end_of a.shortest a.stop - a.start
  long = leb-false (end_of a.shortest a.stop - a.start) (2 * a.shortest.m) (held 4 (omega arith))

  any : 0 < length (candidates a.shortest (listed a.forbidden) a.start a.stop)
  unfolding all_barred range_size
  any =
      let size = end_of a.shortest a.stop - a.start - 2 * a.shortest.m in
      let some_rows : 0 < size = omega (arith, long) in
      some_long (candidates a.shortest (listed a.forbidden) a.start a.stop) (rw (lt-ltb 0 size some_rows) at (held 5 (omega arith)))

pub guesses_allowed : (a : GuessesAsked) (l : List ℕ) → guesses_answer a ≡ given l → AllowedGuesses a.shortest (listed a.forbidden) (stands_twice a.forbidden a.start a.stop) a.start a.stop l
unfolding guesses_answer
guesses_allowed a l e =
    let (passed, is) = given_is (first_of (guesses_tests a)) (guesses a.shortest a.forbidden a.start a.stop) l e in
    rw is at (either a.shortest a.forbidden a.start a.stop (least a passed) (long a passed) (any a passed))

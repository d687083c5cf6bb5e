-- What holds where a call is not refused, and what it answers. Assumes nothing.
use mathlib.Core.Path.{◌≡◌, refl, sym, ◌∙◌, ap}
use mathlib.Core.Bool.{Bool, true, false, cond}
use mathlib.Core.List.{List, [], ◌∷◌}
use mathlib.Core.Option.{some}
use Prim.Native.Nat.{ℕ, ◌-◌, ◌*◌, ◌≤◌, ◌<◌}
use native.Mathlib.Omega.{arith}
use borrow.Author.Tests.{eqb-true, not-false}
use lib.Dec.{leb}
use lib.ListN.{length, drop}
use Rattle.std.specs.Prelude.{Option as Lent, Some, None}
use Rattle.std.specs.Borrow.{Bor}
use Rattle.std.specs.Option.{unwrap_or}
use Rattle.scope.specs.Lists.{is_empty}
use Rattle.scope.specs.Asked.{end_of}
use Rattle.scope.specs.Refusals.{first_of, refused, given}
use Rattle.scope.specs.Candidates.{candidates}
use Rattle.scope.specs.Curves.{picked, guesses}
use Rattle.scope.specs.Calls.{Split, split_of, PickAsked, pick_tests, pick_answer, listed, GuessesAsked, guesses_tests, guesses_answer}
use Rattle.scope.proofs.Never.{never}
use Rattle.scope.proofs.Guesses.{some_long}
use Rattle.scope.proofs.Candidates.{refusal_9_10, not_outside}
use Rattle.control.proofs.Sizes.{segment}
use Rattle.control.specs.declared.refusal.Refusal.{Refusal}
use Rattle.control.specs.Refused.{number_of}
use Rattle.control.proofs.Clean.{passed, answers}
use Rattle.control.proofs.Follows.{answer_refused, answer_given}
use Rattle.entry_two_step.specs.Answers.{list_lent}

-- ---- guesses and pick
pub record GuessesClean (a : GuessesAsked) : Type 0 where
  pub ordered : a.start ≤ a.stop
  pub within : a.stop ≤ 4096
  pub least : 1 ≤ a.shortest.m
  pub length_fits : a.shortest.m ≤ 4096
  pub some_row : 0 < length (candidates a.shortest (listed a.forbidden) a.start a.stop)

nine_ten : (c : Bool) → ◌≡◌ {A = ℕ} (cond c 9 10) 0 → ⊥
nine_ten true z = omega arith
nine_ten false z = omega arith

not_empty : (b c : Bool) → ◌≡◌ {A = ℕ} (cond b (cond c 9 10) 0) 0 → b ≡ false
not_empty true c h = absurd (nine_ten c h)
not_empty false c h = refl

pub guesses_clean : (a : GuessesAsked) → first_of (guesses_tests a) ≡ 0 → GuessesClean a
guesses_clean a e =
    let p = passed (guesses_tests a) tt e in
    let rows = not_outside 4096 a.n p.0 in
    let m = not_outside 4096 a.shortest.m p.1.0 in
    let seg = segment a.n a.start a.stop p.1.1.1.0 in
    let rest = drop 4 (guesses_tests a) in
    let cs = candidates a.shortest (listed a.forbidden) a.start a.stop in
    let some_left = not_empty (is_empty cs) (leb (end_of a.shortest a.stop - a.start) (2 * a.shortest.m)) (sym (refusal_9_10 a.shortest (listed a.forbidden) a.start a.stop) ∙ sym (answers rest (false ∷ false ∷ []) p.1.1.1.1)) in
    record { ordered = seg.0; within = omega arith; least = m.0; length_fits = m.1; some_row = some_long cs some_left }

-- a pick's guesses
abbrev pub guessing : PickAsked → GuessesAsked
guessing a = record { n = a.n; shortest = a.shortest; forbidden = some a.forbidden; start = a.start; stop = a.stop }

pub pick_clean : (a : PickAsked) → first_of (pick_tests a) ≡ 0 → GuessesClean (guessing a) × (length a.curve ≡ a.stop - a.start)
pick_clean a e =
    let p = passed (pick_tests a) tt e in (
      guesses_clean (guessing a) (sym (answers (guesses_tests (guessing a)) (false ∷ false ∷ false ∷ false ∷ false ∷ false ∷ []) (p.0, (p.1.0, (p.1.1.0, (p.1.1.1.0, (p.1.1.1.1.0, (p.1.1.1.1.1.0, tt)))))))),
      eqb-true (length a.curve) (a.stop - a.start) (not-false _ p.1.1.1.1.1.1.1.0),
    )

-- ---- a list that is lent or not: what is looked at of it
pub listed_is : (o : Lent (Bor (List ℕ))) (empty : Bor (List ℕ)) → empty.now ≡ [] → (unwrap_or o empty).now ≡ listed (list_lent o)
listed_is (Some l) empty h = refl
listed_is None empty h = h

-- ---- what a call answers
pub pick_refused : (a : PickAsked) (r : Refusal) → number_of r ≡ first_of (pick_tests a) → refused (number_of r) ≡ pick_answer a
unfolding pick_answer
pick_refused a r is = answer_refused r is _

pub pick_given : (a : PickAsked) (s : Split) → 0 ≡ first_of (pick_tests a) → s ≡ split_of (picked a.shortest a.forbidden a.start a.stop a.guess a.curve) → given s ≡ pick_answer a
unfolding pick_answer
pick_given a s none e = ap given e ∙ answer_given none _

-- the guesses of what is looked at of the list
module _ (a : GuessesAsked) (l : List ℕ) (is : l ≡ listed a.forbidden) where
  abbrev looked_at : List ℕ → GuessesAsked
  looked_at z = record { n = a.n; shortest = a.shortest; forbidden = some z; start = a.start; stop = a.stop }

  same_tests : first_of (guesses_tests (looked_at l)) ≡ first_of (guesses_tests a)
  same_tests = ap (λ (z : List ℕ). first_of (guesses_tests (looked_at z))) is

  pub guesses_refused : (r : Refusal) → number_of r ≡ first_of (guesses_tests (looked_at l)) → refused (number_of r) ≡ guesses_answer a
  unfolding guesses_answer
  guesses_refused r e = answer_refused r (e ∙ same_tests) _

  pub guesses_given : (rows : List ℕ) → 0 ≡ first_of (guesses_tests (looked_at l)) → rows ≡ guesses a.shortest a.forbidden a.start a.stop → given rows ≡ guesses_answer a
  unfolding guesses_answer
  guesses_given rows none e = ap given e ∙ answer_given (none ∙ same_tests) _

pub lent_is : (o : Lent (Bor (List ℕ))) (l : List ℕ) (x : Bor (List ℕ)) → o ≡ Some x → l ≡ listed (list_lent o) → some l ≡ list_lent o
lent_is (Some y) l x e h = ap some h
lent_is None l x e h = never (cc)

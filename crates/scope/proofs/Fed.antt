-- While a deck feeds, from an opening that is not refused and by whatever steps: the sums are those of the cells taken, and the later sheet is the whole call's. Assumes nothing.
use mathlib.Core.Path.{◌≡◌, refl, sym, ◌∙◌, ap, subst}
use mathlib.Core.Bool.{true, false}
use mathlib.Core.List.{List, [], ◌∷◌, ◌++◌, append-nil, append_assoc}
use Prim.Native.Nat.{ℕ, zero, suc, ◌+◌, ◌*◌, ◌≤◌}
use native.Mathlib.Nat.{add-mul}
use native.Mathlib.Omega.{arith}
use borrow.Author.Tests.{ltb-false, le-ltb, eq-eqb, not-false}
use lib.Dec.{ltb}
use lib.Ieee.{Float}
use lib.ListN.{length, length-append, length-drop}
use lib.Seq.{take_at}
use Rattle.scope.specs.Floats.{is_finite}
use Rattle.scope.specs.Lists.{every, holding}
use Rattle.scope.specs.Asked.{Matrix, Settings}
use Rattle.scope.specs.Refusals.{Test, test, first_of, unless, told_unless, left_unless, outside, most_rows, wrong_sizes, wrong_matrix, no2, no3, no5, no7}
use Rattle.scope.specs.Sums.{flat_sums, prefix_sums}
use Rattle.scope.specs.Draws.{source_tests, no8_draws}
use Rattle.scope.specs.Tree.{Run, tree_of, records_of, nodes, sheet}
use Rattle.scope.specs.Calls.{sums_of, Room, room_tests, run_on, counts_of, run_of, run_follows, tree_refusal, tree_call, counted_refusal, counted_call}
use Rattle.scope.specs.Feed.{OpenAsked, open_tests, open_refusal, open_call, fed_sums, FeedAsked, feed_tests, feed_refusal, feed_call, close_tests, close_answer, fed_refusal, fed_room, fed_run, fed_call, fed_counted_refusal, fed_counted_call}
use Rattle.scope.specs.Fed.{Step, lot, closing, Handed, state_or, taken_by, handed_on, after, opened_in, later_of, whole_of, SameSheet, AsWhole, SoFar, WhileFed}
use Rattle.scope.proofs.Candidates.{or_false, not_outside}
use Rattle.scope.proofs.Every.{every_append}
use Rattle.scope.proofs.Lowest.{not_held}
use Rattle.scope.proofs.Sums.{length_flat}
use Rattle.scope.proofs.Feed.{sums_on}

-- a test that does not hold changes no number
unheld : (xs : List Test) (k : ℕ) (ys : List Test) → first_of (xs ++ (test false k ∷ ys)) ≡ first_of (xs ++ ys)
unheld [] k ys = refl
unheld (test true j ∷ xs) k ys = refl
unheld (test false j ∷ xs) k ys = unheld xs k ys

two_unheld : (xs : List Test) (j k : ℕ) → first_of (xs ++ (test false j ∷ test false k ∷ [])) ≡ first_of xs
two_unheld xs j k = unheld xs j (test false k ∷ []) ∙ unheld xs k [] ∙ ap first_of (append-nil xs)

-- 4 in the one list, and 13 and 14 behind the other
same_number : (first mid last : List Test) → first_of ((first ++ mid) ++ (last ++ (test false 13 ∷ test false 14 ∷ []))) ≡ first_of ((first ++ (test false 4 ∷ mid)) ++ last)
same_number first mid last =
    ap first_of (sym (append_assoc (first ++ mid) last _)) ∙ two_unheld ((first ++ mid) ++ last) 13 14 ∙ ap first_of (append_assoc first mid last)
    ∙ sym (unheld first 4 (mid ++ last)) ∙ ap first_of (sym (append_assoc first (test false 4 ∷ mid) last))

-- one run and one number have one sheet
same_sheet : {q q' : Run} {k k' : ℕ} (sums sums' : List Float) → q ≡ q' → k ≡ k' → SameSheet (run_follows q sums k) (run_follows q' sums' k')
same_sheet sums sums' e f = record {
  answer = λ i. unless (f i) (counts_of (e i));
  records = λ i. told_unless (f i) (records_of (e i));
  nodes = λ i. told_unless (f i) (nodes 0 (tree_of (e i)));
  cuts = λ i. told_unless (f i) (sheet (tree_of (e i)));
}

-- ---- all cells of a matrix are taken, and nothing of it is refused
module _ (cells : List Float) (n d : ℕ) (found : List Float) (long : length cells ≡ n * d) (sizes : wrong_sizes most_rows n d ≡ false) (finite : every is_finite cells ≡ true) (fits : (n + 1) * d ≤ length found) where
  abbrev x : Matrix
  x = record { cells = cells; n = n; d = d }

  abbrev fed : Handed
  fed = record { state = record { n = n; d = d; count = length cells }; sums = holding (sums_of x) found; taken = cells }

  length_sums : length (sums_of x) ≡ (n + 1) * d
  unfolding prefix_sums
  length_sums = length_flat cells d (n * d) ∙ omega (arith, add-mul n 1 d)

  as_long : length (holding (sums_of x) found) ≡ length found
  as_long = length-append (sums_of x) _ ∙ rw length-drop (let e = length_sums in omega arith)

  -- the later sheet reads them
  same_run : (s : Settings) → fed_run fed.state s fed.sums ≡ run_of x s
  same_run s = ap (λ (sums : List Float). run_on sums n d s) (take_at (sums_of x) _ ((n + 1) * d) length_sums)

  not_13 : ltb (n * d) (length cells + 0) ≡ false
  not_13 = le-ltb (n * d) (length cells + 0) (omega (arith, long))

  not_14 : ltb (length cells) (n * d) ≡ false
  not_14 = le-ltb (length cells) (n * d) (omega (arith, long))

  not_1 : wrong_matrix most_rows cells n d ≡ false
  unfolding wrong_matrix
  not_1 = rw (sizes, eq-eqb (length cells) (n * d) long)

  module _ (s : Settings) (room : Room) where
    -- the tests of both, up to 3, and from 5 to 7
    abbrev first : List Test
    first = test false 1 ∷ no2 s.shortest ∷ no3 s.threshold ∷ []

    abbrev mid : List Test
    mid = no5 s.forbidden ∷ source_tests s.source ++ room_tests n d s.shortest s.source (whole_of x found s room).room

    number : fed_refusal fed.state s (fed_room (later_of fed s room)) ≡ tree_refusal (whole_of x found s room)
    unfolding fed_refusal tree_refusal
    number = rw (sizes, as_long, not_13, not_14, not_1, finite) (same_number first mid (no8_draws n s.source ∷ []))

    host_number : (counts : ℕ) → fed_counted_refusal fed.state s (fed_room (later_of fed s room)) counts ≡ counted_refusal (whole_of x found s room) counts
    unfolding fed_counted_refusal counted_refusal
    host_number counts = rw (sizes, as_long, not_13, not_14, not_1, finite) (same_number first mid (no7 4 counts ∷ no8_draws n s.source ∷ []))

  pub as_whole : AsWhole x found fed
  unfolding close_answer fed_call tree_call fed_counted_call counted_call
  as_whole =
      record {
        sums = refl;
        closes = rw (sizes, not_13, not_14);
        sheet = λ s room. same_sheet [] (sums_of x) (same_run s) (number s room);
        host_sheet = λ s room counts. same_sheet [] (sums_of x) (same_run s) (host_number s room counts);
      }

-- ---- step by step
module _ (n d : ℕ) (found : List Float) (sizes : wrong_sizes most_rows n d ≡ false) (fits : (n + 1) * d ≤ length found) where
  columns : 1 ≤ d
  columns = (not_outside 64 d (or_false (outside most_rows n) (outside 64 d) sizes).1).0

  opens : SoFar n d found (opened_in n d found)
  unfolding open_call open_refusal flat_sums every
  opens =
      record {
        state = refl;
        few = omega arith;
        finite = refl;
        sums = rw (sizes, le-ltb (length found) ((n + 1) * d) fits);
      }

  -- what is held once these cells are taken
  abbrev holding_sums : List Float → List Float
  holding_sums taken = holding (flat_sums taken d (length taken)) found

  abbrev with_taken : List Float → Handed
  with_taken taken = record { state = record { n = n; d = d; count = length taken }; sums = holding_sums taken; taken = taken }

  is_with : (h : Handed) → SoFar n d found h → h ≡ with_taken h.taken
  is_with h far = λ i. record { state = far.state i; sums = far.sums i; taken = h.taken }

  module _ (taken : List Float) (few : length taken ≤ n * d) (finite : every is_finite taken ≡ true) where
    -- closing leaves the state, whether it is refused or not
    close_on : (k : ℕ) → SoFar n d found (record { state = state_or (unless k (with_taken taken).state) (with_taken taken).state; sums = holding_sums taken; taken = taken })
    close_on zero = record { state = refl; few = few; finite = finite; sums = refl }
    close_on (suc k) = record { state = refl; few = few; finite = finite; sums = refl }

    -- a lot is taken, or it is refused
    module _ (cells : List Float) where
      abbrev a : FeedAsked
      a = record { state = (with_taken taken).state; lot = cells; sums = holding_sums taken }

      abbrev fed_on : List Float
      fed_on = fed_sums cells d (length taken) (holding_sums taken) (length cells)

      sums_are : length taken + length cells ≤ n * d → fed_on ≡ holding_sums (taken ++ cells)
      sums_are h =
          rw (length_flat (taken ++ cells) d (length (taken ++ cells)), length-append taken cells, length_flat taken d (length taken))
          (sums_on taken cells d found columns (length cells) (omega arith) (omega (arith, h, fits, add-mul n 1 d)))

      lot_on : (k : ℕ) → feed_refusal a.state cells (length a.sums) ≡ k
          → SoFar n d found (record { state = state_or (unless k (record { n = n; d = d; count = length taken + length cells })) (with_taken taken).state; sums = left_unless k (holding_sums taken) fed_on; taken = taken ++ taken_by (unless k (record { n = n; d = d; count = length taken + length cells })) cells })
      unfolding feed_refusal
      lot_on zero e =
          let few-more = ltb-false (n * d) (length taken + length cells) (not_held (feed_tests a.state cells (length a.sums)) refl e 3 (omega arith)) in
          let good = not-false (every is_finite cells) (not_held (feed_tests a.state cells (length a.sums)) refl e 1 (omega arith)) in
          record {
            state = rw (length-append taken cells);
            few = rw (length-append taken cells) few-more;
            finite = rw (every_append is_finite taken cells, finite, good);
            sums = sums_are few-more;
          }
      lot_on (suc k) e = rw (append-nil taken) (record { state = refl; few = few; finite = finite; sums = refl })

    step_on : (s : Step) → SoFar n d found (handed_on (with_taken taken) s)
    unfolding handed_on close_answer feed_call
    step_on closing = close_on (first_of (close_tests (with_taken taken).state))
    step_on (lot cells) = lot_on cells _ refl

  goes_on : (h : Handed) → SoFar n d found h → (s : Step) → SoFar n d found (handed_on h s)
  goes_on h far s = subst (λ (z : Handed). SoFar n d found (handed_on z s)) (sym (is_with h far)) (step_on h.taken far.few far.finite s)

  -- whatever the steps are
  all_steps : (h : Handed) → SoFar n d found h → (steps : List Step) → SoFar n d found (after h steps)
  unfolding after
  all_steps h far [] = far
  all_steps h far (s ∷ steps) = all_steps (handed_on h s) (goes_on h far s) steps

  taken_whole : (h : Handed) → SoFar n d found h → length h.taken ≡ n * d → AsWhole (record { cells = h.taken; n = n; d = d }) found h
  unfolding prefix_sums
  taken_whole h far long =
      let w = as_whole h.taken n d found long sizes far.finite fits in
      let e : with_taken h.taken ≡ fed h.taken n d found long sizes far.finite fits = ap (λ (k : ℕ). record { state = (with_taken h.taken).state; sums = holding (flat_sums h.taken d k) found; taken = h.taken }) long in
      subst (AsWhole (record { cells = h.taken; n = n; d = d }) found) (sym (is_with h far ∙ e)) w

-- from an opening that is not refused
pub while_fed : (n d : ℕ) (found : List Float) → open_refusal (record { n = n; d = d; room = length found }) ≡ 0 → (steps : List Step) → WhileFed n d found (after (opened_in n d found) steps)
unfolding open_refusal
while_fed n d found e steps =
    let a : OpenAsked = record { n = n; d = d; room = length found } in
    let sizes = not_held (open_tests a) refl e 0 (omega arith) in
    let fits = ltb-false (length found) ((n + 1) * d) (not_held (open_tests a) refl e 1 (omega arith)) in
    let h = after (opened_in n d found) steps in
    let far = all_steps n d found sizes fits (opened_in n d found) (opens n d found sizes fits) steps in
    record { so_far = far; whole = taken_whole n d found sizes fits h far }

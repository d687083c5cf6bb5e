-- What holds where a call is not refused, and what a call leaves. Assumes nothing.
use mathlib.Core.Path.{◌≡◌, refl, ◌∙◌, ap}
use mathlib.Core.List.{List, [], ◌∷◌}
use Prim.Native.Nat.{ℕ, ◌≤◌}
use native.Mathlib.Omega.{arith}
use borrow.Author.Tests.{ltb-false}
use lib.Ieee.{Float}
use lib.ListN.{length}
use Rattle.scope.specs.Lists.{holding}
use Rattle.scope.specs.Asked.{Matrix}
use Rattle.scope.specs.Refusals.{first_of, Answer, refused, given, no9}
use Rattle.scope.specs.Candidates.{range_size, candidates, no10}
use Rattle.scope.specs.Sums.{flat_sums}
use Rattle.scope.specs.Gain.{gain_of}
use Rattle.scope.specs.Grid.{blank, best, trials}
use Rattle.scope.specs.Calls.{Split, split_of, sums_of, gain_in, CandidatesAsked, candidates_tests, candidates_refusal, candidates_call, GainAsked, gain_tests, gain_refusal, gain_call, SearchAsked, search_tests, search_refusal, search_call}
use Rattle.scope.proofs.Candidates.{not_outside}
use Rattle.control.specs.declared.refusal.Refusal.{Refusal}
use Rattle.control.specs.Refused.{number_of}
use Rattle.control.proofs.Sizes.{segment, split_in}
use Rattle.control.proofs.Clean.{passed}
use Rattle.control.proofs.Follows.{answer_refused, held_refused, answer_given, held_given}
use Rattle.optimizer.specs.Records.{split_found, searched}
use Rattle.change_in_mean.proofs.Room.{SumsClean, sums_clean, sums_are}
use Rattle.entry_mean.specs.Left.{CandidatesLeft, GainLeft, SearchLeft}

-- ---- candidates
pub record CandidatesClean (a : CandidatesAsked) : Type 0 where
  pub ordered : a.start ≤ a.stop
  pub within : a.stop ≤ 4096
  pub length_fits : a.shortest.m ≤ 4096
  pub fits : range_size a.shortest a.start a.stop ≤ a.room

pub candidates_clean : (a : CandidatesAsked) → candidates_refusal a ≡ 0 → CandidatesClean a
unfolding candidates_refusal
candidates_clean a e =
    let p = passed (candidates_tests a) tt e in
    let rows = not_outside 4096 a.n p.0 in
    let seg = segment a.n a.start a.stop p.1.1.1.1.0 in
    record {
      ordered = seg.0;
      within = omega arith;
      length_fits = (not_outside 4096 a.shortest.m p.1.0).1;
      fits = ltb-false a.room (range_size a.shortest a.start a.stop) p.1.1.1.0;
    }

module _ (a : CandidatesAsked) (rows : List ℕ) where
  abbrev found_rows : List ℕ
  found_rows = candidates a.shortest a.forbidden a.start a.stop

  pub candidates_refused : (r : Refusal) → number_of r ≡ candidates_refusal a → CandidatesLeft a (refused (number_of r)) rows rows
  unfolding candidates_call
  candidates_refused r is = record { answer = answer_refused r is (length found_rows); rows = held_refused r is (λ l. l) found_rows rows refl }

  pub candidates_given : (k : ℕ) {rows' : List ℕ} → 0 ≡ candidates_refusal a → k ≡ length found_rows → rows' ≡ holding found_rows rows → CandidatesLeft a (given k) rows rows'
  unfolding candidates_call
  candidates_given k none e h = record { answer = ap given e ∙ answer_given none (length found_rows); rows = held_given none (λ l. l) found_rows rows h }

-- ---- gain
pub record GainClean (a : GainAsked) : Type 0 where
  pub sums : SumsClean a.matrix a.room
  pub seg : (a.start ≤ a.stop) × (a.stop ≤ a.matrix.n)
  pub at : (a.start ≤ a.split) × (a.split ≤ a.stop)

pub gain_clean : (a : GainAsked) → gain_refusal a ≡ 0 → GainClean a
unfolding gain_refusal
gain_clean a e =
    let p = passed (gain_tests a) tt e in
    record {
      sums = sums_clean a.matrix a.room p.0 p.1.1.0;
      seg = segment a.matrix.n a.start a.stop p.1.1.1.0;
      at = split_in a.start a.stop a.split p.1.1.1.1.0;
    }

-- the sums of a matrix, as calculated
abbrev summed : Matrix → List Float
summed x = flat_sums x.cells x.d (length x.cells)

module _ (a : GainAsked) (sums : List Float) where
  abbrev gained : Float
  gained = gain_in a.matrix a.start a.stop a.split

  pub gain_refused : (r : Refusal) → number_of r ≡ gain_refusal a → GainLeft a (refused (number_of r)) sums sums
  unfolding gain_call
  gain_refused r is = record { answer = answer_refused r is gained; sums = held_refused r is (λ l. l) (sums_of a.matrix) sums refl }

  pub gain_given : {sums' part : List Float} (g : Float) → SumsClean a.matrix a.room → 0 ≡ gain_refusal a → sums' ≡ holding (summed a.matrix) sums → part ≡ sums_of a.matrix
      → g ≡ gain_of part a.matrix.d a.start a.stop a.split → GainLeft a (given g) sums sums'
  unfolding gain_call
  gain_given g w none h e k =
      record {
        answer = ap given (k ∙ ap (λ (l : List Float). gain_of l a.matrix.d a.start a.stop a.split) e) ∙ answer_given none gained;
        sums = held_given none (λ l. l) (sums_of a.matrix) sums (h ∙ sums_are a.matrix a.room w sums);
      }

-- ---- search
pub record SearchClean (a : SearchAsked) : Type 0 where
  pub sums : SumsClean a.matrix a.room
  pub length_fits : a.shortest.m ≤ 4096
  pub seg : (a.start ≤ a.stop) × (a.stop ≤ a.matrix.n)
  -- 9 and 10 don't apply either
  pub some : first_of (no9 a.shortest a.start a.stop ∷ no10 a.shortest a.forbidden a.start a.stop ∷ []) ≡ 0

pub search_clean : (a : SearchAsked) → search_refusal a ≡ 0 → SearchClean a
unfolding search_refusal
search_clean a e =
    let p = passed (search_tests a) tt e in
    record {
      sums = sums_clean a.matrix a.room p.0 p.1.1.1.1.0;
      length_fits = (not_outside 4096 a.shortest.m p.1.0).1;
      seg = segment a.matrix.n a.start a.stop p.1.1.1.1.1.0;
      some = rw (p.1.1.1.1.1.1.0, p.1.1.1.1.1.1.1.0);
    }

module _ (a : SearchAsked) (sums : List Float) where
  abbrev found_split : Split
  found_split = split_of (best (blank a.start a.stop) (trials (gain_in a.matrix) a.shortest a.forbidden a.start a.stop))

  pub search_refused : (r : Refusal) → number_of r ≡ search_refusal a → SearchLeft a (refused (number_of r)) sums sums
  unfolding search_call
  search_refused r is = record { answer = answer_refused r is found_split; sums = held_refused r is (λ l. l) (sums_of a.matrix) sums refl }

  -- where 9 and 10 don't apply, the search's answer is the best split
  answered : {part : List Float} → SearchClean a → part ≡ sums_of a.matrix → split_found (searched (gain_of part a.matrix.d) a.shortest a.forbidden a.start a.stop) ≡ given found_split
  unfolding searched
  answered f e = rw (e, f.some)

  pub search_given : {sums' part : List Float} (r : Answer Split) → SearchClean a → 0 ≡ search_refusal a → sums' ≡ holding (summed a.matrix) sums → part ≡ sums_of a.matrix
      → r ≡ split_found (searched (gain_of part a.matrix.d) a.shortest a.forbidden a.start a.stop) → SearchLeft a r sums sums'
  unfolding search_call
  search_given r f none h e k =
      record {
        answer = k ∙ answered f e ∙ answer_given none found_split;
        sums = held_given none (λ l. l) (sums_of a.matrix) sums (h ∙ sums_are a.matrix a.room f.sums sums);
      }

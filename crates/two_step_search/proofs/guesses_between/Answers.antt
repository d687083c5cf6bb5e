-- `guesses_between` meets its contract: the three quarters, each kept if it is a candidate.
use Rattle.std.proofs.Common.{◌∙◌, ℕ, ◌+◌, ◌*◌, ◌/◌, Bool, []}
use Rattle.scope.specs.Lists.{select}
use Rattle.scope.specs.Candidates.{candidates}
use Rattle.scope.specs.Curves.{is_member, guesses}
use Rattle.control.specs.Settings.{shortest_of}
use Rattle.two_step_search.proofs.Guessing.{quarters_past, three_kept}
use Rattle.two_step_search.proofs.guesses_between.Goals as goal

pub returns : goal.returns
unfolding guesses select
returns c =
    let a = c.args.segment.start.0 in
    let b = c.args.segment.stop.0 in
    let long = c.length-long.ensures in
    let past = quarters_past a b c.requires.0 in
    let first = rw long at c.position_from-first.ensures ∙ past.0 in
    let second = rw long at c.position_from-second.ensures ∙ past.1 in
    let third = rw long at c.position_from-third.ensures ∙ past.2 in
    let is : ℕ → Bool = λ x. is_member x (candidates (shortest_of c.args.shortest) [] a b) in
    c.and_if.ensures
    ∙ rw (c.and_if-two.ensures, c.and_if-one.ensures, c.is_candidate.ensures, c.is_candidate-2.ensures, c.is_candidate-3.ensures, first, second, third)
    (three_kept (is ((3 * a + b) / 4)) (is ((a + b) / 2)) (is ((a + 3 * b) / 4)) ((3 * a + b) / 4) ((a + b) / 2) ((a + 3 * b) / 4))

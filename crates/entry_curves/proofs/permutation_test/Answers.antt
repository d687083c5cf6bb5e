-- `permutation_test` meets its contract: a refusal; or the counter, p and whether it is significant.
use Rattle.std.proofs.Common.{rules, ◌≡◌, Err, sym, arith}
use Rattle.scope.specs.Calls.{within, permutation_answer, tested_of, counter_of}
use Rattle.control.proofs.Follows.{answer_refused, answer_given}
use Rattle.classifier_gain.specs.Asked.{permutation_asked}
use Rattle.entry_curves.proofs.Admitted.{permutation_admitted}
use Rattle.permutation_test.proofs.Counted.{counter_most}
use Rattle.entry_curves.proofs.permutation_test.Goals as goal

pub returns-in_err-permutation_refusal : goal.returns-in_err-permutation_refusal
unfolding permutation_answer
returns-in_err-permutation_refusal c =
    let asked = permutation_asked c.args.curves c.args.permutations c.args.shortest c.args.alpha c.args.maximum in
    let r = c.in_err-permutation_refusal.field-0.0 in
    let is : c.from_residual.result ≡ Err r = search rules in
    rw is (answer_refused r c.in_err-permutation_refusal.ensures (tested_of asked.alpha asked.P (counter_of (within asked))))

pub permutation_count-counter-requires-clause-le_k : goal.permutation_count-counter-requires-clause-le_k
permutation_count-counter-requires-clause-le_k c =
    let f = permutation_admitted (within (permutation_asked c.args.curves c.args.permutations c.args.shortest c.args.alpha c.args.maximum)) (sym c.in_ok-permutation_refusal.ensures) in
    (f.count.0, f.count.1, f.margin.0, rw c.first_length-l.ensures f.margin.1)

pub p_value-p_value-requires : goal.p_value-p_value-requires
p_value-p_value-requires c =
    let asked = within (permutation_asked c.args.curves c.args.permutations c.args.shortest c.args.alpha c.args.maximum) in
    let few = (permutation_admitted asked (sym c.in_ok-permutation_refusal.ensures)).few in
    (omega (arith, c.permutation_count-counter.ensures, counter_most asked.shortest c.first_length-l.result asked.bases asked.curves asked.maximum asked.permutations asked.P, few), few)

pub returns : goal.returns
unfolding permutation_answer
returns c =
    let asked = permutation_asked c.args.curves c.args.permutations c.args.shortest c.args.alpha c.args.maximum in
    rw (c.is_significant.ensures, c.p_value-p_value.ensures, c.permutation_count-counter.ensures, c.first_length-l.ensures) (answer_given c.in_ok-permutation_refusal.ensures (tested_of asked.alpha asked.P (counter_of (within asked))))

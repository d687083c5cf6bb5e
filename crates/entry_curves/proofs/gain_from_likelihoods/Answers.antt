-- `gain_from_likelihoods` meets its contract: a refusal, and nothing is told; or the curve.
use Rattle.std.proofs.Common.{rules, ◌≡◌, Err, length, sym, refl}
use Rattle.scope.specs.Curves.{curve}
use Rattle.scope.specs.Calls.{curve_call}
use Rattle.control.proofs.Follows.{held_refused, held_given}
use Rattle.entry_curves.specs.Left.{curve_asked}
use Rattle.entry_curves.proofs.Admitted.{curve_admitted}
use Rattle.entry_curves.proofs.gain_from_likelihoods.Goals as goal

pub returns-in_err-curve_refusal : goal.returns-in_err-curve_refusal
unfolding curve_call
returns-in_err-curve_refusal c =
    let r = c.in_err-curve_refusal.field-0.0 in
    let is : c.from_residual.result ≡ Err r = search rules in
    record {
      answer = rw is c.in_err-curve_refusal.ensures;
      curve = held_refused r c.in_err-curve_refusal.ensures (λ l. l) (curve c.args.l0.now c.args.l1.now (length c.args.l0.now)) c.args.curve.now refl;
    }

pub gain_from_likelihoods-requires : goal.gain_from_likelihoods-requires
gain_from_likelihoods-requires c = curve_admitted (curve_asked c.args.l0.now c.args.l1.now c.args.curve.now) (sym c.in_ok-curve_refusal.ensures)

pub returns : goal.returns
unfolding curve_call
returns c =
    let none = c.in_ok-curve_refusal.ensures in
    record { answer = none; curve = held_given none (λ l. l) (curve c.args.l0.now c.args.l1.now (length c.args.l0.now)) c.args.curve.now c.gain_from_likelihoods.ensures }

use Rattle.std.proofs.Common.{◌∙◌}
use Rattle.checker.proofs.Reasons.{accepted_refute, counts_agree, why_unaccepted}
use Rattle.checker.proofs.refuting.refute.Goals as goal

pub returns-in-Ok-clause-refuted : goal.returns-in-Ok-clause-refuted
returns-in-Ok-clause-refuted g c =
    let is = c.into_parts-program.ensures.formula ∙ c.in_ok-encoded.ensures.formula in
    let f = c.into_parts-program.result.2 in
    accepted_refute c.args.program f c.args.refutation is
    (counts_agree c.args.program f c.args.refutation c.in_ok-encoded.ensures.within is (cc)) c.in-Ok.ensures.accepted c.in-Ok.ensures.needed

pub returns-in-Err-clause-reason : goal.returns-in-Err-clause-reason
returns-in-Err-clause-reason g c =
    let is = c.into_parts-program.ensures.formula ∙ c.in_ok-encoded.ensures.formula in
    let f = c.into_parts-program.result.2 in
    why_unaccepted c.args.program f c.args.refutation c.in-Err.reason is
    (counts_agree c.args.program f c.args.refutation c.in_ok-encoded.ensures.within is (cc)) c.in-Err.ensures.reason

use Rattle.std.proofs.Common.{refl, subst, sym}
use Rattle.callorder.specs.Resolving.{IsTextOf}
use Rattle.prover.proofs.Answering.{over_made}
use Rattle.prover.proofs.proving.answer_over.Goals as goal

pub answer_of-requires-after_bounds : goal.answer_of-requires-after_bounds
answer_of-requires-after_bounds g c κs within =
    let kept = c.in-Ok.ensures in
    over_made c.args.encoded.program c.args.encoded c.in-Ok.pool.held refl c.requires.formula c.requires.within kept.program kept.formula

pub returns-in-Ok : goal.returns-in-Ok
returns-in-Ok g c text is = c.answer_of.ensures.answer text (subst (IsTextOf text) (sym c.in-Ok.ensures.program) is)

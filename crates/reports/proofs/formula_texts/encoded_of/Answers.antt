use Rattle.prover.proofs.Answering.{formula_made}
use Rattle.reports.proofs.formula_texts.encoded_of.Goals as goal

pub returns-in-Ok-formula_of-clause-encoded : goal.returns-in-Ok-formula_of-clause-encoded
returns-in-Ok-formula_of-clause-encoded g c =
    let made = c.in-Ok-formula_of in
    formula_made c.args.program.now c.in-Ok.program made.encoded c.in-Ok.ensures.program made.ensures.of made.ensures.formula made.ensures.within

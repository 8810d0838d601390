use Rattle.std.proofs.Common.{inr}
use Rattle.prover.proofs.Answering.{assembled}
use Rattle.prover.proofs.proving.answer_of.Goals as goal

pub returns-in-Ok-clause-answer : goal.returns-in-Ok-clause-answer
returns-in-Ok-clause-answer g c = λ text is.
    c.tell_trimmed.ensures c.args.pool.held.program text c.requires.within (assembled c.args.pool.held c.in-Ok.evidence c.requires c.in-Ok.ensures.evidence) is

pub returns-in-Err-Memory-clause-answer : goal.returns-in-Err-Memory-clause-answer
returns-in-Err-Memory-clause-answer g c = λ text is. inr (c.args.pool.held.program, is, c.requires.within)

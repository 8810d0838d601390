-- Progress was told up to some text, and from there what may help.
use Rattle.std.proofs.Common.{inr}
use Rattle.session.proofs.commands.prove_advising.Goals as goal

pub returns-clause-followed : goal.returns-clause-followed
returns-clause-followed g c =
    (g.E.Write.contents c.prove_telling-answer.new.err, c.prove_telling-answer.ensures.told, inr (c.prove_telling-answer.result, c.advise.ensures))

use Rattle.deciding.proofs.Decided.{decides}
use Rattle.deciding.proofs.stages.decide_telling.Goals as goal

pub returns-in-Ok-clause-decided : goal.returns-in-Ok-clause-decided
returns-in-Ok-clause-decided g c =
    decides c.args.text.now c.in_ok-program.field-0.program c.in-Ok.decision c.in_ok-program.ensures.program c.in-Ok.ensures

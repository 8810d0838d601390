use Rattle.deciding.proofs.Decided.{decides}
use Rattle.deciding.proofs.texts.decide.Goals as goal

pub returns-in-Ok : goal.returns-in-Ok
returns-in-Ok c = decides c.args.text.now c.in_ok-program.program c.in-Ok.decision c.in_ok-program.ensures.program c.in-Ok.ensures

use Rattle.formula.proofs.Events as events
use Rattle.formula.proofs.laws.events_stand_once.Goals as goal

pub returns : goal.returns
returns c = events.events_stand_once

use Rattle.formula.proofs.Agreement as agreement
use Rattle.formula.proofs.laws.stated_events_are_listed.Goals as goal

pub returns : goal.returns
returns c = agreement.stated_events_are_listed

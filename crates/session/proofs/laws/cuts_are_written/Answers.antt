use Rattle.session.proofs.PhaseLaws.{cuts_written}
use Rattle.session.proofs.laws.cuts_are_written.Goals as goal

pub returns : goal.returns
returns c = cuts_written

use Rattle.session.proofs.PhaseLaws.{cuts_stay}
use Rattle.session.proofs.laws.cuts_stay_in_folder.Goals as goal

pub returns : goal.returns
returns c = cuts_stay

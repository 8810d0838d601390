use Rattle.sealing.proofs.Counterparts.{sure_partners_are_so}
use Rattle.sealing.proofs.laws.sure_partners_are_so.Goals as goal

pub returns : goal.returns
returns c = sure_partners_are_so

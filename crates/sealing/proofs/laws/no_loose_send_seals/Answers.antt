use Rattle.sealing.proofs.Seals.{no_loose_send_seals}
use Rattle.sealing.proofs.laws.no_loose_send_seals.Goals as goal

pub returns : goal.returns
returns c = no_loose_send_seals

use Rattle.pool.proofs.Histories.{stay_sound}
use Rattle.pool.proofs.laws.runs_stay_sound.Goals as goal

pub returns : goal.returns
returns c = stay_sound

use Rattle.trees.proofs.Splits.{splits_sound}
use Rattle.trees.proofs.laws.splits_are_sound.Goals as goal

pub returns : goal.returns
returns c = splits_sound

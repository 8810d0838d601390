use Rattle.spmd_text.proofs.OneText as one
use Rattle.spmd_text.proofs.laws.texts_are_one.Goals as goal

pub returns : goal.returns
returns c = one.texts_are_one

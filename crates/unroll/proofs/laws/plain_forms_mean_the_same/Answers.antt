use Rattle.unroll.proofs.Meanings as meanings
use Rattle.unroll.proofs.laws.plain_forms_mean_the_same.Goals as goal

pub returns : goal.returns
returns c = meanings.plain_forms_mean_the_same

use Rattle.checker.proofs.Headlines as headlines
use Rattle.checker.proofs.laws.never_both.Goals as goal

pub returns : goal.returns
returns c = headlines.never_both

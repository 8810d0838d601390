use Rattle.checker.proofs.Headlines as headlines
use Rattle.checker.proofs.laws.refuted_are_never_stuck.Goals as goal

pub returns : goal.returns
returns c = headlines.refuted_are_never_stuck

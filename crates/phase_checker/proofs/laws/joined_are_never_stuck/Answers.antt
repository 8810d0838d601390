use Rattle.phase_checker.proofs.Wholes.{joined_are_never_stuck}
use Rattle.phase_checker.proofs.laws.joined_are_never_stuck.Goals as goal

pub returns : goal.returns
returns c = joined_are_never_stuck

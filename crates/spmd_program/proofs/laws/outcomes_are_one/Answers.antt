use Rattle.spmd_program.proofs.OneOutcome as one
use Rattle.spmd_program.proofs.laws.outcomes_are_one.Goals as goal

pub returns : goal.returns
returns c = one.outcomes_are_one

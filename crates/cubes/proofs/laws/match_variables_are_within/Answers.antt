use Rattle.cubes.proofs.MatchVariables.{match_variables_within}
use Rattle.cubes.proofs.laws.match_variables_are_within.Goals as goal

pub returns : goal.returns
returns c = match_variables_within

use Rattle.std.proofs.Common.{rules}
use Rattle.cdcl.proofs.models.checked.Goals as goal

pub returns-clause-formula : goal.returns-clause-formula
returns-clause-formula c = search rules

pub returns-clause-cube : goal.returns-clause-cube
returns-clause-cube c = search rules

use Rattle.std.proofs.Common.{rules}
use Rattle.cdcl.proofs.solver.Solver.search.Goals as goal

pub returns-in-Memory : goal.returns-in-Memory
returns-in-Memory c = search rules

pub returns-in-Budget : goal.returns-in-Budget
returns-in-Budget c = search rules

pub returns-in-Model : goal.returns-in-Model
returns-in-Model c = search rules

pub returns-in-Closed : goal.returns-in-Closed
returns-in-Closed c = search rules

use Rattle.std.proofs.Common.{IfSome}
use Rattle.workers.specs.parts.Branching.{IsOneOf}
use Rattle.workers.proofs.branching.most_active.Given as goal

abbrev pub invariant-loop-variable : goal.invariant-loop-variable
invariant-loop-variable l = IfSome l.best (IsOneOf l.path l.variables)

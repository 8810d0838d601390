use Rattle.std.proofs.Common.{◌≡◌, filter, take}
use Rattle.finishing.specs.Formula.{says_more}
use Rattle.finishing.proofs.finishing_formula.kept_clauses.Given as goal

abbrev pub invariant-loop-clause : goal.invariant-loop-clause
invariant-loop-clause l = l.kept.items ≡ filter (says_more l.encoded.program) (take l.clause-index l.clause-items)

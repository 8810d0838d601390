use Rattle.std.proofs.Common.{◌≡◌, ◌++◌, take}
use Rattle.std.specs.List.{flat_map}
use Rattle.exports.specs.Dimacs.{dimacs_clause}
use Rattle.exports.proofs.dimacs.put_clauses.Given as goal

abbrev pub invariant-loop-clause : goal.invariant-loop-clause
invariant-loop-clause l = l.out.items ≡ l.fn.out.items ++ flat_map dimacs_clause (take l.clause-index l.clauses)

use Rattle.std.proofs.Common.{◌≡◌, ◌++◌, take}
use Rattle.std.specs.List.{flat_map}
use Rattle.formula.specs.Families.{when_returned}
use Rattle.finishing.specs.Formula.{is_met}
use Rattle.finishing.proofs.endings.push_returned.Given as goal

abbrev pub invariant-loop-call : goal.invariant-loop-call
invariant-loop-call l = l.clauses ≡ l.initial.clauses ++ flat_map (λ c. is_met l.program (when_returned l.program c)) (take l.call-index l.call-items)

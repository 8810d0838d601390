use Rattle.std.proofs.Common.{◌≡◌, ◌++◌, map, take}
use Rattle.formula.specs.declared.facts.Fact.TheVariants.{Matched as matched}
use Rattle.formula.specs.declared.facts.Statement.TheVariants.{Holds as is_true}
use Rattle.formula_families.proofs.lists.push_takers.Given as goal

abbrev pub invariant-loop-taker : goal.invariant-loop-taker
invariant-loop-taker l = l.clause.items ≡ l.initial.clause.items ++ map (λ taker. is_true (matched l.send taker)) (take l.taker-index l.takers)

use Rattle.std.proofs.Common.{◌≡◌, map, take}
use Rattle.formula.specs.declared.facts.Fact.TheVariants.{Unfinished as unfinished}
use Rattle.formula.specs.declared.facts.Statement.TheVariants.{Holds as is_true}
use Rattle.formula.specs.Families.{rank_of}
use Rattle.formula_families.proofs.families.some_is_unfinished.Given as goal

abbrev pub invariant-loop-call : goal.invariant-loop-call
invariant-loop-call l = l.clause.items ≡ map (λ c. is_true (unfinished (rank_of l.source c))) (take l.call-index l.call-items)

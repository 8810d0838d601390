use Rattle.std.proofs.Common.{◌≡◌, ◌++◌, map, take}
use Rattle.formula.specs.declared.facts.Fact.TheVariants.{Matched as matched}
use Rattle.formula.specs.declared.facts.Statement.TheVariants.{Holds as is_true}
use Rattle.formula_families.proofs.lists.push_sends.Given as goal

abbrev pub invariant-loop-send : goal.invariant-loop-send
invariant-loop-send l = l.clause.items ≡ l.initial.clause.items ++ map (λ send. is_true (matched send l.taker)) (take l.send-index l.sends)

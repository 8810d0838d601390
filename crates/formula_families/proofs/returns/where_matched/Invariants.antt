use Rattle.std.proofs.Common.{◌≡◌, ◌∷◌, [], ◌++◌, map, take}
use Rattle.formula.specs.declared.facts.Fact.TheVariants.{Issued as issued, Matched as matched}
use Rattle.formula.specs.declared.facts.Statement.TheVariants.{Fails as is_false}
use Rattle.formula_families.proofs.returns.where_matched.Given as goal

abbrev pub invariant-loop-send : goal.invariant-loop-send
invariant-loop-send l = l.clauses ≡ l.initial.clauses ++ map (λ send. is_false (issued l.call) ∷ is_false (matched send l.taker) ∷ l.statement ∷ []) (take l.send-index l.sends)

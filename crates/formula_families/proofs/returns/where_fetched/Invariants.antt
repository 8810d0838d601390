use Rattle.std.proofs.Common.{◌≡◌, ◌∷◌, ◌++◌, map, take}
use Rattle.formula.specs.declared.facts.Fact.TheVariants.{Issued as issued, Matched as matched}
use Rattle.formula.specs.declared.facts.Statement.TheVariants.{Fails as is_false}
use Rattle.formula.specs.Families.{unless_issued, receive_on_handle}
use Rattle.formula_families.proofs.returns.where_fetched.Given as goal

abbrev pub invariant-loop-taker : goal.invariant-loop-taker
invariant-loop-taker l = l.clauses ≡ l.initial.clauses ++ map (λ taker. is_false (issued l.call) ∷ is_false (matched l.send taker) ∷ l.statement ∷ unless_issued (receive_on_handle l.source taker)) (take l.taker-index l.taker-items)

use Rattle.std.proofs.Common.{◌≡◌, ◌∷◌, [], ◌++◌, map, take, nat_lt}
use Rattle.std.specs.List.{filter}
use Rattle.formula.specs.declared.facts.Fact.TheVariants.{Matched as matched}
use Rattle.formula.specs.declared.facts.Statement.TheVariants.{Fails as is_false}
use Rattle.formula_families.proofs.matches.without_later_takers.Given as goal

abbrev pub invariant-loop-other : goal.invariant-loop-other
invariant-loop-other l = l.clauses ≡ l.initial.clauses ++ map (λ other. is_false (matched l.send l.taker) ∷ is_false (matched l.send other) ∷ []) (filter (nat_lt l.taker) (take l.other-index l.takers))

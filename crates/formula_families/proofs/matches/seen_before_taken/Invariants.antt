use Rattle.std.proofs.Common.{◌≡◌, ◌∷◌, [], ◌++◌, map, take}
use Rattle.formula.specs.declared.facts.Fact.TheVariants.{Matched as matched}
use Rattle.formula.specs.declared.facts.RunEvent.TheVariants.{Match as match_of}
use Rattle.formula.specs.declared.facts.Statement.TheVariants.{Fails as is_false, Earlier as is_earlier}
use Rattle.formula_families.proofs.matches.seen_before_taken.Given as goal

abbrev pub invariant-loop-taker : goal.invariant-loop-taker
invariant-loop-taker l = l.clauses ≡ l.initial.clauses ++ map (λ taker. is_false (matched l.send l.probe) ∷ is_false (matched l.send taker) ∷ is_earlier (match_of l.probe) (match_of taker) ∷ []) (take l.taker-index l.takers)

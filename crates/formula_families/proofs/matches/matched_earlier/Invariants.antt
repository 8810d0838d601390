use Rattle.std.proofs.Common.{◌≡◌, ◌∷◌, [], ◌++◌, map, take}
use Rattle.formula.specs.declared.facts.Fact.TheVariants.{Matched as matched}
use Rattle.formula.specs.declared.facts.RunEvent.TheVariants.{Match as match_of}
use Rattle.formula.specs.declared.facts.Statement.TheVariants.{Fails as is_false, Earlier as is_earlier}
use Rattle.formula_families.proofs.matches.matched_earlier.Given as goal

abbrev pub invariant-loop-other : goal.invariant-loop-other
invariant-loop-other l = l.clauses ≡ l.initial.clauses ++ map (λ other. is_false (matched l.fn.pair.0 l.fn.pair.1) ∷ is_false (matched l.earlier other) ∷ is_earlier (match_of other) (match_of l.fn.pair.1) ∷ []) (take l.other-index l.others)

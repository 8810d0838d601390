use Rattle.std.proofs.Common.{◌≡◌, [], ◌∷◌, ◌++◌, map}
use Rattle.std.specs.List.{range_with_len}
use Rattle.formula.specs.declared.facts.Fact.TheVariants.{Issued as issued}
use Rattle.formula.specs.declared.facts.Statement.TheVariants.{Holds as is_true}
use Rattle.finishing.proofs.endings.push_issued.Given as goal

abbrev pub invariant-loop-call : goal.invariant-loop-call
invariant-loop-call l = l.clauses ≡ l.initial.clauses ++ map (λ c. is_true (issued c) ∷ []) (range_with_len 0 l.call)

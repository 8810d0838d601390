use Rattle.std.proofs.Common.{◌∷◌, [], map, nat_lt, ap}
use Rattle.std.specs.List.{filter}
use Rattle.formula.specs.declared.facts.Fact.TheVariants.{Matched as matched}
use Rattle.formula.specs.declared.facts.Statement.TheVariants.{Fails as is_false}
use Rattle.formula_families.proofs.Adding.{two_parts}
use Rattle.formula_families.proofs.matches.without_later_pairs.Goals as goal

pub returns : goal.returns
returns c =
    let send = c.args.send in
    let taker = c.args.taker in
    two_parts c.args.clauses.now c.without_later_takers.new.clauses c.without_later_sends.new.clauses _ _ _ _ c.in_ok-without_later_takers.ensures c.in_ok-without_later_sends.ensures
    (ap (λ l. map (λ other. is_false (matched send taker) ∷ is_false (matched send other) ∷ []) (filter (nat_lt taker) l)) c.takers_of.ensures)
    (ap (λ l. map (λ other. is_false (matched send taker) ∷ is_false (matched other taker) ∷ []) (filter (nat_lt send) l)) c.sends_of.ensures)

use Rattle.std.proofs.Common.{◌∷◌, ◌++◌, map, ap, ◌∙◌}
use Rattle.std.specs.List.{flat_map}
use Rattle.std.proofs.lemmas.List.{take_all}
use Rattle.formula.specs.declared.facts.Fact.TheVariants.{Issued as issued, Matched as matched}
use Rattle.formula.specs.declared.facts.Statement.TheVariants.{Holds as is_true, Fails as is_false}
use Rattle.formula_families.proofs.Adding.{clause_then}
use Rattle.formula_families.proofs.Fetches.{fetched_earlier}
use Rattle.formula_families.proofs.returns.is_fetched_before.Goals as goal

pub returns : goal.returns
returns c =
    let f = fetched_earlier c.args.source.now c.args.call c.args.send c.args.otherwise.now in
    let all = ap (λ l. c.add.new.self ++ flat_map f l) (take_all c.loop-taker.taker-index c.takers_of-takers.result.now c.loop-taker-test.false ∙ c.takers_of-takers.ensures) in
    clause_then c.args.clauses.now c.add.new.self c.loop-taker.clauses _ _ _ c.in_ok-add.ensures
    (c.as_slice.ensures.value ∙ (c.in_ok-extend_from_slice.ensures.items ∙ ap (λ l. l ++ c.args.otherwise.now) (c.in_ok-push_takers.ensures ∙ (ap (λ l. l ++ map (λ taker. is_true (matched c.args.send taker)) c.takers_of-takers.result.now) c.in_ok-clause.ensures.items ∙ ap (λ l. is_false (issued c.args.call) ∷ map (λ taker. is_true (matched c.args.send taker)) l) c.takers_of-takers.ensures))))
    (c.loop-taker.invariant ∙ all)

use Rattle.std.proofs.Common.{◌∷◌, [], ◌++◌, map, ap, ◌∙◌, not, ◌==◌}
use Rattle.std.specs.List.{filter}
use Rattle.formula.specs.declared.facts.Fact.TheVariants.{Matched as matched}
use Rattle.formula.specs.declared.facts.RunEvent.TheVariants.{Match as match_of}
use Rattle.formula.specs.declared.facts.Statement.TheVariants.{Holds as is_true, Fails as is_false, Earlier as is_earlier}
use Rattle.formula_families.proofs.Adding.{clause_then}
use Rattle.formula_families.proofs.matches.send_is_matched_before.Goals as goal

pub returns : goal.returns
returns c =
    let send = c.args.pair.0 in
    let taker = c.args.pair.1 in
    let earlier = c.args.earlier in
    let others = c.in_ok-others.ensures ∙ ap (λ l. filter (λ other. not (other == taker)) l) c.takers_of.ensures in
    clause_then c.args.clauses.now c.add.new.self c.matched_earlier.new.clauses _ _ _ c.in_ok-add.ensures
    (c.as_slice-2.ensures.value ∙ (c.in_ok-push_takers.ensures ∙ (ap (λ l. l ++ map (λ other. is_true (matched earlier other)) c.as_slice.result.now) c.in_ok-clause.ensures.items ∙ ap (λ l. is_false (matched send taker) ∷ map (λ other. is_true (matched earlier other)) l) (c.as_slice.ensures.value ∙ others))))
    (c.in_ok-matched_earlier.ensures ∙ ap (λ l. c.add.new.self ++ map (λ other. is_false (matched send taker) ∷ is_false (matched earlier other) ∷ is_earlier (match_of other) (match_of taker) ∷ []) l) (c.as_slice-3.ensures.value ∙ others))

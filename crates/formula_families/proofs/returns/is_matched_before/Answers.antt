use Rattle.std.proofs.Common.{◌∷◌, ◌++◌, map, ap, ◌∙◌}
use Rattle.formula.specs.declared.facts.Fact.TheVariants.{Issued as issued, Matched as matched}
use Rattle.formula.specs.declared.facts.Statement.TheVariants.{Holds as is_true, Fails as is_false}
use Rattle.formula_families.proofs.Adding.{clause_then}
use Rattle.formula_families.proofs.returns.is_matched_before.Goals as goal

pub returns : goal.returns
returns c =
    clause_then c.args.clauses.now c.add.new.self c.add-2.new.self _ _ _ c.in_ok-add.ensures
    (c.as_slice.ensures.value ∙ (c.in_ok-push_sends.ensures ∙ (ap (λ l. l ++ map (λ send. is_true (matched send c.args.taker)) c.sends_of.result.now) c.in_ok-clause.ensures.items ∙ ap (λ l. is_false (issued c.args.call) ∷ map (λ send. is_true (matched send c.args.taker)) l) c.sends_of.ensures)))
    c.in_ok-add-2.ensures

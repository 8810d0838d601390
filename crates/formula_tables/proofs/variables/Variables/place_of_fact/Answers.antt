use Rattle.std.proofs.Common.{◌∙◌, subst, ◌<◌, ◌≤◌, ℕ, length}
use Rattle.formula.specs.Numbering.{facts}
use Rattle.formula_tables.proofs.VariableNumbers.{fact_there, fact_absent}
use Rattle.formula_tables.proofs.variables.Variables.place_of_fact.Goals as goal

pub returns-then-place-facts : goal.returns-then-place-facts
returns-then-place-facts c =
    let p = c.args.self.now in
    let a = c.args.fact.now in
    c.fact_place-place.ensures ∙ fact_there p a (subst (λ (z : ℕ). z < length (facts p)) c.fact_place-place.ensures (subst (λ (z : ℕ). c.fact_place-place.result < z) c.fact_count-facts.ensures.same c.if-place-facts.true))

pub returns : goal.returns
returns c =
    let p = c.args.self.now in
    let a = c.args.fact.now in
    c.count.ensures.same ∙ fact_absent p a (subst (λ (z : ℕ). length (facts p) ≤ z) c.fact_place-place.ensures (subst (λ (z : ℕ). z ≤ c.fact_place-place.result) c.fact_count-facts.ensures.same c.if-place-facts.false))

use Rattle.std.proofs.Common.{length, map, ap, ◌∙◌}
use Rattle.std.specs.List.{position_or_len}
use Rattle.formula.specs.Numbering.{facts, is_same_fact}
use Rattle.formula_tables.specs.Places.{first_place}
use Rattle.formula_tables.specs.Numbers.{fact_slot}
use Rattle.formula_tables.proofs.FactSlots.{fact_by_slot}
use Rattle.formula_tables.proofs.variables.Variables.fact_place.Goals as goal

pub returns : goal.returns
returns c =
    let p = c.self.inside.program.now in
    let a = c.args.fact.now in
    let number = c.fact_slot.ensures ∙ ap (λ n. fact_slot n a) (ap length c.calls.ensures.value) in
    c.first.ensures ∙ (ap (first_place c.fact_slot.result) c.self.invariant.facts_are ∙ (ap (λ n. first_place n (map (fact_slot (length p.calls)) (facts p))) number ∙ (fact_by_slot p c.calls.ensures.kept a ∙ ap (λ z. position_or_len (is_same_fact a) (facts z)) c.self.view_is)))

use Rattle.std.proofs.Common.{◌+◌, ◌*◌, map, refl, sym, ap, ◌∙◌, subst, length}
use Rattle.formula.specs.Families.{events}
use Rattle.formula.specs.Orders.{clock_size, used_pairs}
use Rattle.formula.specs.Numbering.{facts}
use Rattle.formula_tables.specs.Numbers.{IsSmall, fact_slot, pair_slot}
use Rattle.formula_tables.proofs.FactSlots.{fact_slots_below, pair_slots_below}
use Rattle.formula_tables.proofs.variables.Variables.make.Goals as goal

pub make-requires : goal.make-requires
make-requires c =
    let p = c.program-program.result.now in
    let n = length c.calls-calls.result.now in
    fact_slots_below p c.calls-calls.ensures.kept n (n + n + 64 + n * n) c.in_ok-facts.facts.items (ap length c.calls-calls.ensures.value) refl
    (c.in_ok-facts.ensures ∙ ap (map (fact_slot n)) (c.requires.facts ∙ ap facts (sym c.program-program.ensures)))

pub make-requires-2 : goal.make-requires-2
make-requires-2 c =
    let m = c.len-most.result in
    pair_slots_below c.args.events m (m * m) c.in_ok-used.used.items c.len-most.ensures refl
    (c.in_ok-used.ensures ∙ ap (map (λ pair. pair_slot m pair.0 pair.1)) c.requires.used)

pub invariant_of-result : goal.invariant_of-result
invariant_of-result c =
    let p = c.program-program.result.now in
    let n = length c.calls-calls.result.now in
    let m = c.len-most.result in
    let e = sym c.program-program.ensures in
    record {
      small = subst IsSmall e c.requires.small;
      events_are = e;
      facts_are = c.in_ok-facts-2.ensures ∙ (c.in_ok-facts.ensures ∙ (ap (map (fact_slot n)) (c.requires.facts ∙ ap facts e) ∙ ap (λ z. map (fact_slot z) (facts p)) (ap length c.calls-calls.ensures.value)));
      used_are = c.in_ok-used-2.ensures ∙ (c.in_ok-used.ensures ∙ (ap (map (λ pair. pair_slot m pair.0 pair.1)) (c.requires.used ∙ ap used_pairs e) ∙ ap (λ z. map (λ pair. pair_slot z pair.0 pair.1) (used_pairs p)) (c.len-most.ensures ∙ ap (λ q. length (events q)) e)));
      size_is = c.requires.size ∙ ap clock_size e;
    }

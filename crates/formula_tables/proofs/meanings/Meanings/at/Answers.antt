use Rattle.std.proofs.Common.{ℕ, ◌-◌, ◌≤◌, List, ◌++◌, length, sym, ap, ◌∙◌, arith}
use Rattle.std.specs.Prelude.{slice_get}
use Rattle.std.specs.List.{flat_map}
use Rattle.formula.specs.Orders.{clock_meanings, pair_meanings}
use Rattle.formula_tables.specs.Meanings.{meanings_in}
use Rattle.formula_tables.proofs.MeaningPlaces.{behind_facts, no_order}
use Rattle.formula_tables.proofs.meanings.Meanings.at.Goals as goal

pub returns-then-self-eq0 : goal.returns-then-self-eq0
returns-then-self-eq0 c =
    let m = c.self.inside in
    let place = c.args.place in
    let past : length m.facts.items ≤ place = omega (arith, c.in-None.ensures.lookup.3, ap length c.deref.ensures.value) in
    sym (ap (λ parts. slice_get (meanings_in parts) place) (sym c.self.view_is) ∙ (behind_facts m.facts.items m.events m.size m.used.items place past ∙ no_order m.size m.events m.used.items (place - length m.facts.items) c.if-self-eq0.true c.self.invariant))

pub returns : goal.returns
returns c =
    let m = c.self.inside in
    let place = c.args.place in
    let past : length m.facts.items ≤ place = omega (arith, c.in-None.ensures.lookup.3, ap length c.deref.ensures.value) in
    let order = λ (used : List (ℕ × ℕ)). clock_meanings m.size m.events ++ flat_map (pair_meanings m.size) used in
    c.of_order.ensures ∙ (ap (λ used. slice_get (order used) (place - c.len.result)) c.as_slice.ensures.value ∙ (ap (λ (n : ℕ). slice_get (order m.used.items) (place - n)) (c.len.ensures ∙ (sym c.deref.ensures.len ∙ ap length c.deref.ensures.value)) ∙
    (sym (behind_facts m.facts.items m.events m.size m.used.items place past) ∙ ap (λ parts. slice_get (meanings_in parts) place) c.self.view_is)))

use Rattle.std.proofs.Common.{length, map, ap, ◌∙◌}
use Rattle.formula.specs.Families.{events}
use Rattle.formula.specs.Orders.{used_pairs, place_of_pair}
use Rattle.formula_tables.specs.Places.{first_place}
use Rattle.formula_tables.specs.Numbers.{pair_slot}
use Rattle.formula_tables.proofs.FactSlots.{pair_by_slot}
use Rattle.formula_tables.proofs.variables.Variables.pair_place.Goals as goal

pub returns : goal.returns
returns c =
    let p = c.self.inside.program.now in
    let e = c.args.first in
    let f = c.args.second in
    let most = c.len.ensures ∙ ap (λ q. length (events q)) c.self.invariant.events_are in
    let number = c.pair_slot.ensures ∙ ap (λ n. pair_slot n e f) most in
    c.first.ensures ∙ (ap (first_place c.pair_slot.result) c.self.invariant.used_are ∙ (ap (λ n. first_place n (map (λ pair. pair_slot (length (events p)) pair.0 pair.1) (used_pairs p))) number ∙ (pair_by_slot p e f ∙ ap (λ q. place_of_pair q e f) c.self.view_is)))

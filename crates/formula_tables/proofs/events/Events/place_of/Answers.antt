use Rattle.std.proofs.Common.{ap, ◌∙◌, length}
use Rattle.formula.specs.Families.{place_of_event}
use Rattle.formula_tables.specs.Places.{first_place}
use Rattle.formula_tables.specs.Numbers.{event_slot, event_slots}
use Rattle.formula_tables.proofs.EventSlots.{event_place}
use Rattle.formula_tables.proofs.events.Events.place_of.Goals as goal

pub returns : goal.returns
returns c =
    let p = c.self.inside.program.now in
    let event = c.args.event.now in
    let number = c.slot.ensures ∙ ap (λ n. event_slot n event) (ap length c.calls.ensures.value) in
    c.first.ensures ∙ (ap (λ l. first_place c.slot.result l) c.self.invariant ∙ (ap (λ n. first_place n (event_slots p)) number ∙ (event_place p event ∙ ap (λ q. place_of_event q event) c.self.view_is)))

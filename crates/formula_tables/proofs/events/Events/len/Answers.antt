use Rattle.std.proofs.Common.{ap, ◌∙◌, length}
use Rattle.formula.specs.Families.{events}
use Rattle.formula_tables.proofs.EventSlots.{slots_count}
use Rattle.formula_tables.proofs.events.Events.len.Goals as goal

pub returns : goal.returns
returns c =
    c.len.ensures ∙ (ap length c.self.invariant ∙ (slots_count c.self.inside.program.now ∙ ap (λ p. length (events p)) c.self.view_is))

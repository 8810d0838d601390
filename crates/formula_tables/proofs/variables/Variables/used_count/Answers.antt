use Rattle.std.proofs.Common.{length, ap, ◌∙◌}
use Rattle.std.proofs.lemmas.List.{length-map}
use Rattle.formula.specs.Families.{events}
use Rattle.formula.specs.Orders.{used_pairs}
use Rattle.formula_tables.specs.Numbers.{pair_slot}
use Rattle.formula_tables.proofs.variables.Variables.used_count.Goals as goal

pub returns-clause-same : goal.returns-clause-same
returns-clause-same c =
    let p = c.self.inside.program.now in
    c.len.ensures ∙ (ap length c.self.invariant.used_are ∙ (length-map (used_pairs p) (λ pair. pair_slot (length (events p)) pair.0 pair.1) ∙ ap (λ z. length (used_pairs z)) c.self.view_is))

use Rattle.std.proofs.Common.{length, sym, ap, ◌∙◌}
use Rattle.formula_families.proofs.Cuts.{parts_count}
use Rattle.formula_families.proofs.symbolic.Symbolic.len.Goals as goal

pub returns : goal.returns
returns g c =
    let s = c.self.inside in
    c.len.ensures ∙ (s.ends.ok.0 ∙ (sym (parts_count s.entries.items 0 s.ends.items) ∙ ap length c.self.view_is))

use Rattle.std.proofs.Common.{List, sym, subst}
use Rattle.clocks.specs.declared.finders.Cover.{Cover}
use Rattle.clocks.specs.parts.Finders.{AreCoversOf, group_at}
use Rattle.clocks.proofs.Listed.{covers_of_group}
use Rattle.clocks.proofs.finders.Covers.first_unknown.Goals as goal

pub returns : goal.returns
returns c = λ numbering known groups covers counts.
    c.first_unknown.ensures numbering known (group_at groups c.args.group)
    (subst (λ (z : List Cover). AreCoversOf numbering (group_at groups c.args.group) z) (sym c.covers.ensures) (covers_of_group numbering groups c.args.self.now c.args.group covers)) counts

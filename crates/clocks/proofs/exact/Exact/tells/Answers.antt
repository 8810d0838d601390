use Rattle.std.proofs.Common.{ap, ◌∙◌}
use Rattle.clocks.specs.parts.Exact.{Asked}
use Rattle.clocks.proofs.Extending.{told_ordered, told_unordered}
use Rattle.clocks.proofs.exact.Exact.tells.Goals as goal

pub returns-clause-ordered : goal.returns-clause-ordered
returns-clause-ordered c = told_ordered c.args.program.now c.args.self.now.partners c.ask.new.self c.args.finder c.args.call c.is_known.result c.ask.ensures.asked (c.ask.ensures.partners ∙ ap (λ (z : Asked). z.partners) c.is_next_ordered.ensures.same) c.in_ok-ask.ensures.finder c.is_known.ensures

pub returns-clause-unordered : goal.returns-clause-unordered
returns-clause-unordered c = told_unordered c.args.program.now c.args.self.now.partners c.ask.new.self c.args.finder c.args.call c.is_known.result c.ask.ensures.asked (c.ask.ensures.partners ∙ ap (λ (z : Asked). z.partners) c.is_next_ordered.ensures.same) c.in_ok-ask.ensures.finder c.is_known.ensures

use Rattle.std.proofs.Common.{sym, subst}
use Rattle.knowledge.specs.Knowledge.{with_partners}
use Rattle.clocks.specs.parts.Exact.{AreOrderedBy, Asked}
use Rattle.clocks.proofs.Extending.{asked_now}
use Rattle.clocks.proofs.exact.Exact.ask.Goals as goal

pub returns-clause-asked : goal.returns-clause-asked
returns-clause-asked c = record {
  column = asked_now c.args.program.now c.self.inside.partners.items c.as_slice.result.now c.args.finder c.in_ok-self-inside.field-0.items c.as_slice.ensures.value c.in_ok-self-inside.ensures.justified c.in_ok-self-inside.ensures.greatest;
  noted = subst (λ (z : Asked). AreOrderedBy c.args.program.now (with_partners z.partners) z.races z.ordered) (sym c.self.view_is) c.requires.noted;
}

use Rattle.std.proofs.Common.{List, subst, sym}
use Rattle.scene.specs.Labels.{Label}
use Rattle.explain.proofs.Waiters.{stands_labelled}
use Rattle.explain.specs.Messages.{IsLabelled}
use Rattle.explain.proofs.waiting.messages.Goals as goal

pub lines-requires-clause-labels : goal.lines-requires-clause-labels
lines-requires-clause-labels c = λ rank standing is.
    subst (λ (labels : List Label). IsLabelled labels standing) (sym c.in_ok-scene.ensures.labels)
    (stands_labelled c.args.text.now c.args.source.now c.args.program.now _ rank standing (c.in_ok-scene.ensures.standings.each rank standing is))

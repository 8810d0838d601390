use Rattle.explain.specs.Messages.{AreNotices}
use Rattle.explain.proofs.waiting.lines.Given as goal

abbrev pub invariant-loop-rank : goal.invariant-loop-rank
invariant-loop-rank l = AreNotices l.scene.labels.items l.program l.scene.state l.scene.standings.items l.rank l.out.items

use Rattle.explain.proofs.Waiters.{told_next}
use Rattle.explain.proofs.waiting.lines.Goals as goal

pub loop-rank-preserved : goal.loop-rank-preserved
loop-rank-preserved c =
    told_next c.args.scene.now.labels.items c.args.program.now c.args.scene.now.state c.args.scene.now.standings.items c.deref-standing-items.result.now c.loop-rank.rank _
    c.loop-rank.out.items c.put_standing.new.out.items c.deref-standing-items.ensures.value c.loop-rank-test.true c.loop-rank.invariant c.requires.labels c.in_ok-put_standing.ensures

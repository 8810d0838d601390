use Rattle.std.proofs.Common.{rules}
use Rattle.choices.proofs.Ways.{weighed_more}
use Rattle.choices.proofs.weighing.weigh_all.Goals as goal

pub loop-choice-preserved : goal.loop-choice-preserved
loop-choice-preserved g c =
    weighed_more c.args.text.now c.loop-choice.all.items c.push.new.self.items c.in_ok-weighed.weighed (search rules) c.loop-choice.invariant c.in_ok-weighed.ensures

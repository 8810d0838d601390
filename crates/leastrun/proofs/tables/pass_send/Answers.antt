use Rattle.leastrun.proofs.Queued.{passed_more}
use Rattle.leastrun.proofs.tables.pass_send.Goals as goal

pub loop-place-preserved : goal.loop-place-preserved
loop-place-preserved c = passed_more c.args.state.now c.args.sends.now c.loop-place.sends c.pass.new.self c.loop-place.invariant c.pass.ensures

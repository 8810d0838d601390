use Rattle.std.proofs.Common.{refl}
use Rattle.scene.proofs.Ends.{standings_more}
use Rattle.scene.proofs.ending.standings_of.Goals as goal

pub loop-rank-preserved : goal.loop-rank-preserved
loop-rank-preserved c =
    standings_more c.args.program.now c.args.state.now c.loop-rank.rank c.loop-rank.standings.items c.push.new.self.items _ c.in_ok-push.ensures.items ((c.standing_of.ensures c.standing_of.result).0 refl) c.loop-rank.invariant

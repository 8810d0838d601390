use Rattle.std.proofs.Common.{◌≡◌, arith}
use Rattle.calltext.specs.Grammar.{long}
use Rattle.waits.proofs.WaitingGraphs.{HasEdges-none, HasEdges-push, HasEdges-all, HasEdges-rising}
use Rattle.waits.proofs.waiting.edges.Goals as goal

pub loop-rank-init : goal.loop-rank-init
loop-rank-init c = HasEdges-none c.args.program.now c.args.state.now c.new-edges.result.items c.new-edges.ensures.items

pub loop-rank-preserved : goal.loop-rank-preserved
loop-rank-preserved c =
    HasEdges-push c.args.program.now c.args.state.now c.loop-rank.rank c.loop-rank.edges.items c.push.new.self.items c.in_ok-ranks.ranks c.in_ok-push.ensures.items c.in_ok-ranks.ensures.ranks c.in_ok-ranks.ensures.rising c.loop-rank.invariant

pub returns-clause-edges : goal.returns-clause-edges
returns-clause-edges c =
    let end : c.args.program.now.ranks ≡ c.loop-rank.rank = omega (arith, c.ranks-rank-end.ensures.value) in
    HasEdges-all long c.args.program.now c.args.state.now c.loop-rank.rank c.loop-rank.edges.items c.ranks-rank-end.ensures.kept end c.loop-rank.invariant

pub returns-clause-rising : goal.returns-clause-rising
returns-clause-rising c =
    HasEdges-rising c.args.program.now c.args.state.now c.loop-rank.rank c.loop-rank.edges.items c.loop-rank.invariant

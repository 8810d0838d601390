use Rattle.waits.proofs.WaitingGraphs.{HasEdges}
use Rattle.waits.proofs.waiting.edges.Given as goal

abbrev pub invariant-loop-rank : goal.invariant-loop-rank
invariant-loop-rank l = HasEdges l.program l.state l.rank l.edges.items

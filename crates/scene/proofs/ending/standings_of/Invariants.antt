use Rattle.scene.specs.Ends.{AreStandings}
use Rattle.scene.proofs.ending.standings_of.Given as goal

abbrev pub invariant-loop-rank : goal.invariant-loop-rank
invariant-loop-rank l = AreStandings l.program l.state l.rank l.standings.items

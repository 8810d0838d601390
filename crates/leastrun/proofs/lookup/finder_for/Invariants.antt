use Rattle.leastrun.proofs.Seeking.{IsBest}
use Rattle.leastrun.proofs.lookup.finder_for.Given as goal

abbrev pub invariant-loop-place : goal.invariant-loop-place
invariant-loop-place l = IsBest l.program l.state l.tables.forms.items l.tables.finders l.known l.call l.place l.best

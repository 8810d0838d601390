-- All that was told so far was told whole.
use Rattle.progress.proofs.Tellings.{HasTold}
use Rattle.progress.proofs.telling.tell.Given as goal

abbrev pub invariant-loop : goal.invariant-loop
invariant-loop g l = HasTold (g.E.Write.contents l.fn.err) (g.E.Write.contents l.err) l.told

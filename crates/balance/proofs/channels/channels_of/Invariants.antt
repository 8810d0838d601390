use Rattle.balance.proofs.Leaving.{AreListed}
use Rattle.balance.proofs.channels.channels_of.Given as goal

abbrev pub invariant-loop-place : goal.invariant-loop-place
invariant-loop-place l = AreListed l.program l.channels.items l.place

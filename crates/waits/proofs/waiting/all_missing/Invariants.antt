use Rattle.waits.proofs.ComingSends.{HasMissingOf}
use Rattle.waits.proofs.waiting.all_missing.Given as goal

abbrev pub invariant-loop-place : goal.invariant-loop-place
invariant-loop-place l = HasMissingOf l.program l.state l.operation l.among l.place l.ranks.items

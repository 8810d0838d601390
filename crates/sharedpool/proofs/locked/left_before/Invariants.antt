use Rattle.std.proofs.Common.{◌≡◌, take, false}
use Rattle.sharedpool.specs.parts.Leaves.{has_entry}
use Rattle.sharedpool.proofs.locked.left_before.Given as goal

abbrev pub invariant-loop-entry : goal.invariant-loop-entry
invariant-loop-entry l = has_entry l.worker (take l.entry-index l.history) ≡ false

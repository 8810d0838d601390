use Rattle.std.proofs.Common.{take}
use Rattle.pool.specs.Reasons.{IsSmallest}
use Rattle.pool.proofs.why.smallest.Given as goal

abbrev pub invariant-loop-why : goal.invariant-loop-why
invariant-loop-why l = IsSmallest (take l.why-index l.reasons) l.smallest

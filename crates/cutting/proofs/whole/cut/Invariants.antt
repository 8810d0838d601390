use Rattle.std.proofs.Common.{length}
use Rattle.cutting.specs.Orders.{IsOrder}
use Rattle.cutting.proofs.whole.cut.Given as goal

-- the numbers so far
abbrev pub invariant-loop-phase : goal.invariant-loop-phase
invariant-loop-phase l = IsOrder (length l.texts.items) l.order.items

use Rattle.std.proofs.Common.{length, take}
use Rattle.balance.specs.Sides.{AreAllSides}
use Rattle.balance.proofs.counting.sides_of.Given as goal

abbrev pub invariant-loop-place : goal.invariant-loop-place
invariant-loop-place l = AreAllSides l.program (length l.numbers) (take l.place l.numbers) l.table.items

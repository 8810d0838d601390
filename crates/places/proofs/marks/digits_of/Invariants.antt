use Rattle.std.proofs.Common.{take}
use Rattle.places.specs.Maps.{AreDigits}
use Rattle.places.proofs.marks.digits_of.Given as goal

abbrev pub invariant-loop-at : goal.invariant-loop-at
invariant-loop-at l = AreDigits (take l.at l.text)

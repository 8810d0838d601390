use Rattle.interning.proofs.Numbering.{AreNumbered}
use Rattle.interning.proofs.numbers.number.Given as goal

abbrev pub invariant-loop-name : goal.invariant-loop-name
invariant-loop-name g l = AreNumbered g.K.PartialEq.eq l.seen.keys l.yielded l.numbers.items

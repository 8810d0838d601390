use Rattle.std.proofs.Common.{take}
use Rattle.std.specs.HashMap.{get}
use Rattle.sealing.specs.parts.Sides.{same_side, AreCounts, AreOccurrences}
use Rattle.sealing.proofs.occurrences.occurrences_of.Given as goal

abbrev pub invariant-loop-call : goal.invariant-loop-call
invariant-loop-call l =
    record {
      counted : AreCounts (take l.call-index l.calls) (get same_side l.counts);
      listed : AreOccurrences l.calls l.call-index l.occurrences.items;
    }

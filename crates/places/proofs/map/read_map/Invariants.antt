use Rattle.std.proofs.Common.{length}
use Rattle.places.proofs.Reading.{Read}
use Rattle.places.proofs.map.read_map.Given as goal

abbrev pub invariant-loop-line : goal.invariant-loop-line
invariant-loop-line l = Read l.text l.map l.rest l.last l.number l.entries.items

abbrev pub decreases-loop-line : goal.decreases-loop-line
decreases-loop-line l = length l.rest

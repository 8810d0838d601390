use Rattle.std.proofs.Common.{map, take}
use Rattle.phases.specs.parts.Traffic.{address_of, AreTraffic}
use Rattle.phases.proofs.leaving.traffic_of.Given as goal

abbrev pub invariant-loop-place : goal.invariant-loop-place
invariant-loop-place l = AreTraffic (take l.place l.calls) (map address_of l.calls) l.numbers l.table.items

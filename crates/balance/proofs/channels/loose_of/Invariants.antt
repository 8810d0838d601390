use Rattle.std.proofs.Common.{map, take}
use Rattle.balance.specs.parts.Wildcards.{channel_address_of, AreWild}
use Rattle.balance.proofs.channels.loose_of.Given as goal

abbrev pub invariant-loop-place : goal.invariant-loop-place
invariant-loop-place l = AreWild (take l.place l.calls) (map channel_address_of l.calls) l.numbers l.table.items

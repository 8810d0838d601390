use Rattle.std.proofs.Common.{◌≡◌, take}
use Rattle.places.specs.Maps.{sum_of}
use Rattle.places.proofs.sums.sum_of.Given as goal

abbrev pub invariant-loop-byte : goal.invariant-loop-byte
invariant-loop-byte l = l.sum ≡ sum_of (take l.byte-index l.bytes)

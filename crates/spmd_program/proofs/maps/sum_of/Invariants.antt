use Rattle.std.proofs.Common.{◌≡◌, drop}
use Rattle.spmd_program.specs.Maps.{sum_from, checksum_of}
use Rattle.spmd_program.proofs.maps.sum_of.Given as goal

-- the sum goes on as that of all bytes does
abbrev pub invariant-loop-byte : goal.invariant-loop-byte
invariant-loop-byte l = sum_from l.sum (drop l.byte-index l.bytes) ≡ checksum_of l.bytes

use Rattle.std.proofs.Common.{◌≡◌, drop}
use Rattle.spmd_text.specs.Headings.{is_spmd_from, is_spmd}
use Rattle.spmd_text.proofs.heading.is_spmd.Given as goal

-- the bytes that are left say what all bytes say
abbrev pub invariant-loop-at : goal.invariant-loop-at
invariant-loop-at l = is_spmd_from l.comment (drop l.at l.bytes) ≡ is_spmd l.bytes

use Rattle.std.proofs.Common.{◌+◌, ◌≤◌}
use Rattle.std.specs.Option.{option_copied}
use Rattle.prooflog.proofs.WordsRead.{bytes_left}
use Rattle.prooflog.proofs.proof_line.count_to_colon.Given as goal

abbrev pub invariant-loop-rest : goal.invariant-loop-rest
invariant-loop-rest l = l.count + bytes_left (option_copied l.rest) ≤ bytes_left (option_copied l.fn.others)

abbrev pub decreases-loop-rest : goal.decreases-loop-rest
decreases-loop-rest l = bytes_left (option_copied l.rest)

use Rattle.std.specs.Option.{option_copied}
use Rattle.prooflog.proofs.WordsRead.{NumbersSoFar, bytes_left}
use Rattle.prooflog.proofs.proof_line.numbers_of.Given as goal

abbrev pub invariant-loop-rest : goal.invariant-loop-rest
invariant-loop-rest l = NumbersSoFar (option_copied l.fn.others) (option_copied l.rest) l.numbers.items

abbrev pub decreases-loop-rest : goal.decreases-loop-rest
decreases-loop-rest l = bytes_left (option_copied l.rest)

use Rattle.std.specs.Option.{option_copied}
use Rattle.prooflog.proofs.WordsRead.{LiteralsSoFar, bytes_left}
use Rattle.prooflog.proofs.proof_line.literals_of.Given as goal

abbrev pub invariant-loop-rest : goal.invariant-loop-rest
invariant-loop-rest l = LiteralsSoFar (option_copied l.fn.others) (option_copied l.rest) l.in_range l.literals.items

abbrev pub decreases-loop-rest : goal.decreases-loop-rest
decreases-loop-rest l = bytes_left (option_copied l.rest)

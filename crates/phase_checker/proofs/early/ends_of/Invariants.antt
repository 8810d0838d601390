use Rattle.phase_checker.proofs.Tables.{IsEndsTo}
use Rattle.phase_checker.proofs.early.ends_of.Given as goal

abbrev pub invariant-loop-number : goal.invariant-loop-number
invariant-loop-number l = IsEndsTo l.phases l.followed.items l.ends.items l.number

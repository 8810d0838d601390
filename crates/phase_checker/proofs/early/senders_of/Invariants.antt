use Rattle.phase_checker.proofs.Tables.{IsSendersTo}
use Rattle.phase_checker.proofs.early.senders_of.Given as goal

abbrev pub invariant-loop-number : goal.invariant-loop-number
invariant-loop-number l = IsSendersTo l.phases l.last.items l.senders l.number

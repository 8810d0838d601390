use Rattle.std.proofs.Common.{◌<◌, ℕ}
use Rattle.leastrun.specs.parts.Waiting.{NoIssueOf}
use Rattle.leastrun.proofs.walk.any_issue.Given as goal

abbrev pub invariant-loop-rank : goal.invariant-loop-rank
invariant-loop-rank l = (rank : ℕ) → rank < l.rank → NoIssueOf l.program l.state rank

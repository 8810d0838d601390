use Rattle.std.proofs.Common.{ℕ, ◌<◌, get_or}
use Rattle.prover.specs.parts.Walks.{NoIssueBy}
use Rattle.prover.proofs.walk.next_issue.Given as goal

abbrev pub invariant-loop-rank : goal.invariant-loop-rank
invariant-loop-rank l = (k : ℕ) → k < l.rank-index → NoIssueBy l.program l.state (get_or l.ranks k 0)

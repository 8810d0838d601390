use Rattle.std.proofs.Common.{◌≤◌, ◌<◌, ℕ, IsTrue}
use Rattle.clocks.specs.Spans.{returns_at_once}
use Rattle.clocks.proofs.spans.return_at_once.Given as goal

abbrev pub invariant-loop-call : goal.invariant-loop-call
invariant-loop-call l = (c : ℕ) → l.first ≤ c → c < l.call → IsTrue (returns_at_once l.program c)

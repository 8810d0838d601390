use Rattle.std.proofs.Common.{◌≡◌, ◌-◌}
use Rattle.unroll.specs.parts.Runs.{seen_run}
use Rattle.unroll.specs.Statements.{ranks_from, text_run}
use Rattle.unroll.proofs.whole.unroll.Given as goal

-- the ranks that are left do what the whole text does
abbrev pub invariant-loop-rank : goal.invariant-loop-rank
invariant-loop-rank l =
    ranks_from (l.size - l.rank) l.program l.settings l.rank l.size l.barriers l.limits.calls l.limits.turns (seen_run l.machine)
    ≡ text_run l.program l.settings l.size l.barriers l.limits.calls l.limits.turns

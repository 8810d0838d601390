use Rattle.std.proofs.Common.{◌≡◌, ◌++◌, drop}
use Rattle.shrinking.specs.Told.{before_runs, runs_of, runs_text}
use Rattle.shrinking.proofs.telling.put_numbers.Given as goal

abbrev pub invariant-loop-number : goal.invariant-loop-number
invariant-loop-number l =
    l.out.items ++ runs_text (before_runs (record { first = l.first; last = l.last }) (runs_of (drop l.number-index l.others)))
    ≡ l.initial.out.items ++ runs_text (before_runs (record { first = l.initial.first; last = l.initial.last }) (runs_of l.others))

use Rattle.std.proofs.Common.{◌≡◌, ◌≤◌, ◌++◌, drop}
use Rattle.trimming.specs.parts.Marks.{running}
use Rattle.trimming.proofs.renumbering.counts.Given as goal

abbrev pub invariant-loop-flag : goal.invariant-loop-flag
invariant-loop-flag l =
    record {
      so_far : l.counts.items ++ running l.count (drop l.flag-index l.flags) ≡ running 0 l.flags;
      few : l.count ≤ l.flag-index;
    }

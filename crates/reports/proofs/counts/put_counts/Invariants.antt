use Rattle.std.proofs.Common.{◌≡◌, ◌++◌, take}
use Rattle.reports.specs.parts.Numbers.{lines_of, texts_of}
use Rattle.reports.proofs.counts.put_counts.Given as goal

abbrev pub invariant-loop-count : goal.invariant-loop-count
invariant-loop-count l = l.out.items ≡ l.fn.out.items ++ lines_of (texts_of l.marks) (take l.count-index l.counts)

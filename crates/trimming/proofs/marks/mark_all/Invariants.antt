use Rattle.std.proofs.Common.{◌≡◌, drop}
use Rattle.trimming.specs.parts.Marks.{mark_all}
use Rattle.trimming.proofs.marks.mark_all.Given as goal

abbrev pub invariant-loop-number : goal.invariant-loop-number
invariant-loop-number l = mark_all l.clauses l.below l.marks.items (drop l.number-index l.numbers) ≡ mark_all l.clauses l.below l.fn.marks.items l.numbers

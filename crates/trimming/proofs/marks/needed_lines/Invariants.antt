use Rattle.trimming.specs.parts.Marks.{AreMarked}
use Rattle.trimming.proofs.marks.needed_lines.Given as goal

abbrev pub invariant-loop-place : goal.invariant-loop-place
invariant-loop-place l = AreMarked l.clauses l.lines l.nodes l.marks.items l.place

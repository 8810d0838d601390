use Rattle.tree_lines.proofs.Forests.{IsWalked}
use Rattle.tree_lines.proofs.joining.joining_lines.Given as goal

abbrev pub invariant-loop-place : goal.invariant-loop-place
invariant-loop-place l = IsWalked l.formula l.lines l.added.items l.nodes l.place l.entries.items

use Rattle.std.proofs.Common.{◌+◌, ◌*◌, length}
use Rattle.spmd_text.specs.parts.Statements.{held_all}
use Rattle.spmd_text.proofs.BlockLines.{SoFar}
use Rattle.spmd_text.proofs.blocks.+statements.Given as goal

-- the statements of a block are one deeper than it
abbrev pub decreases-for_loop : goal.decreases-for_loop
decreases-for_loop l = l.depth * 8

abbrev pub decreases-branch : goal.decreases-branch
decreases-branch l = l.depth * 8

abbrev pub decreases-rest_of_statement : goal.decreases-rest_of_statement
decreases-rest_of_statement l = l.depth * 8 + 1

abbrev pub decreases-statement : goal.decreases-statement
decreases-statement l = l.depth * 8 + 2

abbrev pub decreases-statements : goal.decreases-statements
decreases-statements l = l.depth * 8 + 3

abbrev pub decreases-body_of : goal.decreases-body_of
decreases-body_of l = l.depth * 8 + 5

abbrev pub decreases-inside : goal.decreases-inside
decreases-inside l = l.depth * 8 + 4

abbrev pub decreases-after_else : goal.decreases-after_else
decreases-after_else l = l.depth * 8 + 4

abbrev pub decreases-tail : goal.decreases-tail
decreases-tail l = l.depth * 8 + 5

abbrev pub decreases-statements-loop-word : goal.decreases-statements-loop-word
decreases-statements-loop-word l = length l.parser.rest.now

abbrev pub invariant-statements-loop-word : goal.invariant-statements-loop-word
invariant-statements-loop-word l = SoFar l.initial.parser l.parser l.depth (held_all l.list.items) l.initial.at l.at

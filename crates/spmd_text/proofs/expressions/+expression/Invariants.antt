use Rattle.std.proofs.Common.{◌≡◌, ◌⊎◌, ◌+◌, ◌-◌, ◌*◌, length, List, Some, None}
use Rattle.spmd_tree.specs.declared.tree.Expression.{Expression}
use Rattle.spmd_text.specs.declared.fault.ParseReason.TheVariants.{Memory}
use Rattle.spmd_text.specs.declared.piece.Token.{Token}
use Rattle.spmd_text.specs.parts.Found.{SoFar}
use Rattle.spmd_text.specs.parts.Growing.{Growing}
use Rattle.spmd_text.specs.parts.Reading.{Goes}
use Rattle.spmd_text.proofs.expressions.+expression.Given as goal

-- what follows a joint binds closer, and what stands behind a prefix or in a choice is one deeper
abbrev pub decreases-expression : goal.decreases-expression
decreases-expression l = l.depth * 18 + (7 - l.least) * 2 + 4

abbrev pub decreases-joins : goal.decreases-joins
decreases-joins l = l.depth * 18 + (7 - l.least) * 2 + 3

abbrev pub decreases-operand : goal.decreases-operand
decreases-operand l = l.depth * 18 + 3

abbrev pub decreases-behind_prefix : goal.decreases-behind_prefix
decreases-behind_prefix l = l.depth * 18 + 2

abbrev pub decreases-choice_at : goal.decreases-choice_at
decreases-choice_at l = l.depth * 18 + 2

abbrev pub decreases-joins-loop-joint : goal.decreases-joins-loop-joint
decreases-joins-loop-joint l = length l.parser.rest.now

-- what was read so far still becomes the tree, unless memory ran out; and it is what the pieces
-- say, where nothing is wrong
abbrev pub invariant-joins-loop-joint : goal.invariant-joins-loop-joint
invariant-joins-loop-joint l =
    record {
      goes : Goes l.initial.parser l.parser;
      complete : (e : Expression) (rest : List Token) → Growing l.initial.parser l.fn.first l.fn.first_row l.least l.depth e rest → (l.parser.fault ≡ Some Memory) ⊎ Growing l.parser l.left l.row l.least l.depth e rest;
      sound : (here : List Token) → l.parser.fault ≡ None → SoFar here l.initial.parser l.fn.first l.fn.first_row l.least l.depth → SoFar here l.parser l.left l.row l.least l.depth;
    }

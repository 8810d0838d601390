use Rattle.std.proofs.Common.{◌≡◌, false, length}
use Rattle.spmd_text.specs.parts.Statements.{held_all}
use Rattle.spmd_text.proofs.ParameterRows.{ParametersSoFar}
use Rattle.spmd_text.proofs.TextLines.{ParameterLines}
use Rattle.spmd_text.proofs.blocks.parameters.Given as goal

abbrev pub decreases-loop-parser : goal.decreases-loop-parser
decreases-loop-parser l = length l.parser.rest.now

abbrev pub invariant-loop-parser : goal.invariant-loop-parser
invariant-loop-parser l =
    l.initial.parser.in_parameter ≡ false → ParametersSoFar l.initial.parser l.parser (held_all l.list.items) × ParameterLines l.initial.parser l.parser l.initial.at l.at

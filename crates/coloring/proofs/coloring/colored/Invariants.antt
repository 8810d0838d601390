use Rattle.std.proofs.Common.{◌≡◌, ◌++◌, length}
use Rattle.std.specs.List.{flat_map}
use Rattle.plaintext.specs.Plain.{text_lines}
use Rattle.coloring.specs.Colors.{colored, colored_line}
use Rattle.coloring.proofs.coloring.colored.Given as goal

abbrev pub invariant-loop-line : goal.invariant-loop-line
invariant-loop-line l = l.out.items ++ flat_map colored_line (text_lines l.rest) ≡ colored l.text

abbrev pub decreases-loop-line : goal.decreases-loop-line
decreases-loop-line l = length l.rest

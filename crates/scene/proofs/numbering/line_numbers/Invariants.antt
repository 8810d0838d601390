use Rattle.std.proofs.Common.{◌≡◌, map, take}
use Rattle.callorder.specs.Expansion.{parts_of_ranks}
use Rattle.scene.specs.Lines.{heading_of, line_of_part}
use Rattle.scene.proofs.numbering.line_numbers.Given as goal

abbrev pub invariant-loop-lines : goal.invariant-loop-lines
invariant-loop-lines l =
    record {
      heading : l.heading ≡ heading_of l.source l.lines-index;
      numbers : l.numbers.items ≡ map (line_of_part l.source) (parts_of_ranks 0 (take l.lines-index l.source.ranks));
    }

use Rattle.std.proofs.Common.{◌≡◌, ◌++◌}
use Rattle.std.specs.Vec.Iter.{into_iter_items}
use Rattle.prooflog.specs.parts.Reading.{portions_lines}
use Rattle.prooflog.proofs.portions.portions_of.Given as goal

abbrev pub invariant-loop-line : goal.invariant-loop-line
invariant-loop-line l =
    record {
      put : portions_lines l.portions ≡ l.yielded;
      all : l.yielded ++ into_iter_items l.line-iterator ≡ l.fn.lines.items;
    }

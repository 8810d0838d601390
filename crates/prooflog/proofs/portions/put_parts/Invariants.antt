use Rattle.std.proofs.Common.{◌≡◌, ◌++◌}
use Rattle.std.specs.List.{flat_map}
use Rattle.std.specs.Vec.Iter.{into_iter_items}
use Rattle.prooflog.specs.parts.Reading.{portion_text}
use Rattle.prooflog.proofs.portions.put_parts.Given as goal

abbrev pub invariant-loop-part : goal.invariant-loop-part
invariant-loop-part l =
    record {
      out : l.out ≡ l.fn.out ++ flat_map portion_text l.yielded;
      all : l.yielded ++ into_iter_items l.part-iterator ≡ l.fn.parts.items;
    }

use Rattle.std.proofs.Common.{◌≡◌, length}
use Rattle.clocks.specs.parts.Finders.{AreCovers}
use Rattle.clocks.proofs.finders.Covers.new.Given as goal

abbrev pub invariant-loop-group : goal.invariant-loop-group
invariant-loop-group l =
    record {
      size : length l.covers.items ≡ l.group;
      are : AreCovers l.columns l.finders l.covers.items;
    }

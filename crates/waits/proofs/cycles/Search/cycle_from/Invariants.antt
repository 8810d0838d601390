use Rattle.std.proofs.Common.{◌≢◌}
use Rattle.waits.specs.declared.cycles.Mark.TheVariants.{New}
use Rattle.waits.specs.parts.Searches.{mark_at, weight, AreMet, IsSearch}
use Rattle.waits.proofs.cycles.Search.cycle_from.Given as goal

abbrev pub invariant-loop-rank : goal.invariant-loop-rank
invariant-loop-rank l =
    record {
      keeps : IsSearch l.edges l.self.path.items l.self.marks.items l.self.looked.items;
      met : AreMet l.fn.self.marks.items l.self.marks.items;
      root : mark_at l.self.marks.items l.root ≢ New;
    }

abbrev pub decreases-loop-rank : goal.decreases-loop-rank
decreases-loop-rank l = weight l.self.marks.items

use Rattle.std.proofs.Common.{ℕ, ◌≡◌, ◌≢◌, ◌<◌, []}
use Rattle.waits.specs.declared.cycles.Mark.TheVariants.{New}
use Rattle.waits.specs.parts.Searches.{mark_at, IsSearch}
use Rattle.waits.proofs.cycles.cycle.Given as goal

abbrev pub invariant-loop-root : goal.invariant-loop-root
invariant-loop-root l =
    record {
      keeps : IsSearch l.edges l.search.path.items l.search.marks.items l.search.looked.items;
      empty : l.search.path.items ≡ [];
      met : (rank : ℕ) → rank < l.root → mark_at l.search.marks.items rank ≢ New;
    }

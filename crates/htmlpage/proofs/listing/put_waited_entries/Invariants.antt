use Rattle.std.proofs.Common.{◌≡◌, ◌++◌}
use Rattle.charts.specs.Chart.{columns}
use Rattle.htmlpage.specs.Page.{waited_entry}
use Rattle.htmlpage.proofs.listing.put_waited_entries.Given as goal

abbrev pub invariant-loop-rank : goal.invariant-loop-rank
invariant-loop-rank l = l.out.items ≡ l.fn.out.items ++ columns (waited_entry l.program l.end l.calls) l.rank

use Rattle.std.proofs.Common.{◌≡◌, ◌++◌, []}
use Rattle.charts.specs.Chart.{columns}
use Rattle.htmlpage.specs.Page.{waited_line}
use Rattle.htmlpage.proofs.listing.waited_lines.Given as goal

abbrev pub invariant-loop-rank : goal.invariant-loop-rank
invariant-loop-rank l = l.lines.items ≡ [] ++ columns (waited_line l.program l.end l.calls) l.rank

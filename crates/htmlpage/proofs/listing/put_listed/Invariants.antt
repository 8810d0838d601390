use Rattle.std.proofs.Common.{◌≡◌, ◌++◌, map}
use Rattle.charts.specs.Chart.{columns}
use Rattle.htmlpage.specs.Page.{listed_at}
use Rattle.htmlpage.proofs.listing.put_listed.Given as goal

abbrev pub invariant-loop-place : goal.invariant-loop-place
invariant-loop-place l = l.out.items ≡ l.fn.out.items ++ columns (listed_at l.marks (map (λ line. line.now) l.lines)) l.place

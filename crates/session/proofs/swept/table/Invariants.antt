use Rattle.std.proofs.Common.{◌-◌, ◌≤◌, map}
use Rattle.session.specs.Sweeping.{IsDecidedFor, IsPageFor}
use Rattle.session.proofs.SweptPages.{AreSoFar}
use Rattle.session.proofs.swept.table.Given as goal

-- rows stand for the numbers of ranks so far
abbrev pub invariant-loop-text : goal.invariant-loop-text
invariant-loop-text l =
    (l.ranks ≤ l.wanted.last)
    × AreSoFar (IsPageFor l.path l.source (map (λ s. s.now) l.settings) l.barriers l.json (IsDecidedFor l.json)) l.json l.wanted.first l.ranks l.text.items l.status

abbrev pub decreases-loop-text : goal.decreases-loop-text
decreases-loop-text l = l.wanted.last - l.ranks

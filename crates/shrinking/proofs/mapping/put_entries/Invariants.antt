use Rattle.std.proofs.Common.{◌≡◌, ◌≤◌, ◌+◌, ◌++◌, drop, map}
use Rattle.shrinking.specs.Mapping.{entries}
use Rattle.shrinking.proofs.mapping.put_entries.Given as goal

abbrev pub invariant-loop-place : goal.invariant-loop-place
invariant-loop-place l =
    (l.out.items ++ entries l.path (l.place + 1) l.ranks (drop l.place (map (λ line. line.now) l.lines)) (drop l.place l.numbers)
    ≡ l.initial.out.items ++ entries l.path 1 0 (map (λ line. line.now) l.lines) l.numbers)
    × (l.ranks ≤ l.place)

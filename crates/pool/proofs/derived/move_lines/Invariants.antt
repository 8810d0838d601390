use Rattle.std.proofs.Common.{◌≡◌, ◌++◌, drop, map, take}
use Rattle.pool.specs.Moves.{moved_line}
use Rattle.pool.proofs.derived.move_lines.Given as goal

abbrev pub invariant-loop-line : goal.invariant-loop-line
invariant-loop-line l =
    take l.line-index l.lines ++ map (moved_line l.first l.base) (drop l.line-index l.lines) ≡ map (moved_line l.first l.base) l.fn.lines

use Rattle.std.proofs.Common.{◌≡◌, ◌+◌, ◌++◌, take}
use Rattle.exports.specs.Lrat.{lrat_text}
use Rattle.exports.proofs.lrat.put_lines.Given as goal

abbrev pub invariant-loop-place : goal.invariant-loop-place
invariant-loop-place l = l.out.items ≡ l.fn.out.items ++ lrat_text (l.clauses + 1) (take l.place l.lines)

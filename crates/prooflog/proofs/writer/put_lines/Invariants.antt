use Rattle.std.proofs.Common.{◌≡◌, ◌++◌, take, map}
use Rattle.std.specs.List.{flat_map}
use Rattle.prooflog.specs.Refutations.{item_line, a_proof}
use Rattle.prooflog.proofs.writer.put_lines.Given as goal

abbrev pub invariant-loop-line : goal.invariant-loop-line
invariant-loop-line l = l.out.items ≡ l.fn.out.items ++ flat_map item_line (map a_proof (take l.line-index l.lines))

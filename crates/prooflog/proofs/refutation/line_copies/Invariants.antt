use Rattle.std.proofs.Common.{◌≡◌, take}
use Rattle.prooflog.proofs.refutation.line_copies.Given as goal

abbrev pub invariant-loop-line : goal.invariant-loop-line
invariant-loop-line l = l.copies.items ≡ take l.line-index l.lines

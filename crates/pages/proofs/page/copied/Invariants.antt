use Rattle.std.proofs.Common.{◌≡◌, take, drop}
use Rattle.pages.proofs.page.copied.Given as goal

abbrev pub invariant-loop-line : goal.invariant-loop-line
invariant-loop-line l = l.copied.items ≡ take l.line-index (drop l.from l.lines)

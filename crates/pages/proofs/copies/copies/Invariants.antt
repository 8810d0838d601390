use Rattle.std.proofs.Common.{◌≡◌, ◌-◌, take, drop}
use Rattle.pages.proofs.copies.copies.Given as goal

abbrev pub invariant-loop-place : goal.invariant-loop-place
invariant-loop-place g l = l.copies.items ≡ take (l.place - l.from) (drop l.from (g.L.CountedList.lines l.lines))

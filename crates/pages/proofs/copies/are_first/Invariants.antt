use Rattle.std.proofs.Common.{◌≡◌, take, drop}
use Rattle.pages.proofs.copies.are_first.Given as goal

abbrev pub invariant-loop-place : goal.invariant-loop-place
invariant-loop-place g l = take l.place (drop l.from (g.L.LineList.lines l.lines)) ≡ take l.place (g.M.LineList.lines l.others)

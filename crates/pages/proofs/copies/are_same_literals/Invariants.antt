use Rattle.std.proofs.Common.{◌≡◌, take}
use Rattle.pages.proofs.copies.are_same_literals.Given as goal

abbrev pub invariant-loop-place : goal.invariant-loop-place
invariant-loop-place l = take l.place l.literals ≡ take l.place l.others

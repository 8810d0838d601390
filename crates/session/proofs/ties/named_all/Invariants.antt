use Rattle.std.specs.List.{AllByRecursion}
use Rattle.session.specs.Ties.{IsTie}
use Rattle.session.proofs.ties.named_all.Given as goal

-- those so far
abbrev pub invariant-loop-tie : goal.invariant-loop-tie
invariant-loop-tie l = AllByRecursion (IsTie l.program) l.all.items

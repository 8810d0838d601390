use Rattle.std.proofs.Common.{◌≡◌, ◌++◌, drop, map, take}
use Rattle.trimming.specs.Needed.{renumber}
use Rattle.trimming.proofs.renumbering.Renumbering.renumber.Given as goal

abbrev pub invariant-loop-number : goal.invariant-loop-number
invariant-loop-number l =
    take l.number-index l.numbers ++ map (renumber l.self.clauses l.self.flags) (drop l.number-index l.numbers) ≡ map (renumber l.self.clauses l.self.flags) l.fn.numbers

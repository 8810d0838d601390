use Rattle.std.proofs.Common.{◌≡◌, ◌+◌, length}
use Rattle.refutations.specs.Refutations.{AreDerived}
use Rattle.finishing.proofs.checking.checked_lines.Given as goal

abbrev pub invariant-loop-line : goal.invariant-loop-line
invariant-loop-line l =
    record { size : length l.known ≡ l.formula.variables + 1; derived : AreDerived l.formula l.lines.items }

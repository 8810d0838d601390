use Rattle.std.proofs.Common.{◌≤◌, List, ℕ, length}
use Rattle.places.specs.Marks.{IsNaming}
use Rattle.places.proofs.marks.naming.Given as goal

abbrev pub invariant-loop-at : goal.invariant-loop-at
invariant-loop-at l = (a b : List ℕ) → IsNaming l.mark l.text a b → l.at ≤ length a

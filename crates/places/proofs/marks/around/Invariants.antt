use Rattle.std.proofs.Common.{◌≡◌, ◌++◌, ◌≤◌, List, ℕ, length}
use Rattle.places.proofs.marks.around.Given as goal

abbrev pub invariant-loop-at : goal.invariant-loop-at
invariant-loop-at l = (a b : List ℕ) → l.text ≡ a ++ (l.mark ++ b) → l.at ≤ length a

use Rattle.std.proofs.Common.{◌-◌, ◌<◌, ◌≤◌, ℕ, get_or, length}
use Rattle.places.specs.Marks.{IsOfName}
use Rattle.places.proofs.marks.stem_of.Given as goal

abbrev pub invariant-loop-count : goal.invariant-loop-count
invariant-loop-count l = (k : ℕ) → length l.text - l.count ≤ k → k < length l.text → IsOfName (get_or l.text k 0)

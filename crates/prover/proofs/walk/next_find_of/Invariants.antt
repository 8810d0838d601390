use Rattle.std.proofs.Common.{ℕ, ◌<◌, get_or}
use Rattle.semantics.specs.Machine.{IsEnabled}
use Rattle.run_laws.specs.Places.{find_step}
use Rattle.prover.proofs.walk.next_find_of.Given as goal

abbrev pub invariant-loop-finder : goal.invariant-loop-finder
invariant-loop-finder l = (k : ℕ) → k < l.finder-index → IsEnabled l.program l.state (find_step l.sees l.send (get_or l.finders k 0)) → ⊥

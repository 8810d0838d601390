use Rattle.std.proofs.Common.{ℕ, ◌<◌, get_or}
use Rattle.std.specs.List.{Contains}
use Rattle.semantics.specs.Machine.{IsEnabled}
use Rattle.run_laws.specs.Places.{find_step}
use Rattle.prover.proofs.walk.find_of.Given as goal

abbrev pub invariant-loop-send : goal.invariant-loop-send
invariant-loop-send l = (k : ℕ) → k < l.send-index → (finder : ℕ) → Contains l.finders finder → IsEnabled l.program l.state (find_step l.sees (get_or l.sends k 0) finder) → ⊥

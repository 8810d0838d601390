-- The steps of a run, taken one after another.
use Rattle.std.proofs.Common.{◌≡◌, ℕ, ◌<◌, List, length, get_or, take, sym, subst}
use Rattle.std.proofs.lemmas.Option.{slice_get-get_or}
use Rattle.callorder.specs.Programs.{MpiProgram}
use Rattle.semantics.specs.declared.state.Step.{Step}
use Rattle.semantics.specs.Configurations.{IsConfigurationOf}
use Rattle.semantics.specs.Machine.{Configuration, IsEnabled, IsStuckRun, after_all, opening}
use Rattle.semantics.proofs.Runs.{IsRun-at}

-- the state after so many of the steps
pub record HasTaken (p : MpiProgram) (steps : List Step) (count : ℕ) (m : Configuration) : Type 0 where
  pub of : IsConfigurationOf p m
  pub now : m ≡ after_all (opening p) (take count steps)

-- the next step is enabled there
pub next_enabled : (p : MpiProgram) (steps : List Step) (count : ℕ) (m : Configuration) (d : Step) → IsStuckRun p steps → count < length steps → HasTaken p steps count m → IsEnabled p m (get_or steps count d)
next_enabled p steps count m d stuck more taken =
    subst (λ (n : Configuration). IsEnabled p n (get_or steps count d)) (sym taken.now) (IsRun-at p (opening p) steps count (get_or steps count d) stuck.run (slice_get-get_or steps count d more))

-- A run that goes on by one step.
use Rattle.std.proofs.Common.{◌≡◌, ℕ, zero, suc, ◌+◌, ◌*◌, ◌≤◌, ◌⊎◌, inl, inr, Bool, true, false, List, [], ◌∷◌, ◌++◌, length, take, slice_get, Some, refl, sym, ◌∙◌, ap, subst, arith}
use Rattle.std.proofs.Math.Seq.{take-append_seam}
use Rattle.std.proofs.lemmas.List.{take-append-le}
use Rattle.std.proofs.lemmas.Option.{same_Some}
use Rattle.callorder.specs.Programs.{MpiProgram}
use Rattle.callorder.proofs.Lookups.{slice_get_of_append}
use Rattle.semantics.specs.declared.state.Step.{Step}
use Rattle.semantics.specs.declared.state.Step.TheVariants.{Issue}
use Rattle.semantics.specs.Machine.{Configuration, opening, after, after_all, IsEnabled, IsRun}
use Rattle.semantics.proofs.Lengths.{runs_are_short}
use Rattle.semantics.proofs.Runs.{after_all-push, IsRun-push}
use Rattle.leastrun.specs.declared.walk.Buffering.{Buffering}
use Rattle.leastrun.specs.declared.walk.Buffering.TheVariants.{Least, Most}
use Rattle.leastrun.specs.LeastBuffered.{NothingEnabled, BuffersSo, IsBufferedRun}
use Rattle.leastrun.specs.parts.Waiting.{IsNext}

pub now_more : (m : Configuration) (steps next : List Step) (step : Step) (s t : Configuration) → s ≡ after_all m steps → t ≡ after s step → next ≡ steps ++ step ∷ [] → t ≡ after_all m next
now_more m steps next step s t now one more =
    one ∙ ap (λ (x : Configuration). after x step) now ∙ sym (after_all-push m steps step) ∙ ap (after_all m) (sym more)

pub run_more : (p : MpiProgram) (m : Configuration) (steps next : List Step) (step : Step) (s : Configuration) → s ≡ after_all m steps → IsRun p m steps → IsEnabled p s step → next ≡ steps ++ step ∷ [] → IsRun p m next
run_more p m steps next step s now run enabled more =
    subst (IsRun p m) (sym more) (IsRun-push p m steps step run (subst (λ (x : Configuration). IsEnabled p x step) now enabled))

-- no run has so many steps
pub too_long : (p : MpiProgram) (steps : List Step) (before turn : ℕ) → IsRun p (opening p) steps → before + turn ≡ length steps → 2 * length p.calls + 1 ≤ turn → ⊥
too_long p steps before turn run size long = omega (arith, runs_are_short p steps run, size, long)

last_of : (step : Step) (rank k : ℕ) (buffered : Bool) → slice_get (step ∷ []) k ≡ Some (Issue rank buffered) → (k ≡ 0) × (step ≡ Issue rank buffered)
last_of step rank zero buffered there = (refl, same_Some step (Issue rank buffered) there)
last_of step rank (suc k) buffered there = absurd (cc)

-- the place's issue is among these steps, or is the next one
issue_at : (steps next : List Step) (step : Step) (place rank : ℕ) (buffered : Bool) → next ≡ steps ++ step ∷ [] → slice_get next place ≡ Some (Issue rank buffered)
    → ((slice_get steps place ≡ Some (Issue rank buffered)) × (take place next ≡ take place steps)) ⊎ ((step ≡ Issue rank buffered) × (take place next ≡ steps))
issue_at steps next step place rank buffered more there =
    elim (slice_get_of_append steps (step ∷ []) place (Issue rank buffered) (subst (λ (z : List Step). slice_get z place ≡ Some (Issue rank buffered)) more there)) [
      | inl old ↦ inl (old.0, ap (take place) more ∙ take-append-le place steps (step ∷ []) (omega (arith, old.1)))
      | inr new ↦
          let w = last_of step rank new.0 buffered new.2 in
          let at : place ≡ length steps = omega (arith, new.1, w.0) in
          inr (w.1, ap (take place) more ∙ ap (λ (z : ℕ). take z (steps ++ step ∷ [])) at ∙ take-append_seam steps (step ∷ []))
    ]

pub choice_more : (buffering : Buffering) (p : MpiProgram) (steps next : List Step) (step : Step) (s : Configuration) → s ≡ after_all (opening p) steps → BuffersSo buffering p steps → IsNext buffering p s step → next ≡ steps ++ step ∷ [] → BuffersSo buffering p next
choice_more Least p steps next step s now before one more = λ place rank there.
    elim (issue_at steps next step place rank true more there) [
      | inl old ↦ before place rank old.0
      | inr new ↦ one.choice rank new.0
    ]
choice_more Most p steps next step s now before one more = λ place rank there can.
    elim (issue_at steps next step place rank false more there) [
      | inl old ↦ before place rank old.0 (subst (λ (z : List Step). IsEnabled p (after_all (opening p) z) (Issue rank true)) old.1 can)
      | inr new ↦ one.choice rank new.0 (subst (λ (z : Configuration). IsEnabled p z (Issue rank true)) (ap (after_all (opening p)) new.1 ∙ sym now) can)
    ]

-- what the walk has shown is the run's contract
pub is_buffered_run : (buffering : Buffering) (p : MpiProgram) (steps : List Step) → IsRun p (opening p) steps → NothingEnabled p (after_all (opening p) steps) → BuffersSo buffering p steps → IsBufferedRun buffering p steps
is_buffered_run Least p steps run ended choice = record { run = run; ended = ended; choice = choice }
is_buffered_run Most p steps run ended choice = record { run = run; ended = ended; choice = choice }

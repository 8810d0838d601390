-- When the events of a run happen.
use Rattle.std.proofs.Common.{◌≡◌, ℕ, zero, suc, ◌+◌, ◌<◌, ◌≤◌, ◌⊎◌, inl, inr, Bool, true, false, cond, List, [], ◌∷◌, Some, length, take, slice_get, refl, arith}
use Rattle.std.proofs.lemmas.Bool.Decides.{nat_tests}
use Rattle.callorder.specs.Programs.{MpiProgram}
use Rattle.semantics.specs.declared.state.Step.{Step}
use Rattle.semantics.specs.declared.state.Step.TheVariants.{Issue}
use Rattle.semantics.specs.Machine.{Configuration, opening, after, after_all, IsRun, is_issued}
use Rattle.run_laws.specs.Laws.{IsInRankOrder}
use Rattle.run_laws.specs.Places.{IsIssuedBefore}
use Rattle.run_laws.proofs.Issued.{issued_before}
use Rattle.formula.specs.declared.facts.RunEvent.{RunEvent}
use Rattle.formula.specs.declared.facts.RunEvent.TheVariants.{Issue as issue_of}
use Rattle.formula.specs.Families.{place_of_event}
use Rattle.formula_from_run.specs.Worlds.{is_event, clock_from}

cond_zero : (b : Bool) (k n : ℕ) → (b ≡ false → k ≤ n) → cond b 0 (suc k) ≤ suc n
cond_zero true k n h = omega arith
cond_zero false k n h = omega (arith, h refl)

-- an event happens no later than where some step is it
pub clock_at_most : (p : MpiProgram) (m : Configuration) (steps : List Step) (e : RunEvent) (i : ℕ) (x : Step) → slice_get steps i ≡ Some x → is_event (after_all m (take i steps)) x e ≡ true → clock_from p m steps e ≤ i
clock_at_most p m [] e i x there is = absurd (cc)
clock_at_most p m (y ∷ steps) e zero x there is =
    let same : y ≡ x = cc in
    let now : is_event m y e ≡ true = rw same is in
    rw now (omega arith)
clock_at_most p m (y ∷ steps) e (suc i) x there is =
    cond_zero (is_event m y e) (clock_from p (after m y) steps e) i (λ _. clock_at_most p (after m y) steps e i x there is)

-- the step at this place is the event
pub record HappensAt (m : Configuration) (steps : List Step) (e : RunEvent) (i : ℕ) : Type 0 where
  pub step : Step
  pub there : slice_get steps i ≡ Some step
  pub is : is_event (after_all m (take i steps)) step e ≡ true

happens_step : (p : MpiProgram) (m : Configuration) (y : Step) (steps : List Step) (e : RunEvent) (b : Bool) → is_event m y e ≡ b → cond b 0 (suc (clock_from p (after m y) steps e)) < suc (length steps) → (clock_from p (after m y) steps e < length steps → HappensAt (after m y) steps e (clock_from p (after m y) steps e)) → HappensAt m (y ∷ steps) e (cond b 0 (suc (clock_from p (after m y) steps e)))
happens_step p m y steps e true is below rest = record { step = y; there = refl; is = is }
happens_step p m y steps e false is below rest =
    let later = rest (omega arith) in
    record { step = later.step; there = later.there; is = later.is }

-- an event that comes before the end happens by a step
pub happens : (p : MpiProgram) (m : Configuration) (steps : List Step) (e : RunEvent) → clock_from p m steps e < length steps → HappensAt m steps e (clock_from p m steps e)
happens p m [] e below = absurd (omega arith)
happens p m (y ∷ steps) e below = happens_step p m y steps e (is_event m y e) refl below (happens p (after m y) steps e)

-- an event that a step before some place is happens before that place
pub clock_before : (p : MpiProgram) (steps : List Step) (c i : ℕ) → IsIssuedBefore (opening p) steps c i → clock_from p (opening p) steps (issue_of c) < i
clock_before p steps c i w =
    let v = w.issued in
    let next = v.next in
    let is : is_event (after_all (opening p) (take w.earlier steps)) (Issue v.rank v.buffered) (issue_of c) ≡ true = rw next (grind (arith, nat_tests)) in
    omega (arith, clock_at_most p (opening p) steps (issue_of c) w.earlier (Issue v.rank v.buffered) v.there is, w.before)

-- what is issued after so many steps is issued by one of them
pub issued_clock : (p : MpiProgram) (steps : List Step) (c i : ℕ) → IsInRankOrder p → IsRun p (opening p) steps → is_issued p (after_all (opening p) (take i steps)) c ≡ true → clock_from p (opening p) steps (issue_of c) < i
issued_clock p steps c i order run issued = clock_before p steps c i (issued_before p steps i c order run issued)

-- an event happens by a step, or comes after all steps, by its place
pub happens_or_never : (p : MpiProgram) (m : Configuration) (steps : List Step) (e : RunEvent) → (clock_from p m steps e < length steps) ⊎ (clock_from p m steps e ≡ length steps + place_of_event p e)
happens_or_never p m [] e = inr (omega arith)
happens_or_never p m (x ∷ steps) e = later_or (is_event m x e) (clock_from p (after m x) steps e) (length steps) (place_of_event p e) (happens_or_never p (after m x) steps e)
  where
    later_or : (b : Bool) (k n place : ℕ) → (k < n) ⊎ (k ≡ n + place) → (cond b 0 (suc k) < suc n) ⊎ (cond b 0 (suc k) ≡ suc n + place)
    later_or true k n place h = inl (omega arith)
    later_or false k n place (inl below) = inl (omega arith)
    later_or false k n place (inr e) = inr (omega (arith, e))

pub clock_most : (p : MpiProgram) (m : Configuration) (steps : List Step) (e : RunEvent) → clock_from p m steps e ≤ length steps + place_of_event p e
clock_most p m steps e =
    elim (happens_or_never p m steps e) [ inl below ↦ omega (arith, below) | inr same ↦ omega (arith, same) ]

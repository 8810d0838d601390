-- The clocks of different events differ.
use Rattle.std.proofs.Common.{◌≡◌, ℕ, ◌<◌, inl, inr, true, List, Option, Some, None, length, take, slice_get, refl, sym, ap, subst, arith}
use Rattle.std.proofs.lemmas.Bool.Decides.{nat_tests}
use Rattle.callorder.specs.Programs.{MpiProgram}
use Rattle.semantics.specs.declared.state.Step.{Step}
use Rattle.semantics.specs.declared.state.Step.TheVariants.{Issue, Match, See}
use Rattle.semantics.specs.Machine.{Configuration, opening, after_all}
use Rattle.formula.specs.declared.facts.RunEvent.{RunEvent}
use Rattle.formula.specs.declared.facts.RunEvent.TheVariants.{Issue as issue_of, Match as match_of}
use Rattle.formula.specs.Families.{event_at, place_of_event}
use Rattle.formula_from_run.specs.Worlds.{is_that, is_event, clock_from}
use Rattle.formula_from_run.specs.Laws.{ClocksDiffer}
use Rattle.formula_from_run.proofs.Clocks.{happens, happens_or_never}
use Rattle.formula.proofs.Events.{events_stand_once}

-- ---- clocks of different events

-- a step is one event at most
one_issue : (o : Option ℕ) (c d : ℕ) → is_that o c ≡ true → is_that o d ≡ true → c ≡ d
one_issue None c d e f = absurd (cc)
one_issue (Some x) c d e f = grind (arith, nat_tests)

one_event : (m : Configuration) (x : Step) (e f : RunEvent) → is_event m x e ≡ true → is_event m x f ≡ true → e ≡ f
one_event m (Issue r b) (issue_of c) (issue_of d) i j = ap issue_of (one_issue (slice_get m.next r) c d i j)
one_event m (Issue r b) (issue_of c) (match_of d) i j = absurd (cc)
one_event m (Issue r b) (match_of c) f i j = absurd (cc)
one_event m (See s t) (issue_of c) f i j = absurd (cc)
one_event m (See s t) (match_of c) (issue_of d) i j = absurd (cc)
one_event m (See s t) (match_of c) (match_of d) i j = ap match_of (let same : c ≡ d = grind (arith, nat_tests) in same)
one_event m (Match s t) (issue_of c) f i j = absurd (cc)
one_event m (Match s t) (match_of c) (issue_of d) i j = absurd (cc)
one_event m (Match s t) (match_of c) (match_of d) i j = ap match_of (let same : c ≡ d = grind (arith, nat_tests) in same)

same_step : (p : MpiProgram) (m : Configuration) (steps : List Step) (e f : RunEvent) (i : ℕ) → clock_from p m steps e ≡ i → clock_from p m steps f ≡ i → i < length steps → e ≡ f
same_step p m steps e f i h g below =
    let w = happens p m steps e (omega (arith, h, below)) in
    let v = happens p m steps f (omega (arith, g, below)) in
    let first : slice_get steps i ≡ Some w.step = subst (λ (z : ℕ). slice_get steps z ≡ Some w.step) h w.there in
    let second : slice_get steps i ≡ Some v.step = subst (λ (z : ℕ). slice_get steps z ≡ Some v.step) g v.there in
    let same : v.step ≡ w.step = cc in
    let is : is_event (after_all m (take i steps)) w.step e ≡ true = subst (λ (z : ℕ). is_event (after_all m (take z steps)) w.step e ≡ true) h w.is in
    let also : is_event (after_all m (take i steps)) v.step f ≡ true = subst (λ (z : ℕ). is_event (after_all m (take z steps)) v.step f ≡ true) g v.is in
    one_event (after_all m (take i steps)) w.step e f is (subst (λ (z : Step). is_event (after_all m (take i steps)) z f ≡ true) same also)

one_place_each : (p : MpiProgram) (m : Configuration) (steps : List Step) (e f : RunEvent) → clock_from p m steps e ≡ clock_from p m steps f → place_of_event p e ≡ place_of_event p f
one_place_each p m steps e f same =
    elim (happens_or_never p m steps e) [
      | inl soon ↦ ap (place_of_event p) (same_step p m steps e f (clock_from p m steps e) refl (sym same) soon)
      | inr never ↦
          elim (happens_or_never p m steps f) [
            | inl soon ↦ absurd (omega (arith, same, never, soon))
            | inr also_never ↦ omega (arith, same, never, also_never)
          ]
    ]

pub clocks_differ : ClocksDiffer
clocks_differ p steps i j first below same =
    let e = one_place_each p (opening p) steps (event_at p i) (event_at p j) same in
    omega (arith, e, events_stand_once p i (omega (arith, first, below)), events_stand_once p j below, first)

-- What is wrong first is one thing, and nothing is where phases make up the program.
use Rattle.std.proofs.Common.{◌≡◌, ℕ, zero, suc, ◌+◌, ◌<◌, ◌≤◌, inl, inr, List, [], ◌∷◌, Some, length, take, get_or, slice_get, refl, sym, ap, ◌∙◌, subst, arith}
use Rattle.std.proofs.lemmas.Bool.{cases_lt}
use Rattle.std.proofs.lemmas.Option.{same_Some, slice_get-get_or, slice_get_within}
use Rattle.calltext.specs.Grammar.{long}
use Rattle.callorder.specs.Programs.{MpiProgram}
use Rattle.callorder.proofs.FirstFaults.{one_program_of_bytes_within}
use Rattle.phases.specs.Conditions.{LeavesNothing}
use Rattle.phases.specs.Rests.{IsFront, behind}
use Rattle.phase_checker.specs.declared.phase.Phase.{Phase}
use Rattle.phase_checker.specs.declared.reason.NotJoined.{NotJoined}
use Rattle.phase_checker.specs.declared.reason.NotJoined.TheVariants as joins
use Rattle.phase_checker.specs.Dealing.{ComesTo, Dealt, IsAt, IsEarly, IsPhaseTaken, IsWrongAtPlace}
use Rattle.phase_checker.specs.Laws.{JoinedHaveNoFault, OneJoinFault}
use Rattle.phase_checker.proofs.Dealing.{one_phase}

-- ---- what is left is one program

one_taken : (phases : List Phase) (number : ℕ) (p q r : MpiProgram) → IsPhaseTaken phases number p q → IsPhaseTaken phases number p r → q ≡ r
one_taken phases number p q r x y =
    let same : x.phase ≡ y.phase = same_Some x.phase y.phase (sym x.there ∙ y.there) in
    x.left ∙ ap (λ (z : Phase). behind p z.program) same ∙ sym y.left

one_left : (phases : List Phase) (order : List ℕ) (p q r : MpiProgram) → Dealt phases p order q → Dealt phases p order r → q ≡ r
one_left phases [] p q r d e = sym d ∙ e
one_left phases (number ∷ order) p q r (rest, taken, d) (other, taken', e) =
    one_left phases order rest q r d (subst (λ (z : MpiProgram). Dealt phases z order r) (one_taken phases number p other rest taken' taken) e)

-- a phase that is dealt later on is in front of what is left at its place
taken_at : (phases : List Phase) (order : List ℕ) (place other number : ℕ) (p q r : MpiProgram) → Dealt phases p (take place order) q → Dealt phases p (take other order) r
    → place < other → slice_get order place ≡ Some number → (rest : MpiProgram) × IsPhaseTaken phases number q rest
taken_at phases [] place other number p q r d e before entry = absurd (omega (arith, slice_get_within [] place number entry))
taken_at phases (first ∷ order) place zero number p q r d e before entry = absurd (omega (arith, before))
taken_at phases (first ∷ order) zero (suc o) number p q r d (rest, taken, e) before entry =
    let same : first ≡ number = same_Some first number entry in
    (rest, subst (λ (z : MpiProgram). IsPhaseTaken phases number z rest) d (subst (λ (z : ℕ). IsPhaseTaken phases z p rest) same taken))
taken_at phases (first ∷ order) (suc k) (suc o) number p q r (rest, taken, d) (other, taken', e) before entry =
    taken_at phases order k o number rest q r d (subst (λ (z : MpiProgram). Dealt phases z (take o order) r) (one_taken phases first p other rest taken' taken) e) (omega (arith, before)) entry

-- ---- tests of a place, in their order

-- the test that fails for this reason
abbrev level : NotJoined → ℕ
level joins.Left = 0
level (joins.NoPhase at) = 1
level (joins.Other at) = 2
level (joins.Source at) = 3
level (joins.Uneven at) = 4
level joins.Memory = 0
level (joins.Read fault) = 0
level (joins.Resolve fault) = 0

abbrev told : ℕ → ℕ → NotJoined
told zero place = joins.Left
told (suc zero) place = joins.NoPhase place
told (suc (suc zero)) place = joins.Other place
told (suc (suc (suc zero))) place = joins.Source place
told (suc (suc (suc (suc n)))) place = joins.Uneven place

module _ (phases : List Phase) (order : List ℕ) (place : ℕ) (q : MpiProgram) where
  abbrev Passes : ℕ → Type 0
  Passes zero = place < length order
  Passes (suc zero) = (phase : Phase) × IsAt phases order place phase
  Passes (suc (suc zero)) = (phase : Phase) → IsAt phases order place phase → IsFront q phase.program
  Passes (suc (suc (suc zero))) = (phase : Phase) → IsAt phases order place phase → IsEarly phases order place phase → ⊥
  Passes (suc (suc (suc (suc n)))) = (phase : Phase) → IsAt phases order place phase → place + 1 < length order → LeavesNothing phase.program

  is_told : (a : NotJoined) → IsWrongAtPlace phases order place q a → a ≡ told (level a) place
  is_told joins.Left w = refl
  is_told (joins.NoPhase at) w = ap joins.NoPhase w.0
  is_told (joins.Other at) w = ap joins.Other w.0
  is_told (joins.Source at) w = ap joins.Source w.0
  is_told (joins.Uneven at) w = ap joins.Uneven w.0
  is_told joins.Memory w = absurd w
  is_told (joins.Read fault) w = absurd w
  is_told (joins.Resolve fault) w = absurd w

  fails : (a : NotJoined) → IsWrongAtPlace phases order place q a → Passes (level a) → ⊥
  fails joins.Left (e, never) pass = omega (arith, e, pass)
  fails (joins.NoPhase at) (e, number, entry, none) (phase, is) =
      let same : is.number ≡ number = same_Some is.number number (sym is.entry ∙ entry) in
      let there = ap (slice_get phases) (sym same) ∙ is.there in cc
  fails (joins.Other at) (e, phase, is, never) pass = never (pass phase is)
  fails (joins.Source at) (e, phase, first, early) pass = pass phase first.is early
  fails (joins.Uneven at) (e, more, phase, first, late, never) pass = never (pass phase first.is more)
  fails joins.Memory w pass = absurd w
  fails (joins.Read fault) w pass = absurd w
  fails (joins.Resolve fault) w pass = absurd w

  at_inside : (phase : Phase) → IsAt phases order place phase → place < length order
  at_inside phase is = slice_get_within order place is.number is.entry

  passes : (a : NotJoined) → IsWrongAtPlace phases order place q a → (j : ℕ) → j < level a → Passes j
  passes joins.Left w j low = absurd (omega (arith, low))
  passes (joins.NoPhase at) w zero low = slice_get_within order place w.1 w.2
  passes (joins.NoPhase at) w (suc j) low = absurd (omega (arith, low))
  passes (joins.Other at) w zero low = at_inside w.1 w.2
  passes (joins.Other at) w (suc zero) low = (w.1, w.2)
  passes (joins.Other at) w (suc (suc j)) low = absurd (omega (arith, low))
  passes (joins.Source at) w zero low = at_inside w.1 w.2.is
  passes (joins.Source at) w (suc zero) low = (w.1, w.2.is)
  passes (joins.Source at) w (suc (suc zero)) low = λ phase is. subst (λ (z : Phase). IsFront q z.program) (one_phase phases order place w.1 phase w.2.is is) w.2.front
  passes (joins.Source at) w (suc (suc (suc j))) low = absurd (omega (arith, low))
  passes (joins.Uneven at) w zero low = at_inside w.2 w.3.is
  passes (joins.Uneven at) w (suc zero) low = (w.2, w.3.is)
  passes (joins.Uneven at) w (suc (suc zero)) low = λ phase is. subst (λ (z : Phase). IsFront q z.program) (one_phase phases order place w.2 phase w.3.is is) w.3.front
  passes (joins.Uneven at) w (suc (suc (suc zero))) low = λ phase is early. w.4 (subst (IsEarly phases order place) (sym (one_phase phases order place w.2 phase w.3.is is)) early)
  passes (joins.Uneven at) w (suc (suc (suc (suc j)))) low = absurd (omega (arith, low))
  passes joins.Memory w j low = absurd w
  passes (joins.Read fault) w j low = absurd w
  passes (joins.Resolve fault) w j low = absurd w

  one_wrong : (a b : NotJoined) → IsWrongAtPlace phases order place q a → IsWrongAtPlace phases order place q b → a ≡ b
  one_wrong a b x y = elim (cases_lt (level a) (level b)) [
    | inl low ↦ absurd (fails a x (passes b y (level a) low))
    | inr high ↦ elim (cases_lt (level b) (level a)) [
      | inl low ↦ absurd (fails b y (passes a x (level b) low))
      | inr other ↦ let same : level a ≡ level b = omega (arith, high, other) in is_told a x ∙ ap (λ (z : ℕ). told z place) same ∙ sym (is_told b y)
    ]
  ]

  within : (a : NotJoined) → IsWrongAtPlace phases order place q a → place ≤ length order
  within joins.Left w = omega (arith, w.0)
  within (joins.NoPhase at) w = let inside = slice_get_within order place w.1 w.2 in omega (arith, inside)
  within (joins.Other at) w = let inside = at_inside w.1 w.2 in omega (arith, inside)
  within (joins.Source at) w = let inside = at_inside w.1 w.2.is in omega (arith, inside)
  within (joins.Uneven at) w = let inside = at_inside w.2 w.3.is in omega (arith, inside)
  within joins.Memory w = absurd w
  within (joins.Read fault) w = absurd w
  within (joins.Resolve fault) w = absurd w

  -- behind the last place nothing is wrong but that calls are left
  at_end : (a : NotJoined) → IsWrongAtPlace phases order place q a → length order ≤ place → q.calls ≡ [] → ⊥
  at_end joins.Left w past none = w.1 none
  at_end (joins.NoPhase at) w past none = let inside = slice_get_within order place w.1 w.2 in omega (arith, inside, past)
  at_end (joins.Other at) w past none = let inside = at_inside w.1 w.2 in omega (arith, inside, past)
  at_end (joins.Source at) w past none = let inside = at_inside w.1 w.2.is in omega (arith, inside, past)
  at_end (joins.Uneven at) w past none = let inside = at_inside w.2 w.3.is in omega (arith, inside, past)
  at_end joins.Memory w past none = w
  at_end (joins.Read fault) w past none = w
  at_end (joins.Resolve fault) w past none = w

  module _ (p r : MpiProgram) (other : ℕ) (here : ComesTo phases order place p q) (later : ComesTo phases order other p r) (before : place < other) (inside : other ≤ length order) where
    -- where a later place is come to, all tests passed
    later_passes : (j : ℕ) → Passes j
    later_passes zero = omega (arith, before, inside)
    later_passes (suc zero) =
        let entry = slice_get-get_or order place 0 (omega (arith, before, inside)) in
        let taken = (taken_at phases order place other (get_or order place 0) p q r here.dealt later.dealt before entry).1 in
        (taken.phase, record { number = get_or order place 0; entry = entry; there = taken.there })
    later_passes (suc (suc zero)) = λ phase is.
        let taken = (taken_at phases order place other is.number p q r here.dealt later.dealt before is.entry).1 in
        subst (λ (z : Phase). IsFront q z.program) (same_Some taken.phase phase (sym taken.there ∙ is.there)) taken.front
    later_passes (suc (suc (suc zero))) = λ phase is early.
        let more = slice_get_within order early.later early.is.number early.is.entry in
        (later.keep place phase before (omega (arith, more, early.behind)) is).late early
    later_passes (suc (suc (suc (suc j)))) = λ phase is more. (later.keep place phase before more is).even

    pub no_earlier : (a : NotJoined) → IsWrongAtPlace phases order place q a → ⊥
    no_earlier a w = fails a w (later_passes (level a))

-- ---- texts

pub joined_have_no_fault : JoinedHaveNoFault
joined_have_no_fault text phases order why joined fault =
    let same : joined.p ≡ fault.p = one_program_of_bytes_within long text joined.p fault.p joined.is_text fault.is_text in
    let all : ComesTo phases order (length order) fault.p joined.left = subst (λ (z : MpiProgram). ComesTo phases order (length order) z joined.left) same joined.all in
    elim (cases_lt fault.place (length order)) [
      | inl before ↦ no_earlier phases order fault.place fault.q fault.p joined.left (length order) fault.before all before (omega arith) why fault.wrong
      | inr past ↦
          let low = within phases order fault.place fault.q why fault.wrong in
          let e : length order ≡ fault.place = omega (arith, past, low) in
          let here : ComesTo phases order fault.place fault.p joined.left = subst (λ (z : ℕ). ComesTo phases order z fault.p joined.left) e all in
          let left : joined.left ≡ fault.q = one_left phases (take fault.place order) fault.p joined.left fault.q here.dealt fault.before.dealt in
          at_end phases order fault.place fault.q why fault.wrong past (ap (λ (z : MpiProgram). z.calls) (sym left) ∙ joined.nothing)
    ]

pub one_fault : OneJoinFault
one_fault text phases order a b x y =
    let same : y.p ≡ x.p = one_program_of_bytes_within long text y.p x.p y.is_text x.is_text in
    let other : ComesTo phases order y.place x.p y.q = subst (λ (z : MpiProgram). ComesTo phases order y.place z y.q) same y.before in
    elim (cases_lt x.place y.place) [
      | inl before ↦ absurd (no_earlier phases order x.place x.q x.p y.q y.place x.before other before (within phases order y.place y.q b y.wrong) a x.wrong)
      | inr from ↦ elim (cases_lt y.place x.place) [
        | inl before ↦ absurd (no_earlier phases order y.place y.q x.p x.q x.place other x.before before (within phases order x.place x.q a x.wrong) b y.wrong)
        | inr back ↦
            let e : y.place ≡ x.place = omega (arith, from, back) in
            let here : ComesTo phases order x.place x.p y.q = subst (λ (z : ℕ). ComesTo phases order z x.p y.q) e other in
            let left : y.q ≡ x.q = one_left phases (take x.place order) x.p y.q x.q here.dealt x.before.dealt in
            let wrong : IsWrongAtPlace phases order x.place y.q b = subst (λ (z : ℕ). IsWrongAtPlace phases order z y.q b) e y.wrong in
            one_wrong phases order x.place x.q a b x.wrong (subst (λ (z : MpiProgram). IsWrongAtPlace phases order x.place z b) left wrong)
      ]
    ]

-- Phases that are dealt, one more at a time.
use Rattle.std.proofs.Common.{◌≡◌, ℕ, ◌+◌, ◌<◌, ◌≤◌, inl, inr, Bool, true, false, nat_eq, List, [], ◌∷◌, ◌++◌, Option, Some, None, IfSome, length, take, get_or, slice_get, refl, sym, ap, ◌∙◌, subst, arith}
use Rattle.std.specs.Option.{option_eq}
use Rattle.std.proofs.lemmas.Bool.{cases_eq, cases_lt, eq-eqb}
use Rattle.std.proofs.lemmas.List.{take_more}
use Rattle.std.proofs.lemmas.Option.{same_Some, slice_get-get_or, slice_get_read, slice_get_within, get_or_from_slice_get}
use Rattle.callorder.specs.Programs.{MpiProgram}
use Rattle.phases.specs.Rests.{IsRest, behind}
use Rattle.phase_checker.specs.declared.phase.Phase.{Phase}
use Rattle.phase_checker.specs.declared.reason.NotJoined.{NotJoined}
use Rattle.phase_checker.specs.declared.reason.NotJoined.TheVariants as joins
use Rattle.phase_checker.specs.Dealing.{ComesTo, Dealt, IsAt, IsEarly, IsPhaseInFront, IsPhaseTaken, IsWrongAtPlace, KeepsToItself}
use Rattle.phase_checker.specs.parts.Parts.{IsDealtAt, IsFirstEarly, IsUnkept}

dealt_more : (phases : List Phase) (number : ℕ) (p q rest : MpiProgram) (order : List ℕ) → Dealt phases p order q → IsPhaseTaken phases number q rest
    → Dealt phases p (order ++ number ∷ []) rest
dealt_more phases number p q rest [] e taken = (rest, subst (λ (z : MpiProgram). IsPhaseTaken phases number z rest) (sym e) taken, refl)
dealt_more phases number p q rest (first ∷ order) d taken = (d.0, d.1, dealt_more phases number d.0 q rest order d.2 taken)

-- a place of the order has one phase
pub one_phase : (phases : List Phase) (order : List ℕ) (place : ℕ) (a b : Phase) → IsAt phases order place a → IsAt phases order place b → a ≡ b
one_phase phases order place a b x y =
    let same : x.number ≡ y.number = same_Some x.number y.number (sym x.entry ∙ y.entry) in
    same_Some a b (sym x.there ∙ ap (slice_get phases) same ∙ y.there)

pub entry_is : (phases : List Phase) (order : List ℕ) (place : ℕ) (phase : Phase) → place < length order → get_or order place 0 < length phases
    → phase ≡ get_or phases (get_or order place 0) phase → IsAt phases order place phase
entry_is phases order place phase inside within is =
    record { number = get_or order place 0; entry = slice_get-get_or order place 0 inside; there = slice_get_read phases (length phases) (get_or order place 0) phase refl within is }

pub comes_at_first : (phases : List Phase) (order : List ℕ) (p : MpiProgram) → ComesTo phases order 0 p p
comes_at_first phases order p = record { dealt = refl; keep = λ at phase below. absurd (omega (arith, below)) }

module _ (phases : List Phase) (order next : List ℕ) (place : ℕ) (whole p q : MpiProgram) (so_far : ComesTo phases order place p q) (d : IsDealtAt phases order place whole q next) where
  pub one_more : ComesTo phases order (place + 1) p (behind q d.phase.program)
  one_more = record { dealt = dealt; keep = keep }
    where
      dealt : Dealt phases p (take (place + 1) order) (behind q d.phase.program)
      dealt =
          let inside = slice_get_within order place d.is.number d.is.entry in
          let longer : take (place + 1) order ≡ take place order ++ d.is.number ∷ [] =
          take_more order place 0 inside ∙ ap (λ (z : ℕ). take place order ++ z ∷ []) (get_or_from_slice_get order place d.is.number 0 d.is.entry) in
          subst (λ (z : List ℕ). Dealt phases p z (behind q d.phase.program)) (sym longer)
          (dealt_more phases d.is.number p q (behind q d.phase.program) (take place order) so_far.dealt (record { phase = d.phase; there = d.is.there; front = d.front; left = refl }))

      keep : (at : ℕ) (phase : Phase) → at < place + 1 → at + 1 < length order → IsAt phases order at phase → KeepsToItself phases order at phase
      keep at phase below more is = elim (cases_lt at place) [
        | inl before ↦ so_far.keep at phase before more is
        | inr there ↦
            let e : at ≡ place = omega (arith, there, below) in
            let here : IsAt phases order place phase = subst (λ (z : ℕ). IsAt phases order z phase) e is in
            subst (λ (z : ℕ). KeepsToItself phases order z phase) (sym e)
            (subst (KeepsToItself phases order place) (one_phase phases order place d.phase phase d.is here) (d.keeps (omega (arith, e, more))))
      ]

-- ---- what is wrong

-- a phase in front that others follow, and that doesn't keep to itself, is wrong at its place
pub unkept_is_wrong : (phases : List Phase) (order : List ℕ) (place : ℕ) (q : MpiProgram) (phase : Phase) (why : NotJoined) → IsUnkept phases order place phase why
    → place + 1 < length order → IsPhaseInFront phases order place q phase → IsWrongAtPlace phases order place q why
unkept_is_wrong phases order place q phase (joins.Source at) un more first = (un.0, phase, first, un.1)
unkept_is_wrong phases order place q phase (joins.Uneven at) un more first = (un.0, more, phase, first, un.1, un.2)
unkept_is_wrong phases order place q phase joins.Memory un more first = absurd un
unkept_is_wrong phases order place q phase (joins.Read fault) un more first = absurd un
unkept_is_wrong phases order place q phase (joins.Resolve fault) un more first = absurd un
unkept_is_wrong phases order place q phase (joins.NoPhase at) un more first = absurd un
unkept_is_wrong phases order place q phase (joins.Other at) un more first = absurd un
unkept_is_wrong phases order place q phase joins.Left un more first = absurd un

-- ---- the first place for whose phase a later one may send too early

-- a test that tells another place
pub other_place : (early : Option ℕ) (place : ℕ) (r : Bool) → r ≡ option_eq nat_eq early (Some place) → r ≡ false → early ≡ Some place → ⊥
other_place early place r is off e =
    let on : option_eq nat_eq early (Some place) ≡ true = ap (λ (z : Option ℕ). option_eq nat_eq z (Some place)) e ∙ eq-eqb place place refl in
    let never : true ≡ false = sym on ∙ sym is ∙ off in
    cc

module _ (phases : List Phase) (order : List ℕ) (place : ℕ) (phase : Phase) (is : IsAt phases order place phase) where
  -- it is early
  pub first_is_unkept : (early : Option ℕ) → IsFirstEarly phases order early → early ≡ Some place → IsEarly phases order place phase
  first_is_unkept None found e = absurd (cc)
  first_is_unkept (Some at) found e =
      let here : at ≡ place = same_Some at place e in
      let there : IsAt phases order place found.0.0 = subst (λ (z : ℕ). IsAt phases order z found.0.0) here found.0.1 in
      let same : found.0.0 ≡ phase = one_phase phases order place found.0.0 phase there is in
      subst (λ (z : Phase). IsEarly phases order place z) same (subst (λ (z : ℕ). IsEarly phases order z found.0.0) here found.0.2)

  -- and no place before it is
  pub earlier_is_late : (early : Option ℕ) → IsFirstEarly phases order early → IfSome early (λ first. place ≤ first) → (early ≡ Some place → ⊥) → IsEarly phases order place phase → ⊥
  earlier_is_late None found before other = found place phase is
  earlier_is_late (Some at) found before other = elim (cases_eq at place) [
    | inl e ↦ absurd (other (ap Some e))
    | inr differ ↦ found.1 place phase (omega (arith, before, differ)) is
  ]

-- it isn't passed by a phase that is dealt
pub still_before : (phases : List Phase) (order next : List ℕ) (place : ℕ) (p q : MpiProgram) (early : Option ℕ) → IsFirstEarly phases order early → IfSome early (λ first. place ≤ first)
    → IsDealtAt phases order place p q next → IfSome early (λ first. place + 1 ≤ first)
still_before phases order next place p q None found before d = tt
still_before phases order next place p q (Some at) found before d = elim (cases_eq at place) [
  | inl e ↦
      let early = first_is_unkept phases order place d.phase d.is (Some at) found (ap Some e) in
      let more = slice_get_within order early.later early.is.number early.is.entry in
      absurd ((d.keeps (omega (arith, more, early.behind))).late early)
  | inr differ ↦ omega (arith, before, differ)
]

-- ---- all phases

-- what holds when the phases before a place are dealt
pub record IsDealtTo (phases : List Phase) (order : List ℕ) (p : MpiProgram) (next : List ℕ) (place : ℕ) : Type 0 where
  pub q : MpiProgram
  pub rest : IsRest p next q
  pub comes : ComesTo phases order place p q

pub dealt_further : (phases : List Phase) (order old next : List ℕ) (p : MpiProgram) (place : ℕ) → (so_far : IsDealtTo phases order p old place)
    → IsDealtAt phases order place p so_far.q next → IsDealtTo phases order p next (place + 1)
dealt_further phases order old next p place so_far d =
    record { q = behind so_far.q d.phase.program; rest = d.rest; comes = one_more phases order next place p p so_far.q so_far.comes d }

-- There is one right answer.
use Rattle.std.proofs.Common.{◌≡◌, ℕ, ◌+◌, ◌<◌, List, length, Ok, Err, Some, slice_get, take, refl, ap, ap₂, subst, sym, ◌∙◌, arith, inl, inr}
use Rattle.std.proofs.lemmas.Bool.{cases_lt}
use Rattle.std.proofs.lemmas.Option.{slice_get_within}
use Rattle.clauses.specs.Clauses.{Conjunction}
use Rattle.refutations.specs.Proofs.{ProofLine}
use Rattle.refutations.specs.Derivations.{HasLineFault}
use Rattle.refutations.specs.Refutations.{AreDerivedBetween, IsFirstFaulty}
use Rattle.refutations.specs.declared.refutation.FaultyLine.{FaultyLine}
use Rattle.refutations.specs.declared.line_check.LineFault.{LineFault}
use Rattle.refutations.proofs.Exact.{fault-derived, fault_of-has}
use Rattle.pieces.specs.declared.piece.LinesFault.TheVariants.{Memory, Line}
use Rattle.pieces.specs.Pieces.{Answer, OneAnswer}

-- where lines from the first on are derived, no faulty one is among them
pub faulty_not_derived : (f : Conjunction) (lines : List ProofLine) (found : FaultyLine) (to : ℕ) (first : IsFirstFaulty f lines 0 found) → first.place < to → AreDerivedBetween f lines 0 to → ⊥
faulty_not_derived f lines found to first below derived =
    let earlier = take first.place lines in
    fault-derived f earlier first.line found.fault (sym (fault_of-has f earlier first.line found.fault first.fault))
    (derived first.place first.line (omega arith) below first.there)

one_fault : (f : Conjunction) (earlier : List ProofLine) (line : ProofLine) (a b : LineFault) → HasLineFault f earlier line a → HasLineFault f earlier line b → a ≡ b
one_fault f earlier line a b of_a of_b =
    let both : Some a ≡ Some b = sym (fault_of-has f earlier line a of_a) ∙ fault_of-has f earlier line b of_b in
    cc

at_one_place : (f : Conjunction) (lines : List ProofLine) (a b : FaultyLine) (place : ℕ) (line other : ProofLine) → slice_get lines place ≡ Some line → slice_get lines place ≡ Some other
    → HasLineFault f (take place lines) line a.fault → HasLineFault f (take place lines) other b.fault → a.fault ≡ b.fault
at_one_place f lines a b place line other here there of_a of_b =
    let both : Some other ≡ Some line = sym there ∙ here in
    let same : other ≡ line = cc in
    one_fault f (take place lines) line a.fault b.fault of_a (subst (λ (l : ProofLine). HasLineFault f (take place lines) l b.fault) same of_b)

abbrev same_line : ℕ → LineFault → FaultyLine
same_line n x = record { number = n; fault = x }

-- there is one first faulty line
pub one_first : (f : Conjunction) (lines : List ProofLine) (a b : FaultyLine) → IsFirstFaulty f lines 0 a → IsFirstFaulty f lines 0 b → a ≡ b
one_first f lines a b first other = elim (cases_lt first.place other.place) [
  | inl below ↦ absurd (faulty_not_derived f lines a other.place first below other.before)
  | inr above ↦ elim (cases_lt other.place first.place) [
    | inl below ↦ absurd (faulty_not_derived f lines b first.place other below first.before)
    | inr still ↦
        let same : other.place ≡ first.place = omega arith in
        let numbers : a.number ≡ b.number = first.numbered ∙ (ap (λ (p : ℕ). length f.clauses + p + 1) (sym same) ∙ sym other.numbered) in
        let moved : slice_get lines first.place ≡ Some other.line = subst (λ (p : ℕ). slice_get lines p ≡ Some other.line) same other.there in
        let of_other : HasLineFault f (take first.place lines) other.line b.fault = subst (λ (p : ℕ). HasLineFault f (take p lines) other.line b.fault) same other.fault in
        let faults = at_one_place f lines a b first.place first.line other.line first.there moved first.fault of_other in
        ap₂ same_line numbers faults
  ]
]

abbrev faulty : FaultyLine → Answer
faulty x = Err (Line x)

pub one_answer : OneAnswer
one_answer f lines (Err Memory) other of_one of_other = inl refl
one_answer f lines (Ok u) (Err Memory) of_one of_other = inr (inl refl)
one_answer f lines (Err (Line a)) (Err Memory) of_one of_other = inr (inl refl)
one_answer f lines (Ok u) (Ok v) of_one of_other = inr (inr refl)
one_answer f lines (Ok u) (Err (Line b)) of_one of_other =
    absurd (faulty_not_derived f lines b (length lines) of_other (slice_get_within lines of_other.place of_other.line of_other.there) of_one)
one_answer f lines (Err (Line a)) (Ok v) of_one of_other =
    absurd (faulty_not_derived f lines a (length lines) of_one (slice_get_within lines of_one.place of_one.line of_one.there) of_other)
one_answer f lines (Err (Line a)) (Err (Line b)) of_one of_other = inr (inr (ap faulty (one_first f lines a b of_one of_other)))

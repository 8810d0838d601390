-- The answers of the pieces, one after the other.
use Rattle.std.proofs.Common.{◌≡◌, ℕ, suc, ◌+◌, ◌<◌, Bool, true, false, List, [], ◌∷◌, length, Ok, Err, drop, ap, subst, sym, ◌∙◌, arith, inl, inr}
use Rattle.std.specs.Prelude.{if◌then◌else◌, slice_index_or}
use Rattle.std.specs.List.{list_any}
use Rattle.std.proofs.lemmas.Bool.{cases_lt}
use Rattle.std.proofs.Math.Nat.{mul-div_cancel_left}
use Rattle.std.proofs.Math.Seq.{drop-cons}
use Rattle.clauses.specs.Clauses.{Conjunction}
use Rattle.refutations.specs.Proofs.{ProofLine}
use Rattle.refutations.specs.Refutations.{AreDerivedBetween, IsFirstFaulty}
use Rattle.refutations.specs.declared.refutation.FaultyLine.{FaultyLine}
use Rattle.refutations.proofs.Covers.{AreDerivedBetween-none}
use Rattle.pieces.specs.declared.piece.LinesFault.{LinesFault}
use Rattle.pieces.specs.declared.piece.LinesFault.TheVariants.{Memory, Line}
use Rattle.pieces.specs.parts.Pieces.{AreOfPieces, first_fault, is_memory, joined_answers}
use Rattle.pieces.specs.Pieces.{Answer, Answers, OfPart, OfPiece, start_of_piece}

-- one part after another
both_parts : (f : Conjunction) (lines : List ProofLine) (mid to : ℕ) → AreDerivedBetween f lines 0 mid → AreDerivedBetween f lines mid to → AreDerivedBetween f lines 0 to
both_parts f lines mid to front back place line low high there = elim (cases_lt place mid) [
  | inl below ↦ front place line low below there
  | inr above ↦ back place line above high there
]

-- what comes before a part that has a first faulty line is derived
after_front : (f : Conjunction) (lines : List ProofLine) (mid : ℕ) (found : FaultyLine) → AreDerivedBetween f lines 0 mid → IsFirstFaulty f lines mid found → IsFirstFaulty f lines 0 found
after_front f lines mid found front first = record {
  place = first.place;
  line = first.line;
  numbered = first.numbered;
  there = first.there;
  after = omega arith;
  before = both_parts f lines mid first.place front first.before;
  fault = first.fault;
}

starts_at_none : (lines pieces : ℕ) → start_of_piece lines pieces 0 ≡ 0
starts_at_none lines pieces = grind arith

ends_at_all : (lines pieces : ℕ) → 0 < pieces → start_of_piece lines pieces pieces ≡ lines
ends_at_all lines pieces some = mul-div_cancel_left lines some

from_piece : (f : Conjunction) (lines : List ProofLine) (pieces : ℕ) → 0 < pieces → (k : ℕ) (answers : List Answer)
    → ((i piece : ℕ) (d : Answer) → i < length answers → piece ≡ k + i → OfPiece f lines pieces piece (slice_index_or answers i d))
    → k + length answers ≡ pieces → AreDerivedBetween f lines 0 (start_of_piece (length lines) pieces k) → Answers f lines (first_fault answers)
from_piece f lines pieces some k [] each all front =
    let last : pieces ≡ k = omega arith in
    let ends : start_of_piece (length lines) pieces k ≡ length lines = ap (start_of_piece (length lines) pieces) (sym last) ∙ ends_at_all (length lines) pieces some in
    subst (λ (to : ℕ). AreDerivedBetween f lines 0 to) ends front
from_piece f lines pieces some k (Ok u ∷ answers) each all front =
    let here : AreDerivedBetween f lines (start_of_piece (length lines) pieces k) (start_of_piece (length lines) pieces (k + 1)) = each 0 k (Ok u) (omega arith) (omega arith) in
    from_piece f lines pieces some (k + 1) answers
    (λ i piece d within is. each (suc i) piece d (omega arith) (omega arith)) (omega arith)
    (both_parts f lines (start_of_piece (length lines) pieces k) (start_of_piece (length lines) pieces (k + 1)) front here)
from_piece f lines pieces some k (Err (Line found) ∷ answers) each all front =
    let here : IsFirstFaulty f lines (start_of_piece (length lines) pieces k) found = each 0 k (Err (Line found)) (omega arith) (omega arith) in
    after_front f lines (start_of_piece (length lines) pieces k) found front here
from_piece f lines pieces some k (Err Memory ∷ answers) each all front = tt

-- the only piece has all lines
pub one_piece : (f : Conjunction) (lines : List ProofLine) (answer : Answer) → OfPiece f lines 1 0 answer → Answers f lines answer
one_piece f lines answer of_piece =
    let from_first = subst (λ (from : ℕ). OfPart f lines from (start_of_piece (length lines) 1 1) answer) (starts_at_none (length lines) 1) of_piece in
    subst (λ (to : ℕ). OfPart f lines 0 to answer) (ends_at_all (length lines) 1 (omega arith)) from_first

-- the pieces together answer for all lines
pub joined-answers : (f : Conjunction) (lines : List ProofLine) (pieces : ℕ) (answers : List Answer) → 0 < pieces → AreOfPieces f lines pieces answers
    → Answers f lines (joined_answers answers)
joined-answers f lines pieces answers some of_pieces = go (list_any is_memory answers)
  where
    none : AreDerivedBetween f lines 0 (start_of_piece (length lines) pieces 0)
    none = subst (λ (to : ℕ). AreDerivedBetween f lines 0 to) (sym (starts_at_none (length lines) pieces)) (AreDerivedBetween-none f lines 0)

    go : (b : Bool) → Answers f lines (if b then Err Memory else first_fault answers)
    go true = tt
    go false =
        let count = of_pieces.count in
        from_piece f lines pieces some 0 answers
        (λ i piece d within is.
        let same : i ≡ piece = omega arith in
        subst (λ (place : ℕ). OfPiece f lines pieces piece (slice_index_or answers place d)) (sym same) (of_pieces.each piece d (omega arith)))
        (omega arith) none

-- a step of the search for the first fault
pub step_over : (answers : List Answer) (i : ℕ) (d : Answer) → i < length answers → slice_index_or answers i d ≡ Ok tt → first_fault (drop i answers) ≡ first_fault (drop (i + 1) answers)
step_over answers i d within ok =
    let next : suc i ≡ i + 1 = omega arith in
    ap first_fault (drop-cons answers i d within)
    ∙ (ap (λ (x : Answer). first_fault (x ∷ drop (suc i) answers)) ok ∙ ap (λ (n : ℕ). first_fault (drop n answers)) next)

pub step_at : (answers : List Answer) (i : ℕ) (d : Answer) (fault : LinesFault) → i < length answers → slice_index_or answers i d ≡ Err fault → first_fault (drop i answers) ≡ Err fault
step_at answers i d fault within is =
    ap first_fault (drop-cons answers i d within) ∙ ap (λ (x : Answer). first_fault (x ∷ drop (suc i) answers)) is

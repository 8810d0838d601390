-- What the map has of a line stands at the place of its number.
use Rattle.std.proofs.Common.{◌≡◌, ◌∙◌, ℕ, List, Some, ap, sym, arith, min}
use Rattle.std.specs.Prelude.{slice_get}
use Rattle.plaintext.specs.Plain.{numeral}
use Rattle.plaintext.proofs.Numerals.{numeral_injective}
use Rattle.places.specs.Maps.{AreFrom, HasEntry}
use Rattle.places.specs.declared.entries.MapEntry.{MapEntry}
use Rattle.places.specs.declared.map.Places.{Places}
use Rattle.places.proofs.Digits.{if_none}
use Rattle.places.proofs.Faults.{false_true}
use Rattle.places.proofs.map.Places.words_at.Goals as goal

-- the place of what the map has
at_number : (places : Places) (map digits words : List ℕ) (number n : ℕ) → AreFrom map places → HasEntry map digits words → numeral n ≡ digits → number ≡ min n 2147483648
    → (entry : MapEntry) × (slice_get places.entries.items number ≡ Some (Some entry)) × (entry.number.now ≡ digits)
at_number places map digits words number n are has is place =
    let (m, entry, there, small, spelled, said) = are.all digits words has in
    let same : n ≡ m = numeral_injective n m (is ∙ sym ((are.said m entry there).1 ∙ spelled)) in
    let at : number ≡ m = grind (arith, place, same, small) in
    (entry, ap (λ (k : ℕ). slice_get places.entries.items k) at ∙ there, spelled)

pub returns-in_err-number-clause-none : goal.returns-in_err-number-clause-none
returns-in_err-number-clause-none c = if_none c.from_residual.result _ (λ map words are has.
    let (m, entry, there, small, spelled, said) = are.all c.args.digits.now words has in
    c.in_err-number.ensures.none m ((are.said m entry there).1 ∙ spelled))

pub returns-in_err-entry-clause-none : goal.returns-in_err-entry-clause-none
returns-in_err-entry-clause-none c = if_none c.from_residual-in_err-entry.result _ (λ map words are has.
    let found = c.in_ok-number.ensures.some in
    let (entry, there, spelled) = at_number c.args.self.now map c.args.digits.now words c.in_ok-number.number found.0 are has found.1 found.2 in
    c.in_err-entry.ensures.none entry there)

pub returns-else-are_same-clause-none : goal.returns-else-are_same-clause-none
returns-else-are_same-clause-none c = λ map words are has.
    let found = c.in_ok-number.ensures.some in
    let (entry, there, spelled) = at_number c.args.self.now map c.args.digits.now words c.in_ok-number.number found.0 are has found.1 found.2 in
    let both : Some (Some c.in_ok-entry.entry) ≡ Some (Some entry) = sym c.in_ok-entry.ensures.some ∙ there in
    let is : c.in_ok-entry.entry ≡ entry = cc in
    false_true (c.if-are_same.ensures.1 (ap (λ (e : MapEntry). e.number.now) is ∙ spelled))

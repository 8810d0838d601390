use Rattle.std.proofs.Common.{◌≡◌, ℕ, ◌<◌, ◌≤◌, List, ap, length, get_or, subst, ◌∙◌, arith, min, take, refl}
use Rattle.std.specs.Str.Parse.{AllDigits, digits_value}
use Rattle.std.proofs.lemmas.Grind.{common_steps}
use Rattle.std.proofs.lemmas.Str.Parse.{digit_from_value}
use Rattle.plaintext.proofs.Numerals.{numeral_nonempty, numeral_first, AllDigits-numeral, AllDigits_at, more_digits, zero_word, all_digits}
use Rattle.plaintext.proofs.numbers.number_of.Goals as goal

pub returns-then-is_empty-clause-none : goal.returns-then-is_empty-clause-none
returns-then-is_empty-clause-none c = λ n e. grind (arith, numeral_nonempty n, ap length e)

pub returns-then-word-gt1-clause-none : goal.returns-then-word-gt1-clause-none
returns-then-word-gt1-clause-none c = λ n e. omega (arith, numeral_first n (ap (λ (w : List ℕ). get_or w 0 0) e ∙ c.if-word-eq48.true), ap length e)

pub returns-then-word-eq48-clause-some : goal.returns-then-word-eq48-clause-some
returns-then-word-eq48-clause-some c = (0, zero_word c.args.word.now c.if-word-gt1.false c.if-word-eq48.true, refl)

pub returns-then-not-is_ascii_digit-clause-none : goal.returns-then-not-is_ascii_digit-clause-none
returns-then-not-is_ascii_digit-clause-none c = λ n e.
    let d = AllDigits_at c.args.word.now c.loop-digit.digit-index (subst (AllDigits 10) e (AllDigits-numeral n)) c.loop-digit-test.true in
    let range = digit_from_value (get_or c.args.word.now c.loop-digit.digit-index 0) d in
    grind (arith, range, c.is_ascii_digit.ensures.value, c.if-not-is_ascii_digit.true)

pub loop-digit-preserved : goal.loop-digit-preserved
loop-digit-preserved c =
    let range : (48 ≤ get_or c.args.word.now c.loop-digit.digit-index 0) × (get_or c.args.word.now c.loop-digit.digit-index 0 ≤ 57) = grind (arith, c.is_ascii_digit.ensures.value, c.if-not-is_ascii_digit.false) in
    let m = more_digits c.args.word.now c.loop-digit.digit-index c.loop-digit.value 2147483648 c.loop-digit-test.true c.loop-digit.invariant.0 c.loop-digit.invariant.1 range.0 range.1 in
    (m.0, c.min-value.ensures ∙ m.1)

pub returns-clause-some : goal.returns-clause-some
returns-clause-some c =
    let w = c.args.word.now in
    let whole : take c.loop-digit.digit-index w ≡ w = grind (arith, common_steps) in
    let some : 0 < length w = grind (arith, c.if-is_empty.false, c.is_empty.ensures) in
    all_digits w c.loop-digit.value 2147483648 (subst (AllDigits 10) whole c.loop-digit.invariant.0)
    (subst (λ (x : List ℕ). c.loop-digit.value ≡ min (digits_value 10 x) 2147483648) whole c.loop-digit.invariant.1) some (λ e. absurd (c.if-word-eq48.false e))

-- The text of a number of pieces passes the parser of its option.
use Rattle.std.proofs.Common.{◌≡◌, arith, ap, ap₂, refl, subst, sym, cond, ℕ, ℤ, Bool, true, false, [], ◌∷◌, drop}
use Rattle.std.specs.Prelude.{◌<◌, ◌==◌, FitsSigned, int_le, neg_ℤ, pos, slice_index, ◌≤ℤ◌}
use Rattle.std.specs.Int.{w64}
use Rattle.std.specs.Char.{digit_value}
use Rattle.std.specs.Str.Parse.{IsNumeral, digits_value, signed_digits_value, without_leading_plus, without_leading_sign}
use Rattle.std.proofs.lemmas.Bool.{le-leb, ne_eqb}
use lib.Signed.{le_z_yes}
use lib.Dec.{T}
use Rattle.clap.specs.Words.{Text}
use Rattle.clap.specs.Values.{IsSignedIn}
use Rattle.clap.specs.ValueTests.{accepts}
use Rattle.clap.specs.declared.builder.value_parser.ValueParser.TheVariants.{Signed}
use Rattle.clap.proofs.ValueTestLemmas.{Accepts-accepts}
use Rattle.command_line.specs.UsualWords.{IsFree, SpellsPieces}

-- a code that is below or above those of the digits isn't the first of a numeral
begins_otherwise : (text : Text) (code : ℕ) → IsNumeral 10 text → (digit_value code < 10 → ⊥) → (slice_index text 0 == code) ≡ false
begins_otherwise [] code numeral other = absurd (omega (arith, numeral.0))
begins_otherwise (byte ∷ rest) code numeral other =
    ne_eqb byte code (λ e. other (subst (λ (b : ℕ). digit_value b < 10) e numeral.1.0))

-- a numeral begins with no minus
no_minus : (text : Text) → IsNumeral 10 text → (slice_index text 0 == 45) ≡ false
no_minus text numeral = begins_otherwise text 45 numeral (λ small. omega (arith, small))

-- and with no plus
no_plus : (text : Text) → IsNumeral 10 text → (slice_index text 0 == 43) ≡ false
no_plus text numeral = begins_otherwise text 43 numeral (λ small. omega (arith, small))

-- so it is its own digits
unsigned : (text : Text) → IsNumeral 10 text → without_leading_sign text ≡ text
unsigned text numeral =
    ap₂ (λ (minus plus : Bool). cond minus (drop 1 text) (drop (cond plus 1 0) text)) (no_minus text numeral) (no_plus text numeral)

value_of : (text : Text) → IsNumeral 10 text → signed_digits_value 10 text ≡ pos (digits_value 10 text)
value_of text numeral =
    ap₂ (λ (minus : Bool) (digits : Text). cond minus (neg_ℤ (pos (digits_value 10 digits))) (pos (digits_value 10 digits)))
    (no_minus text numeral) (unsigned text numeral)

in_order : (a b : ℤ) → int_le a b ≡ true → a ≤ℤ b
in_order a b e = le_z_yes (subst T (sym e) tt)

in_range : (text : Text) → SpellsPieces text → IsSignedIn (pos 1) (pos 64) text
in_range text spells =
    let n : ℕ = digits_value 10 text in
    let small : FitsSigned w64 (pos n) = record { sfits = omega (arith, spells.in_range.1) } in
    let least : pos 1 ≤ℤ pos n = in_order (pos 1) (pos n) (le-leb 1 n spells.in_range.0) in
    let most : pos n ≤ℤ pos 64 = in_order (pos n) (pos 64) (le-leb n 64 spells.in_range.1) in
    let is : pos n ≡ signed_digits_value 10 text = sym (value_of text spells.digits) in (
      subst (λ (digits : Text). IsNumeral 10 digits) (sym (unsigned text spells.digits)) spells.digits,
      subst (λ (z : ℤ). FitsSigned w64 z) is small,
      subst (λ (z : ℤ). pos 1 ≤ℤ z) is least,
      subst (λ (z : ℤ). z ≤ℤ pos 64) is most,
    )

pub pieces_pass : (text : Text) → SpellsPieces text → accepts false (Signed (pos 1) (pos 64)) text ≡ true
pieces_pass text spells = Accepts-accepts false (Signed (pos 1) (pos 64)) text (in_range text spells)

pub pieces_are_free : (text : Text) → SpellsPieces text → IsFree text
pieces_are_free [] spells = refl
pieces_are_free (byte ∷ rest) spells = no_minus (byte ∷ rest) spells.digits

-- and has no plus
pub plusless : (text : Text) → SpellsPieces text → IsNumeral 10 (without_leading_plus text)
plusless text spells =
    subst (λ (digits : Text). IsNumeral 10 digits) (sym (ap (λ (plus : Bool). drop (cond plus 1 0) text) (no_plus text spells.digits))) spells.digits

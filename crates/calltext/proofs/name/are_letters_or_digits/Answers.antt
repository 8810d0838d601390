use Rattle.std.proofs.lemmas.Grind.{common_steps}
use Rattle.std.proofs.Common.{arith, sym}
use Rattle.calltext.proofs.Letters.{letters_more, letters_false}
use Rattle.calltext.proofs.name.are_letters_or_digits.Goals as goal
use Rattle.calltext.proofs.name.are_letters_or_digits.Goals.{else-not-is_ascii_lowercase-via-then-not-is_ascii_lowercase+else-not-is_ascii_digit, else-not-is_ascii_lowercase-via-else-not-is_ascii_lowercase}

pub returns-then-not-is_ascii_digit : goal.returns-then-not-is_ascii_digit
returns-then-not-is_ascii_digit c = sym (letters_false c.args.letters.now c.loop-letter.letter-index (omega arith) (grind (arith, c.is_ascii_lowercase.ensures.value, c.is_ascii_digit.ensures.value, c.if-not-is_ascii_lowercase.true, c.if-not-is_ascii_digit.true)))

pub loop-letter-preserved : goal.loop-letter-preserved
loop-letter-preserved c =
    letters_more c.args.letters.now c.loop-letter.letter-index (omega arith) c.loop-letter.invariant
    (elim c.else-not-is_ascii_lowercase.branch [
      | else-not-is_ascii_lowercase-via-then-not-is_ascii_lowercase+else-not-is_ascii_digit w ↦ grind (arith, w.is_ascii_digit.ensures.value, w.if-not-is_ascii_digit.false)
      | else-not-is_ascii_lowercase-via-else-not-is_ascii_lowercase w ↦ grind (arith, c.is_ascii_lowercase.ensures.value, w.if-not-is_ascii_lowercase.false)
    ])

pub returns : goal.returns
returns c = grind (arith, common_steps)

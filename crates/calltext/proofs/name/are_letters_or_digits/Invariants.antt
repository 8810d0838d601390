use Rattle.std.proofs.Common.{◌≡◌, true, take}
use Rattle.calltext.specs.Names.{are_letters_or_digits}
use Rattle.calltext.proofs.name.are_letters_or_digits.Given as goal

abbrev pub invariant-loop-letter : goal.invariant-loop-letter
invariant-loop-letter l = are_letters_or_digits (take l.letter-index l.letters) ≡ true

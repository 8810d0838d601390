use Rattle.std.proofs.Common.{◌≡◌, ◌∷◌, take}
use Rattle.callorder.proofs.expand.letters_in.Given as goal

abbrev pub invariant-loop-letter : goal.invariant-loop-letter
invariant-loop-letter l = l.key.items ≡ l.rank ∷ take l.letter-index l.name

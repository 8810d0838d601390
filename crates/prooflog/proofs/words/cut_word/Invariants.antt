use Rattle.std.proofs.Common.{◌≡◌, false, eqb, take}
use Rattle.std.specs.Prelude.{All}
use Rattle.prooflog.proofs.words.cut_word.Given as goal

abbrev pub invariant-loop-i : goal.invariant-loop-i
invariant-loop-i l = All (λ byte. eqb byte 32 ≡ false) (take l.i l.line)

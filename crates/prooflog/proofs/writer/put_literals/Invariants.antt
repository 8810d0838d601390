use Rattle.std.proofs.Common.{◌≡◌, ◌++◌, take, map}
use Rattle.prooflog.specs.Refutations.{literal_word}
use Rattle.plaintext.specs.Plain.{spaced}
use Rattle.prooflog.proofs.writer.put_literals.Given as goal

abbrev pub invariant-loop-literal : goal.invariant-loop-literal
invariant-loop-literal l = l.out.items ≡ l.fn.out.items ++ spaced (map literal_word (take l.literal-index l.literals))

use Rattle.std.proofs.Common.{◌≡◌, ◌++◌, take, map}
use Rattle.plaintext.specs.Plain.{numeral, spaced}
use Rattle.prooflog.proofs.writer.put_hints.Given as goal

abbrev pub invariant-loop-hint : goal.invariant-loop-hint
invariant-loop-hint l = l.out.items ≡ l.fn.out.items ++ spaced (map numeral (take l.hint-index l.hints))

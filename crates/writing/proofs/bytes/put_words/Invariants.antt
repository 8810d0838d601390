use Rattle.std.proofs.Common.{◌≡◌, ◌++◌, map, take}
use Rattle.plaintext.specs.Plain.{spaced}
use Rattle.writing.proofs.bytes.put_words.Given as goal

abbrev pub invariant-loop-word : goal.invariant-loop-word
invariant-loop-word l = l.out.items ≡ l.initial.out.items ++ spaced (map (λ w. w.now) (take l.word-index l.others))

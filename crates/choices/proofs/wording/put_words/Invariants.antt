-- The words so far are told.
use Rattle.std.proofs.Common.{◌≡◌, ◌++◌, map, take}
use Rattle.choices.specs.Pins.{told_words_from}
use Rattle.choices.proofs.wording.put_words.Given as goal

abbrev pub invariant-loop-place : goal.invariant-loop-place
invariant-loop-place l = l.out.items ≡ l.fn.out.items ++ told_words_from l.source l.tag l.at 0 (take l.place (map (λ w. w.now) l.words))

use Rattle.std.proofs.Common.{◌≡◌, ℕ, ◌++◌, take}
use Rattle.scene.proofs.LineNumbers.{numbers_of}
use Rattle.scene.proofs.numbering.push_rank.Given as goal

abbrev pub invariant-loop-index : goal.invariant-loop-index
invariant-loop-index l = (rank : ℕ) → l.numbers.items ≡ l.fn.numbers.items ++ numbers_of l.heading rank (take l.index l.lines)

use Rattle.std.proofs.Common.{◌≢◌, ◌<◌, ℕ}
use Rattle.calltext.specs.RefusedWords.{refused_word}
use Rattle.calltext.proofs.refused.RefusedWord.find.Given as goal

abbrev pub invariant-loop-index : goal.invariant-loop-index
invariant-loop-index l = (place : ℕ) → place < l.index → refused_word place ≢ l.word

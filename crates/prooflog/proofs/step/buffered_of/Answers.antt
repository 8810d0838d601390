use Rattle.std.proofs.Common.{◌≡◌, Bool, true, false, List, ℕ, sym, ap, ◌∙◌}
use Rattle.std.specs.Prelude.{codes}
use Rattle.std.specs.Option.{option_copied}
use Rattle.prooflog.specs.Steps.{buffered_words}
use Rattle.prooflog.specs.parts.Reading.{words_of, words_after}
use Rattle.prooflog.proofs.WordLaws.{only_word, no_words}
use Rattle.prooflog.proofs.step.buffered_of.Goals as goal

-- another word is no such word
other : (word : List ℕ) → (word ≡ codes "buffered" → ⊥) → (b : Bool) → buffered_words b ≡ words_of word → ⊥
other word differs true e = differs (sym (only_word (codes "buffered") word e))
other word differs false e = no_words word e

pub returns-clause-none : goal.returns-clause-none
returns-clause-none c = λ b e.
    other c.in-Some.word.now (λ same. let t = c.is_word.ensures.1 same in let f = c.if-is_word.false in cc) b (e ∙ ap (λ o. words_after (option_copied o)) c.in-Some.is)

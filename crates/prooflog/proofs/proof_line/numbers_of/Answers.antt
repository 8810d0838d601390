use Rattle.std.proofs.Common.{◌≡◌, ◌∷◌, ℕ, List, subst, sym, ap, ◌∙◌}
use Rattle.std.specs.Option.{option_copied}
use Rattle.prooflog.specs.parts.Reading.{words_after}
use Rattle.prooflog.proofs.WordsRead.{NumbersSoFar, one_number, no_number}
use Rattle.prooflog.proofs.proof_line.numbers_of.Goals as goal

pub returns-in_default-number_of-clause-none : goal.returns-in_default-number_of-clause-none
returns-in_default-number_of-clause-none c =
    let next : words_after (option_copied c.loop-rest.rest) ≡ c.cut_word.result.0.now ∷ words_after (option_copied c.cut_word.result.1) = ap (λ o. words_after (option_copied o)) c.in-Some.is ∙ c.cut_word.ensures.words in
    no_number (option_copied c.args.others) (option_copied c.loop-rest.rest) (option_copied c.cut_word.result.1) c.loop-rest.numbers.items c.cut_word.result.0.now c.loop-rest.invariant next c.in_default-number_of.ensures.none

pub loop-rest-preserved : goal.loop-rest-preserved
loop-rest-preserved c =
    let next : words_after (option_copied c.loop-rest.rest) ≡ c.cut_word.result.0.now ∷ words_after (option_copied c.cut_word.result.1) = ap (λ o. words_after (option_copied o)) c.in-Some.is ∙ c.cut_word.ensures.words in
    let n = c.in-Some-number_of.ensures.some in
    subst (λ (read : List ℕ). NumbersSoFar (option_copied c.args.others) (option_copied c.cut_word.result.1) read) (sym c.in_ok-push.ensures.items)
    (one_number (option_copied c.args.others) (option_copied c.loop-rest.rest) (option_copied c.cut_word.result.1) c.loop-rest.numbers.items c.cut_word.result.0.now n.0 c.in-Some-number_of.number c.loop-rest.invariant next n.1 n.2)

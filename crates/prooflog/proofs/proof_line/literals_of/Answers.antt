use Rattle.std.proofs.Common.{◌≡◌, ◌∷◌, List, subst, sym, ap, ◌∙◌}
use Rattle.std.specs.Option.{option_copied}
use Rattle.clauses.specs.Clauses.{Literal}
use Rattle.prooflog.specs.parts.Reading.{words_after, IsReadLiteral}
use Rattle.prooflog.proofs.WordsRead.{LiteralsSoFar, one_literal, one_out_of_range, no_literal, no_more_words}
use Rattle.prooflog.proofs.proof_line.literals_of.Goals as goal

pub returns-in-None-clause-none : goal.returns-in-None-clause-none
returns-in-None-clause-none c =
    let next : words_after (option_copied c.loop-rest.rest) ≡ c.cut_word.result.0.now ∷ words_after (option_copied c.cut_word.result.1) = ap (λ o. words_after (option_copied o)) c.in-Some.is ∙ c.cut_word.ensures.words in
    no_literal (option_copied c.args.others) (option_copied c.loop-rest.rest) (option_copied c.cut_word.result.1) c.loop-rest.in_range c.loop-rest.literals.items c.cut_word.result.0.now c.loop-rest.invariant next
    (λ e. let t = c.is_word.ensures.1 e in let f = c.if-is_word.false in cc) c.in-None.ensures.none

pub loop-rest-preserved-in-Some-None : goal.loop-rest-preserved-in-Some-None
loop-rest-preserved-in-Some-None c =
    let next : words_after (option_copied c.loop-rest.rest) ≡ c.cut_word.result.0.now ∷ words_after (option_copied c.cut_word.result.1) = ap (λ o. words_after (option_copied o)) c.in-Some.is ∙ c.cut_word.ensures.words in
    let l = c.in-Some-None.ensures.some in
    one_out_of_range (option_copied c.args.others) (option_copied c.loop-rest.rest) (option_copied c.cut_word.result.1) c.loop-rest.in_range c.loop-rest.literals.items c.cut_word.result.0.now l.0 c.loop-rest.invariant next l.1
    (subst (λ o. IsReadLiteral o l.0) c.in-Some-None.field-0-is l.2)

pub loop-rest-preserved : goal.loop-rest-preserved
loop-rest-preserved c =
    let next : words_after (option_copied c.loop-rest.rest) ≡ c.cut_word.result.0.now ∷ words_after (option_copied c.cut_word.result.1) = ap (λ o. words_after (option_copied o)) c.in-Some.is ∙ c.cut_word.ensures.words in
    let l = c.in-Some-Some.ensures.some in
    subst (λ (read : List Literal). LiteralsSoFar (option_copied c.args.others) (option_copied c.cut_word.result.1) c.loop-rest.in_range read) (sym c.in_ok-push-in-Some-Some.ensures.items)
    (one_literal (option_copied c.args.others) (option_copied c.loop-rest.rest) (option_copied c.cut_word.result.1) c.loop-rest.in_range c.loop-rest.literals.items c.cut_word.result.0.now l.0 c.in-Some-Some.literal c.loop-rest.invariant next l.1 (subst (λ o. IsReadLiteral o l.0) c.in-Some-Some.field-0-is l.2))

pub returns-clause-none : goal.returns-clause-none
returns-clause-none c = no_more_words (option_copied c.args.others) (option_copied c.loop-rest.rest) c.loop-rest.in_range c.loop-rest.literals.items c.loop-rest.invariant (ap (λ o. option_copied o) c.in_default.is)

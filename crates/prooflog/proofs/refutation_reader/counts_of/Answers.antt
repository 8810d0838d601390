use Rattle.std.proofs.Common.{◌≡◌, ℕ, List, [], ◌∷◌, ap, sym, ◌∙◌}
use Rattle.std.specs.Prelude.{codes}
use Rattle.std.specs.Option.{option_copied}
use Rattle.plaintext.specs.Plain.{numeral}
use Rattle.plaintext.proofs.FirstFaults.{heads}
use Rattle.prooflog.specs.parts.Reading.{words_of, words_after}
use Rattle.prooflog.proofs.WordLaws.{only_word, numeral_only}
use Rattle.prooflog.proofs.refutation_reader.counts_of.Goals as goal

pub returns-in_default-number_of-2-clause-none : goal.returns-in_default-number_of-2-clause-none
returns-in_default-number_of-2-clause-none c = λ v k is.
    let kind : List ℕ = c.cut_word.result.0.now in
    let first : List ℕ = c.cut_word-2.result.0.now in
    let second : List ℕ = c.in-Some-others.second.now in
    let seen : words_of c.args.line.now ≡ kind ∷ first ∷ words_of second =
    c.cut_word.ensures.words ∙ ap (λ o. kind ∷ words_after (option_copied o)) c.in-Some.is ∙ ap (λ ws. kind ∷ ws) (c.cut_word-2.ensures.words ∙ ap (λ o. first ∷ words_after (option_copied o)) c.in-Some-others.is) in
    let one = heads (codes "refutation") kind (numeral v ∷ numeral k ∷ []) (first ∷ words_of second) (is ∙ seen) in
    let two = heads (numeral v) first (numeral k ∷ []) (words_of second) one.1 in
    c.in_default-number_of-2.ensures.none k (only_word (numeral k) second two.1)

pub returns-clause-some : goal.returns-clause-some
returns-clause-some c =
    let kind : List ℕ = c.cut_word.result.0.now in
    let first : List ℕ = c.cut_word-2.result.0.now in
    let second : List ℕ = c.in-Some-others.second.now in
    let seen : words_of c.args.line.now ≡ kind ∷ first ∷ words_of second =
    c.cut_word.ensures.words ∙ ap (λ o. kind ∷ words_after (option_copied o)) c.in-Some.is ∙ ap (λ ws. kind ∷ ws) (c.cut_word-2.ensures.words ∙ ap (λ o. first ∷ words_after (option_copied o)) c.in-Some-others.is) in
    let v = c.in-Some-number_of.ensures.some in
    let k = c.in-Some-number_of-2.ensures.some in
    let is : kind ≡ codes "refutation" = c.is_word.ensures.0 c.if-not-is_word.false in
    let last : numeral k.0 ∷ [] ≡ words_of second = numeral_only k.0 second k.1 in
    (v.0, k.0, (λ i. sym is i ∷ v.1 i ∷ last i) ∙ sym seen, v.2, k.2)

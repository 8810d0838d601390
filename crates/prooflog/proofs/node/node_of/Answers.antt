use Rattle.std.proofs.Common.{◌≡◌, ℕ, List, [], ◌∷◌, ap, sym, ◌∙◌}
use Rattle.std.specs.Prelude.{codes}
use Rattle.std.specs.Option.{option_copied}
use Rattle.plaintext.specs.Plain.{numeral}
use Rattle.plaintext.proofs.FirstFaults.{heads}
use Rattle.refutations.specs.declared.tree.Node.{Node}
use Rattle.refutations.specs.declared.tree.Node.TheVariants.{Split, Leaf}
use Rattle.prooflog.specs.Refutations.{node_words}
use Rattle.prooflog.specs.parts.Reading.{words_of, words_after}
use Rattle.prooflog.proofs.WordLaws.{only_word, numeral_only}
use Rattle.prooflog.proofs.node.node_of.Goals as goal

-- a line whose second word is no number is no node's
no_number : (line kind word : List ℕ) → words_of line ≡ kind ∷ words_of word → ((n : ℕ) → numeral n ≡ word → ⊥) → (n : Node) → node_words n ≡ words_of line → ⊥
no_number line kind word e none (Split v) is = none v (only_word (numeral v) word (heads (codes "split") kind (numeral v ∷ []) (words_of word) (is ∙ e)).1)
no_number line kind word e none (Leaf k) is = none k (only_word (numeral k) word (heads (codes "leaf") kind (numeral k ∷ []) (words_of word) (is ∙ e)).1)

pub returns-in_default-number_of-clause-none : goal.returns-in_default-number_of-clause-none
returns-in_default-number_of-clause-none c =
    no_number c.args.line.now c.cut_word.result.0.now c.in-Some.word.now (c.cut_word.ensures.words ∙ ap (λ o. c.cut_word.result.0.now ∷ words_after (option_copied o)) c.in-Some.is) c.in_default-number_of.ensures.none

pub returns-in_default-number_of-2-clause-none : goal.returns-in_default-number_of-2-clause-none
returns-in_default-number_of-2-clause-none c =
    no_number c.args.line.now c.cut_word.result.0.now c.in-Some.word.now (c.cut_word.ensures.words ∙ ap (λ o. c.cut_word.result.0.now ∷ words_after (option_copied o)) c.in-Some.is) c.in_default-number_of-2.ensures.none

pub returns-then-is_word-clause-some : goal.returns-then-is_word-clause-some
returns-then-is_word-clause-some c =
    let n = c.in-Some-number_of.ensures.some in
    let seen : words_of c.args.line.now ≡ c.cut_word.result.0.now ∷ words_of c.in-Some.word.now = c.cut_word.ensures.words ∙ ap (λ o. c.cut_word.result.0.now ∷ words_after (option_copied o)) c.in-Some.is in
    let kind : c.cut_word.result.0.now ≡ codes "split" = c.is_word.ensures.0 c.if-is_word.true in
    let last : numeral n.0 ∷ [] ≡ words_of c.in-Some.word.now = numeral_only n.0 c.in-Some.word.now n.1 in
    (Split n.0, (λ i. sym kind i ∷ last i) ∙ sym seen, ap (λ (x : ℕ). Split x) n.2)

pub returns-then-is_word-2-clause-some : goal.returns-then-is_word-2-clause-some
returns-then-is_word-2-clause-some c =
    let n = c.in-Some-number_of-2.ensures.some in
    let seen : words_of c.args.line.now ≡ c.cut_word.result.0.now ∷ words_of c.in-Some.word.now = c.cut_word.ensures.words ∙ ap (λ o. c.cut_word.result.0.now ∷ words_after (option_copied o)) c.in-Some.is in
    let kind : c.cut_word.result.0.now ≡ codes "leaf" = c.is_word-2.ensures.0 c.if-is_word-2.true in
    let last : numeral n.0 ∷ [] ≡ words_of c.in-Some.word.now = numeral_only n.0 c.in-Some.word.now n.1 in
    (Leaf n.0, (λ i. sym kind i ∷ last i) ∙ sym seen, ap (λ (x : ℕ). Leaf x) n.2)

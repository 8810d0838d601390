use Rattle.std.proofs.Common.{◌≡◌, ℕ, Bool, true, false, List, [], ◌∷◌, ap, sym, ◌∙◌}
use Rattle.std.specs.Prelude.{codes}
use Rattle.std.specs.Option.{option_copied}
use Rattle.plaintext.specs.Plain.{numeral}
use Rattle.plaintext.proofs.FirstFaults.{heads}
use Rattle.prooflog.specs.Steps.{step_words, buffered_words}
use Rattle.prooflog.specs.parts.Reading.{words_of, words_after}
use Rattle.prooflog.specs.Reading.{find_word, written_find_step}
use Rattle.prooflog.specs.declared.step.WrittenStep.{WrittenStep}
use Rattle.prooflog.specs.declared.step.WrittenStep.TheVariants.{Issue, Match, See}
use Rattle.prooflog.proofs.StepLines.{find_words, capped_find}
use Rattle.prooflog.proofs.WordLaws.{only_word, numeral_only}
use Rattle.prooflog.proofs.step.step_of.Goals as goal

-- a line of another kind is no step's
other_kind : (line kind : List ℕ) (others : List (List ℕ)) → words_of line ≡ kind ∷ others → (kind ≡ codes "issue" → ⊥) → ((sees : Bool) → find_word sees ≡ kind → ⊥)
    → (s : WrittenStep) → step_words s ≡ words_of line → ⊥
other_kind line kind others e kinds none (Issue r b) is = kinds (sym (heads (codes "issue") kind (numeral r ∷ buffered_words b) others (is ∙ e)).0)
other_kind line kind others e kinds none (Match s t) is = none false (heads (codes "match") kind (numeral s ∷ numeral t ∷ []) others (is ∙ e)).0
other_kind line kind others e kinds none (See s f) is = none true (heads (codes "see") kind (numeral s ∷ numeral f ∷ []) others (is ∙ e)).0

-- where the second of two words is no number, they are no two numbers
no_second : (word kind first third : List ℕ) (s f : ℕ) → word ∷ numeral s ∷ numeral f ∷ [] ≡ kind ∷ first ∷ words_of third → ((n : ℕ) → numeral n ≡ third → ⊥) → ⊥
no_second word kind first third s f e none =
    let one = heads word kind (numeral s ∷ numeral f ∷ []) (first ∷ words_of third) e in
    let two = heads (numeral s) first (numeral f ∷ []) (words_of third) one.1 in
    none f (only_word (numeral f) third two.1)

-- a line of another kind, or whose third word is no number, is no step's
no_find : (line kind first third : List ℕ) → words_of line ≡ kind ∷ first ∷ words_of third → (kind ≡ codes "issue" → ⊥) → ((n : ℕ) → numeral n ≡ third → ⊥) → (s : WrittenStep) → step_words s ≡ words_of line → ⊥
no_find line kind first third e kinds none (Issue r b) is = kinds (sym (heads (codes "issue") kind (numeral r ∷ buffered_words b) (first ∷ words_of third) (is ∙ e)).0)
no_find line kind first third e kinds none (Match s t) is = no_second (codes "match") kind first third s t (is ∙ e) none
no_find line kind first third e kinds none (See s f) is = no_second (codes "see") kind first third s f (is ∙ e) none

pub returns-then-is_word-clause-some : goal.returns-then-is_word-clause-some
returns-then-is_word-clause-some c =
    let rank = c.in_ok-rank.ensures.some in
    let b = c.in_ok-buffered.ensures.some in
    let seen : words_of c.args.line.now ≡ c.cut_word.result.0.now ∷ c.cut_word-2.result.0.now ∷ words_after (option_copied c.cut_word-2.result.1) =
    c.cut_word.ensures.words ∙ ap (λ o. c.cut_word.result.0.now ∷ words_after (option_copied o)) c.in_ok-others.was ∙ ap (λ ws. c.cut_word.result.0.now ∷ ws) c.cut_word-2.ensures.words in
    let kind : c.cut_word.result.0.now ≡ codes "issue" = c.is_word.ensures.0 c.if-is_word.true in
    (Issue rank.0 c.in_ok-buffered.buffered, (λ i. sym kind i ∷ rank.1 i ∷ b i) ∙ sym seen, cc (rank.2))

pub returns-in_err-sees-clause-none : goal.returns-in_err-sees-clause-none
returns-in_err-sees-clause-none c =
    rw c.from_residual-in_err-sees.ensures (
    other_kind c.args.line.now c.cut_word.result.0.now (words_after (option_copied c.cut_word.result.1)) c.cut_word.ensures.words
    (λ e. let t = c.is_word.ensures.1 e in let f = c.if-is_word.false in cc) c.in_err-sees.ensures.none
    )

pub returns-in_err-finder-clause-none : goal.returns-in_err-finder-clause-none
returns-in_err-finder-clause-none c =
    let seen : words_of c.args.line.now ≡ c.cut_word.result.0.now ∷ c.cut_word-2.result.0.now ∷ words_of c.in_ok-others-2.field-0.now =
    c.cut_word.ensures.words ∙ ap (λ o. c.cut_word.result.0.now ∷ words_after (option_copied o)) c.in_ok-others.was
    ∙ ap (λ ws. c.cut_word.result.0.now ∷ ws) (c.cut_word-2.ensures.words ∙ ap (λ o. c.cut_word-2.result.0.now ∷ words_after (option_copied o)) c.in_ok-others-2.was) in
    rw c.from_residual-in_err-finder.ensures (
    no_find c.args.line.now c.cut_word.result.0.now c.cut_word-2.result.0.now c.in_ok-others-2.field-0.now seen (λ e. let t = c.is_word.ensures.1 e in let f = c.if-is_word.false in cc) c.in_err-finder.ensures.none
    )

pub returns-clause-some : goal.returns-clause-some
returns-clause-some c =
    let sees = c.in_ok-sees.sees in
    let send = c.in_ok-send.ensures.some in
    let finder = c.in_ok-finder.ensures.some in
    let seen : words_of c.args.line.now ≡ c.cut_word.result.0.now ∷ c.cut_word-2.result.0.now ∷ words_of c.in_ok-others-2.field-0.now =
    c.cut_word.ensures.words ∙ ap (λ o. c.cut_word.result.0.now ∷ words_after (option_copied o)) c.in_ok-others.was
    ∙ ap (λ ws. c.cut_word.result.0.now ∷ ws) (c.cut_word-2.ensures.words ∙ ap (λ o. c.cut_word-2.result.0.now ∷ words_after (option_copied o)) c.in_ok-others-2.was) in
    let kind : find_word sees ≡ c.cut_word.result.0.now = c.in_ok-sees.ensures.some in
    let last : numeral finder.0 ∷ [] ≡ words_of c.in_ok-others-2.field-0.now = numeral_only finder.0 c.in_ok-others-2.field-0.now finder.1 in
    let words : step_words (written_find_step sees send.0 finder.0) ≡ words_of c.args.line.now =
    find_words sees send.0 finder.0 ∙ (λ i. kind i ∷ send.1 i ∷ last i) ∙ sym seen in
    (written_find_step sees send.0 finder.0, words, c.find_step.ensures ∙ (λ i. written_find_step sees (send.2 i) (finder.2 i)) ∙ sym (capped_find sees send.0 finder.0))

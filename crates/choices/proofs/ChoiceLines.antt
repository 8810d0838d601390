-- Lines on choices, one behind the other.
use Rattle.std.proofs.Common.{◌≡◌, ℕ, ◌+◌, ◌<◌, ◌≤◌, List, [], ◌∷◌, ◌++◌, length, get_or, take, refl, sym, ◌∙◌, ap, subst, append_assoc, append-nil, arith}
use Rattle.std.proofs.Math.Seq.{take-length}
use Rattle.std.proofs.lemmas.List.{take_more}
use Rattle.choices.specs.declared.items.Weighed.{Weighed}
use Rattle.choices.specs.Words.{AreChoiceLines, choice_line}

-- one more behind them
lines_push : (choices : List Weighed) (next : Weighed) (text taken : List ℕ) → AreChoiceLines choices text → AreChoiceLines (choices ++ next ∷ []) (text ++ choice_line taken next.need)
lines_push [] next text taken are =
    let line = choice_line taken next.need in
    (taken, [], refl, ap (λ (t : List ℕ). t ++ line) are ∙ sym (append-nil line))
lines_push (first ∷ choices) next text taken are =
    let line = choice_line taken next.need in
    (are.0, are.1 ++ line, lines_push choices next are.1 taken are.2, ap (λ (t : List ℕ). t ++ line) are.3 ∙ append_assoc (choice_line are.0 first.need) are.1 line)

-- the line on the next choice behind those so far
pub lines_more : (choices : List Weighed) (i : ℕ) (next : Weighed) (text more taken : List ℕ) → i < length choices → get_or choices i next ≡ next → more ≡ text ++ choice_line taken next.need
    → AreChoiceLines (take i choices) text → AreChoiceLines (take (i + 1) choices) more
lines_more choices i next text more taken within there is are =
    subst (λ (some : List Weighed). AreChoiceLines some more) (sym (take_more choices i next within ∙ ap (λ (w : Weighed). take i choices ++ w ∷ []) there))
    (subst (AreChoiceLines (take i choices ++ next ∷ [])) (sym is) (lines_push (take i choices) next text taken are))

-- lines on all of them
pub lines_all : (choices : List Weighed) (i : ℕ) (text : List ℕ) → i ≤ length choices → length choices ≤ i → AreChoiceLines (take i choices) text → AreChoiceLines choices text
lines_all choices i text within past are =
    let at : i ≡ length choices = omega arith in
    subst (λ (some : List Weighed). AreChoiceLines some text) (ap (λ (n : ℕ). take n choices) at ∙ take-length choices) are

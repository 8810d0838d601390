-- Words that are told one after another.
use Rattle.std.proofs.Common.{◌≡◌, ◌∙◌, ◌<◌, ap, sym, ℕ, ◌+◌, List, [], ◌∷◌, ◌++◌, length, map, take, get_or, append_assoc, append-nil, arith}
use Rattle.std.proofs.lemmas.List.{get_or-map, length-map, length-take-le, take_more}
use Rattle.choices.specs.Pins.{blank_before, told_word, told_words_from}

pub told_more : (source tag at place : ℕ) (words : List (List ℕ)) (word : List ℕ)
    → told_words_from source tag at place (words ++ word ∷ []) ≡ told_words_from source tag at place words ++ (blank_before (place + length words) ++ told_word source tag at (place + length words) word)
told_more source tag at place [] word =
    append-nil (blank_before place ++ told_word source tag at place word)
    ∙ ap (λ (k : ℕ). blank_before k ++ told_word source tag at k word) (omega arith)
told_more source tag at place (first ∷ words) word =
    let own = blank_before place ++ told_word source tag at place first in
    let k : (place + 1) + length words ≡ place + length (first ∷ words) = omega arith in
    ap (λ (l : List ℕ). own ++ l) (told_more source tag at (place + 1) words word)
    ∙ sym (append_assoc own (told_words_from source tag at (place + 1) words) (blank_before ((place + 1) + length words) ++ told_word source tag at ((place + 1) + length words) word))
    ∙ ap (λ (n : ℕ). (own ++ told_words_from source tag at (place + 1) words) ++ (blank_before n ++ told_word source tag at n word)) k

-- one more word is told
pub told_next : (source tag at place : ℕ) (words : List (List ℕ)) (word old mid new : List ℕ) → place < length words → word ≡ get_or words place word
    → mid ≡ old ++ told_words_from source tag at 0 (take place words) → new ≡ mid ++ (blank_before place ++ told_word source tag at place word)
    → new ≡ old ++ told_words_from source tag at 0 (take (place + 1) words)
told_next source tag at place words word old mid new within is so_far next =
    let front = take place words in
    let far : 0 + length front ≡ place = omega (arith, length-take-le place words (omega (arith, within))) in
    let own = λ (k : ℕ). blank_before k ++ told_word source tag at k word in
    let more : take (place + 1) words ≡ front ++ word ∷ [] = take_more words place word within ∙ ap (λ (w : List ℕ). front ++ w ∷ []) (sym is) in
    next ∙ ap (λ (l : List ℕ). l ++ own place) so_far ∙ append_assoc old (told_words_from source tag at 0 front) (own place)
    ∙ ap (λ (k : ℕ). old ++ (told_words_from source tag at 0 front ++ own k)) (sym far)
    ∙ ap (λ (l : List ℕ). old ++ l) (sym (told_more source tag at 0 front word))
    ∙ ap (λ (ws : List (List ℕ)). old ++ told_words_from source tag at 0 ws) (sym more)

-- the same of what a list holds
pub told_item : {X : Type 0} (spelled : X → List ℕ) (source tag at place : ℕ) (items : List X) (d : X) (old mid new : List ℕ) → place < length items
    → mid ≡ old ++ told_words_from source tag at 0 (take place (map spelled items)) → new ≡ mid ++ (blank_before place ++ told_word source tag at place (spelled (get_or items place d)))
    → new ≡ old ++ told_words_from source tag at 0 (take (place + 1) (map spelled items))
told_item spelled source tag at place items d old mid new within so_far next =
    let word = spelled (get_or items place d) in
    told_next source tag at place (map spelled items) word old mid new (omega (arith, within, length-map items spelled)) (sym (get_or-map spelled items place d word within)) so_far next

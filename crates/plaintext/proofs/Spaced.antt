-- Words with a space before each.
use Rattle.std.proofs.Common.{◌≡◌, ℕ, List, [], ◌∷◌, ◌++◌, refl, sym, ap, ◌∙◌, append_assoc}
use Rattle.std.specs.List.{join_with_byte}
use Rattle.std.proofs.lemmas.List.{append-nil}
use Rattle.plaintext.specs.Plain.{spaced}

pub spaced-append : (xs ys : List (List ℕ)) → spaced (xs ++ ys) ≡ spaced xs ++ spaced ys
spaced-append [] ys = refl
spaced-append (x ∷ xs) ys = ap (λ (t : List ℕ). 32 ∷ (x ++ t)) (spaced-append xs ys) ∙ ap (λ (t : List ℕ). 32 ∷ t) (sym (append_assoc x (spaced xs) (spaced ys)))

-- words joined by spaces are the first, and then the others with a space before each
pub spaced-join : (word : List ℕ) (others : List (List ℕ)) → join_with_byte 32 (word ∷ others) ≡ word ++ spaced others
spaced-join word [] = sym (append-nil word)
spaced-join word (v ∷ others) = ap (λ (t : List ℕ). word ++ 32 ∷ t) (spaced-join v others)

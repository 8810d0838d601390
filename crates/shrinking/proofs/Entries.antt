-- The entries of a map, one after another.
use Rattle.std.proofs.Common.{◌≡◌, ◌∙◌, ℕ, ◌+◌, ◌<◌, List, [], ◌∷◌, ◌++◌, drop, get_or, length, refl, sym}
use Rattle.std.proofs.lemmas.List.{drop_more}
use Rattle.shrinking.specs.Left.{words_in}
use Rattle.shrinking.specs.Mapping.{entries, entry_if_call, ranks_after}

-- where no number is left, there is none
pub entries_end : (path : List ℕ) (line ranks : ℕ) (lines : List (List ℕ)) → entries path line ranks lines [] ≡ []
entries_end path line ranks [] = refl
entries_end path line ranks (words ∷ lines) = refl

-- the first entry stands before the others
pub entries_more : (path : List ℕ) (line ranks next k : ℕ) (lines : List (List ℕ)) (numbers : List ℕ) (text : List ℕ) → k < length lines → k < length numbers
    → get_or lines k [] ≡ text → next ≡ ranks_after ranks (words_in text)
    → entries path line ranks (drop k lines) (drop k numbers)
    ≡ entry_if_call path line ranks (words_in text) (get_or numbers k 0) ++ entries path (line + 1) next (drop (k + 1) lines) (drop (k + 1) numbers)
entries_more path line ranks next k lines numbers text in_lines in_numbers is after =
    (λ i. entries path line ranks (drop_more lines k [] in_lines i) (drop_more numbers k 0 in_numbers i))
    ∙ (λ i. entry_if_call path line ranks (words_in (is i)) (get_or numbers k 0) ++ entries path (line + 1) (ranks_after ranks (words_in (is i))) (drop (k + 1) lines) (drop (k + 1) numbers))
    ∙ (λ i. entry_if_call path line ranks (words_in text) (get_or numbers k 0) ++ entries path (line + 1) (sym after i) (drop (k + 1) lines) (drop (k + 1) numbers))

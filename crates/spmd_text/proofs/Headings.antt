-- The bytes before the first word, one by one.
use Rattle.std.proofs.Common.{◌≡◌, ℕ, Bool, List, [], ◌∷◌, Some, None, ap, sym, ◌∙◌, false}
use Rattle.spmd_text.specs.Headings.{comment_after, begins_with_spmd, first_word, is_spmd_from}

-- a byte is passed
pub heading_goes : (bs rest : List ℕ) (b : ℕ) (comment next o : Bool)
    → is_spmd_from comment bs ≡ o → bs ≡ b ∷ rest → Some next ≡ comment_after comment b → is_spmd_from next rest ≡ o
unfolding is_spmd_from
heading_goes bs rest b comment next o is e f =
    ap (λ x. first_word x (b ∷ rest) (λ c. is_spmd_from c rest)) f ∙ (sym (ap (λ xs. is_spmd_from comment xs) e) ∙ is)

-- the first word begins
pub heading_begins : (bs rest : List ℕ) (b : ℕ) (comment o : Bool)
    → is_spmd_from comment bs ≡ o → bs ≡ b ∷ rest → None ≡ comment_after comment b → begins_with_spmd bs ≡ o
unfolding is_spmd_from
heading_begins bs rest b comment o is e f =
    ap (λ xs. begins_with_spmd xs) e ∙ ap (λ x. first_word x (b ∷ rest) (λ c. is_spmd_from c rest)) f ∙ (sym (ap (λ xs. is_spmd_from comment xs) e) ∙ is)

-- there is no word
pub heading_ends : (bs : List ℕ) (comment o : Bool) → is_spmd_from comment bs ≡ o → bs ≡ [] → false ≡ o
unfolding is_spmd_from
heading_ends bs comment o is e = sym (ap (λ xs. is_spmd_from comment xs) e) ∙ is

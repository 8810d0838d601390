-- Words of a line that are left, one after another.
use Rattle.std.proofs.Common.{suc, refl, ◌≤◌, ◌-◌, Bor, ◌≡◌, ◌∙◌, ◌⊎◌, inl, inr, ℕ, ◌+◌, ◌<◌, List, [], ◌∷◌, ◌++◌, get_or, length, map, take, subst, sym, arith}
use Rattle.std.proofs.lemmas.Bool.{cases_lt}
use Rattle.std.proofs.lemmas.List.{get_or-map, take_more}
use Rattle.shrinking.specs.Left.{AreSome, IsLeftAt, IsLineLeft, IsSameWord, lines_in, none, kept, left_out}
use Rattle.shrinking.specs.Shrinking.{count_lines}

some_kept : (word : List ℕ) (olds news : List (List ℕ)) → AreSome olds news → AreSome (olds ++ word ∷ []) (news ++ word ∷ [])
some_kept word _ _ none = kept word [] [] none
some_kept word _ _ (kept w olds news some) = kept w (olds ++ word ∷ []) (news ++ word ∷ []) (some_kept word olds news some)
some_kept word _ _ (left_out w olds news some) = left_out w (olds ++ word ∷ []) (news ++ word ∷ []) (some_kept word olds news some)

some_left : (word : List ℕ) (olds news : List (List ℕ)) → AreSome olds news → AreSome (olds ++ word ∷ []) news
some_left word _ _ none = left_out word [] [] none
some_left word _ _ (kept w olds news some) = kept w (olds ++ word ∷ []) news (some_left word olds news some)
some_left word _ _ (left_out w olds news some) = left_out w (olds ++ word ∷ []) news (some_left word olds news some)

-- the next word is one of those left, or it isn't
pub some_more : (olds news : List (List ℕ)) (i place next : ℕ) (word : List ℕ) → i < length olds → get_or olds i [] ≡ word
    → AreSome (take i olds) (take place news)
    → (next ≡ place) ⊎ ((next ≡ place + 1) × (place < length news) × (get_or news place [] ≡ word))
    → AreSome (take (i + 1) olds) (take next news)
some_more olds news i place next word within is some (inl same) =
    subst (λ (n : ℕ). AreSome (take (i + 1) olds) (take n news)) (sym same)
    (subst (λ (xs : List (List ℕ)). AreSome xs (take place news)) (sym (take_more olds i [] within))
    (some_left (get_or olds i []) (take i olds) (take place news) some))
some_more olds news i place next word within is some (inr (one, below, new)) =
    subst (λ (n : ℕ). AreSome (take (i + 1) olds) (take n news)) (sym one)
    (subst (λ (xs : List (List ℕ)). AreSome xs (take (place + 1) news)) (sym (take_more olds i [] within))
    (subst (λ (xs : List (List ℕ)). AreSome (take i olds ++ get_or olds i [] ∷ []) xs) (sym (take_more news place [] below))
    (subst (λ (w : List ℕ). AreSome (take i olds ++ get_or olds i [] ∷ []) (take place news ++ w ∷ [])) (is ∙ sym new)
    (some_kept (get_or olds i []) (take i olds) (take place news) some))))

-- one more word is the same
pub words_more : (first : List ℕ) (olds news : List (Bor (List ℕ))) (k : ℕ) (d e : Bor (List ℕ)) → k < length olds → k < length news
    → IsSameWord first k (get_or olds k d).now (get_or news k e).now
    → ((i : ℕ) → i < k → IsSameWord first i (get_or (map (λ (w : Bor (List ℕ)). w.now) olds) i []) (get_or (map (λ (w : Bor (List ℕ)). w.now) news) i []))
    → (i : ℕ) → i < k + 1 → IsSameWord first i (get_or (map (λ (w : Bor (List ℕ)). w.now) olds) i []) (get_or (map (λ (w : Bor (List ℕ)). w.now) news) i [])
words_more first olds news k d e in_olds in_news last before i within =
    elim (cases_lt i k) [
      | inl below ↦ before i below
      | inr above ↦
          let same : k ≡ i = omega (arith, above, within) in
          subst (λ (n : ℕ). IsSameWord first n (get_or (map (λ (w : Bor (List ℕ)). w.now) olds) n []) (get_or (map (λ (w : Bor (List ℕ)). w.now) news) n [])) same
          (subst (λ (w : List ℕ). IsSameWord first k w (get_or (map (λ (w : Bor (List ℕ)). w.now) news) k [])) (sym (get_or-map (λ (w : Bor (List ℕ)). w.now) olds k d [] in_olds))
          (subst (λ (w : List ℕ). IsSameWord first k (get_or olds k d).now w) (sym (get_or-map (λ (w : Bor (List ℕ)). w.now) news k e [] in_news)) last))
    ]

-- the line of one more number is left
pub left_more : (given text numbers : List ℕ) (olds news : List (List ℕ)) (k last most : ℕ) → olds ≡ lines_in given → news ≡ lines_in text
    → last ≡ get_or (0 ∷ numbers) k 0 → last < get_or numbers k 0 → most ≡ count_lines given → get_or numbers k 0 ≤ most
    → IsLineLeft (get_or olds (get_or numbers k 0 - 1) []) (get_or news k [])
    → ((place : ℕ) → place < k → IsLeftAt given text numbers place) → (place : ℕ) → place < k + 1 → IsLeftAt given text numbers place
left_more given text numbers olds news k last most old_lines new_lines was rises all within line before place below =
    elim (cases_lt place k) [
      | inl less ↦ before place less
      | inr above ↦
          let same : k ≡ place = omega (arith, above, below) in
          subst (λ (n : ℕ). IsLeftAt given text numbers n) same (record {
            rises = subst (λ (n : ℕ). n < get_or numbers k 0) was rises;
            within = subst (λ (n : ℕ). get_or numbers k 0 ≤ n) all within;
            line = subst (λ (xs : List (List ℕ)). IsLineLeft (get_or xs (get_or numbers k 0 - 1) []) (get_or (lines_in text) k [])) old_lines
                (subst (λ (xs : List (List ℕ)). IsLineLeft (get_or olds (get_or numbers k 0 - 1) []) (get_or xs k [])) new_lines line);
          })
    ]

pub number_before : (numbers : List ℕ) (k : ℕ) → get_or numbers k 0 ≡ get_or (0 ∷ numbers) (k + 1) 0
number_before numbers k =
    let next : suc k ≡ k + 1 = omega arith in
    subst (λ (n : ℕ). get_or numbers k 0 ≡ get_or (0 ∷ numbers) n 0) next refl

-- What the writer's parts make, one after another.
use Rattle.std.proofs.Common.{◌≡◌, ℕ, suc, ◌+◌, ◌<◌, List, [], ◌∷◌, ◌++◌, length, take, map, refl, sym, ap, ◌∙◌, append_assoc, add-one, arith}
use Rattle.std.specs.Prelude.{codes, Some, slice_get}
use Rattle.std.specs.List.{flat_map, join_with_byte}
use Rattle.std.proofs.lemmas.List.{append-nil, length-take, take_more}
use Rattle.std.proofs.lemmas.List.Concat.{flat_map-cons}
use Rattle.std.proofs.lemmas.Option.{get_or_from_slice_get, slice_get_within}
use Rattle.callorder.specs.Programs.{MpiProgram}
use Rattle.plaintext.specs.Plain.{line_of, spaced}
use Rattle.plaintext.proofs.Spaced.{spaced-append, spaced-join}
use Rattle.clauses.specs.Clauses.{Literal}
use Rattle.formula.specs.declared.facts.Meaning.{Meaning}
use Rattle.formula.specs.Numbering.{meanings}
use Rattle.formula_tables.specs.Meanings.{meaning_of}
use Rattle.prooflog.specs.Refutations.{literal_word}
use Rattle.exports.specs.Dimacs.{comment_line, comment_lines, dimacs_clause}

-- ---- words

-- a space and a word are a spaced word
pub one_word : (out word : List ℕ) → (out ++ 32 ∷ []) ++ word ≡ out ++ spaced (word ∷ [])
one_word out word = append_assoc out (32 ∷ []) word ∙ ap (λ (t : List ℕ). out ++ 32 ∷ t) (sym (append-nil word))

-- more words are written
pub more_words : (old mid new : List ℕ) (xs ys : List (List ℕ)) → mid ≡ old ++ spaced xs → new ≡ mid ++ spaced ys → new ≡ old ++ spaced (xs ++ ys)
more_words old mid new xs ys first second =
    second ∙ ap (λ (t : List ℕ). t ++ spaced ys) first ∙ append_assoc old (spaced xs) (spaced ys) ∙ ap (λ (t : List ℕ). old ++ t) (sym (spaced-append xs ys))

-- a word, the others with a space before each, and the line's end
pub line_end : (old mid new word : List ℕ) (others : List (List ℕ)) → mid ≡ (old ++ word) ++ spaced others → new ≡ mid ++ 10 ∷ [] → new ≡ old ++ line_of (word ∷ others)
line_end old mid new word others words last =
    last ∙ ap (λ (t : List ℕ). t ++ 10 ∷ []) (words ∙ append_assoc old word (spaced others) ∙ ap (λ (t : List ℕ). old ++ t) (sym (spaced-join word others)))
    ∙ append_assoc old (join_with_byte 32 (word ∷ others)) (10 ∷ [])

-- ---- lines

-- one more comment line
pub one_comment : (p : MpiProgram) (number : ℕ) (ms : List Meaning) (m : Meaning) → comment_lines p number (ms ++ m ∷ []) ≡ comment_lines p number ms ++ comment_line p (number + length ms) m
one_comment p number [] m = append-nil (comment_line p number m) ∙ ap (λ (n : ℕ). comment_line p n m) (omega arith)
one_comment p number (x ∷ ms) m =
    let same : number + 1 + length ms ≡ number + suc (length ms) = omega arith in
    ap (λ (t : List ℕ). comment_line p number x ++ t) (one_comment p (number + 1) ms m ∙ ap (λ (n : ℕ). comment_lines p (number + 1) ms ++ comment_line p n m) same)
    ∙ sym (append_assoc (comment_line p number x) (comment_lines p (number + 1) ms) (comment_line p (number + suc (length ms)) m))

-- the comment line of one more variable
pub next_comment : (p : MpiProgram) (old mid new : List ℕ) (k : ℕ) (m : Meaning) → mid ≡ old ++ comment_lines p 1 (take k (meanings p)) → meaning_of p (k + 1) ≡ Some m → new ≡ mid ++ comment_line p (k + 1) m
    → new ≡ old ++ comment_lines p 1 (take (k + 1) (meanings p))
next_comment p old mid new k m before is last =
    let ms : List Meaning = meanings p in
    let found : slice_get ms k ≡ Some m = ap (meaning_of p) (sym (add-one k)) ∙ is in
    let within : k < length ms = slice_get_within ms k m found in
    let more : take (k + 1) ms ≡ take k ms ++ m ∷ [] = take_more ms k m within ∙ ap (λ (x : Meaning). take k ms ++ x ∷ []) (get_or_from_slice_get ms k m m found) in
    let number : k + 1 ≡ 1 + length (take k ms) = omega (arith, within, length-take k ms) in
    last ∙ (λ i. before i ++ comment_line p (number i) m) ∙ append_assoc old (comment_lines p 1 (take k ms)) (comment_line p (1 + length (take k ms)) m)
    ∙ ap (λ (t : List ℕ). old ++ t) (sym (one_comment p 1 (take k ms) m) ∙ ap (comment_lines p 1) (sym more))

joined : (word last : List ℕ) (words : List (List ℕ)) → join_with_byte 32 (word ∷ (words ++ last ∷ [])) ≡ word ++ 32 ∷ join_with_byte 32 (words ++ last ∷ [])
joined word last [] = refl
joined word last (w ∷ words) = refl

-- words with a space after each, and a last one
ended : (clause : List Literal) (last : List ℕ) → flat_map (λ l. literal_word l ++ 32 ∷ []) clause ++ last ≡ join_with_byte 32 (map literal_word clause ++ last ∷ [])
ended [] last = refl
ended (l ∷ clause) last =
    ap (λ (t : List ℕ). t ++ last) (flat_map-cons (λ (x : Literal). literal_word x ++ 32 ∷ []) l clause)
    ∙ append_assoc (literal_word l ++ 32 ∷ []) (flat_map (λ x. literal_word x ++ 32 ∷ []) clause) last
    ∙ append_assoc (literal_word l) (32 ∷ []) (flat_map (λ x. literal_word x ++ 32 ∷ []) clause ++ last)
    ∙ ap (λ (t : List ℕ). literal_word l ++ 32 ∷ t) (ended clause last)
    ∙ sym (joined (literal_word l) last (map literal_word clause))

-- the line of a clause
pub clause_text : (old mid new : List ℕ) (clause : List Literal) → mid ≡ old ++ flat_map (λ l. literal_word l ++ 32 ∷ []) clause → new ≡ mid ++ (codes "0" ++ 10 ∷ []) → new ≡ old ++ dimacs_clause clause
clause_text old mid new clause literals last =
    let text : List ℕ = flat_map (λ l. literal_word l ++ 32 ∷ []) clause in
    last ∙ ap (λ (t : List ℕ). t ++ (codes "0" ++ 10 ∷ [])) literals ∙ append_assoc old text (codes "0" ++ 10 ∷ [])
    ∙ ap (λ (t : List ℕ). old ++ t) (sym (append_assoc text (codes "0") (10 ∷ [])) ∙ ap (λ (t : List ℕ). t ++ 10 ∷ []) (ended clause (codes "0")))

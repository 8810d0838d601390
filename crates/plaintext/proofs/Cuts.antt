-- Lines and words, cut and put together.
use Rattle.std.proofs.Common.{◌≡◌, ℕ, ◌<◌, ◌≤◌, Bool, true, false, cond, eqb, List, [], ◌∷◌, ◌++◌, length, refl, sym, ap, subst, ◌∙◌, arith}
use Rattle.std.specs.List.{AllByRecursion, onto_first, join_with_byte, slice_split}
use Rattle.std.specs.Prelude.{All}
use Rattle.std.proofs.lemmas.List.Elements.{All-from_recursion}
use Rattle.std.proofs.lemmas.List.Splits.{slice_split_none, slice_split_at, join_with_byte-slice_split}
use Rattle.std.proofs.lemmas.List.{append_cancel_right}
use Rattle.plaintext.specs.Plain.{line_of, text_lines, IsPlain}

abbrev pub HasNo : ℕ → List ℕ → Type 0
HasNo c bytes = AllByRecursion (λ b. (b ≡ c) → ⊥) bytes

other : (b c : ℕ) → ((b ≡ c) → ⊥) → eqb b c ≡ false
other b c differs = grind arith

-- a line ends at the first LF
pub text_lines_first : (line rest : List ℕ) → HasNo 10 line → text_lines (line ++ 10 ∷ rest) ≡ (line ++ 10 ∷ []) ∷ text_lines rest
text_lines_first [] rest h = refl
text_lines_first (b ∷ line) rest h = rw (other b 10 h.0, text_lines_first line rest h.1) refl

pub text_lines_last : (line : List ℕ) → HasNo 10 line → text_lines line ≡ line ∷ []
text_lines_last [] h = refl
text_lines_last (b ∷ line) h = rw (other b 10 h.0, text_lines_last line h.1) refl

-- ---- words

-- what the spaces part
abbrev pub parts : List ℕ → List (List ℕ)
parts line = slice_split (λ b. eqb b 32) line

each : (w : List ℕ) → IsPlain w → AllByRecursion (λ b. eqb b 32 ≡ false) w
each [] h = tt
each (b ∷ w) h = (other b 32 (λ e. omega (arith, h.0.0, e)), each w h.1)

plain_unsplit : (w : List ℕ) → IsPlain w → All (λ b. eqb b 32 ≡ false) w
plain_unsplit w h = All-from_recursion (λ b. eqb b 32 ≡ false) w (each w h)

pub parts_joined : (words : List (List ℕ)) → 0 < length words → AllByRecursion IsPlain words → parts (join_with_byte 32 words) ≡ words
parts_joined [] some h = absurd (omega arith)
parts_joined (w ∷ []) some h = slice_split_none (λ b. eqb b 32) w (plain_unsplit w h.0)
parts_joined (w ∷ v ∷ words) some h =
    slice_split_at (λ b. eqb b 32) w 32 (join_with_byte 32 (v ∷ words)) (plain_unsplit w h.0) refl
    ∙ ap (λ (rest : List (List ℕ)). w ∷ rest) (parts_joined (v ∷ words) (omega arith) h.1)

ended_is : (a b : List ℕ) → a ++ 10 ∷ [] ≡ b ++ 10 ∷ [] → a ≡ b
ended_is a b e = append_cancel_right a b (10 ∷ []) e

-- the words of a line are its parts
pub words_are : (words : List (List ℕ)) (line : List ℕ) → 0 < length words → AllByRecursion IsPlain words → line_of words ≡ line ++ 10 ∷ [] → words ≡ parts line
words_are words line some plain e = sym (parts_joined words some plain) ∙ ap parts (ended_is (join_with_byte 32 words) line e)

pub line_is : (words : List (List ℕ)) (line : List ℕ) → words ≡ parts line → line_of words ≡ line ++ 10 ∷ []
line_is words line e = ap line_of e ∙ ap (λ (x : List ℕ). x ++ 10 ∷ []) (join_with_byte-slice_split 32 line)

-- the first part of a line with a plain word in front
pub first_part : (word : List ℕ) (others : List (List ℕ)) (line : List ℕ) → IsPlain word → line ++ 10 ∷ [] ≡ line_of (word ∷ others) → (rest : List (List ℕ)) × (parts line ≡ word ∷ rest)
first_part word [] line plain e = ([], ap parts (ended_is line word e) ∙ slice_split_none (λ b. eqb b 32) word (plain_unsplit word plain))
first_part word (v ∷ others) line plain e = (parts (join_with_byte 32 (v ∷ others)), ap parts (ended_is line (word ++ 32 ∷ join_with_byte 32 (v ∷ others)) e) ∙ slice_split_at (λ b. eqb b 32) word 32 (join_with_byte 32 (v ∷ others)) (plain_unsplit word plain) refl)

-- ---- what stands after the last LF is no line

onto_length : (b : ℕ) (ls : List (List ℕ)) → 1 ≤ length (onto_first b ls)
onto_length b [] = omega arith
onto_length b (l ∷ ls) = omega arith

onto_same : (b : ℕ) (ls : List (List ℕ)) → 1 ≤ length ls → length (onto_first b ls) ≡ length ls
onto_same b [] h = absurd (omega arith)
onto_same b (l ∷ ls) h = refl

cond_length : (t : Bool) (x y : List (List ℕ)) → 2 ≤ length x → 2 ≤ length y → 2 ≤ length (cond t x y)
cond_length true x y p q = p
cond_length false x y p q = q

two_lines : (x : List ℕ) → 2 ≤ length (text_lines (x ++ 10 ∷ []))
two_lines [] = omega arith
two_lines (b ∷ x) =
    let h = two_lines x in
    cond_length (eqb b 10) ((10 ∷ []) ∷ text_lines (x ++ 10 ∷ [])) (onto_first b (text_lines (x ++ 10 ∷ []))) (omega arith) (omega (arith, onto_same b (text_lines (x ++ 10 ∷ [])) (omega arith)))

pub no_line_of : (bytes : List ℕ) (words : List (List ℕ)) → text_lines bytes ≡ bytes ∷ [] → line_of words ≡ bytes → ⊥
no_line_of bytes words one e =
    let two : 2 ≤ length (text_lines bytes) = subst (λ (x : List ℕ). 2 ≤ length (text_lines x)) e (two_lines (join_with_byte 32 words)) in
    omega (arith, two, ap length one)

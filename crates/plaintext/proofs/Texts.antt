-- Texts and their lines: the lines of what lines are joined to, and what a text's lines are joined
-- to.
use Rattle.std.proofs.Common.{◌≡◌, ℕ, ◌<◌, ◌≤◌, Bool, true, false, cond, eqb, List, [], ◌∷◌, ◌++◌, length, min, refl, sym, ap, ◌∙◌, append_assoc, arith}
use Rattle.std.specs.List.{AllByRecursion, flat_map, onto_first, join_with_byte}
use Rattle.std.proofs.lemmas.Grind.{flat_map-append}
use Rattle.std.proofs.lemmas.List.Concat.{flat_map-cons}
use Rattle.std.proofs.lemmas.List.{append-nil}
use Rattle.std.proofs.lemmas.Bool.{eqb-true}
use Rattle.plaintext.specs.Plain.{line_of, text_lines, IsPlain}
use Rattle.plaintext.specs.Fronts.{to_end}
use Rattle.plaintext.proofs.Cuts.{HasNo, text_lines_first, words_are}
use Rattle.plaintext.proofs.Ascii.{all_append}

-- ---- lines of words

-- an LF ends the line, and there is no other in it
pub record IsLine (line : List ℕ) : Type 0 where
  pub content : List ℕ
  pub ended : line ≡ content ++ 10 ∷ []
  pub one : HasNo 10 content

no_LF_word : (word : List ℕ) → IsPlain word → HasNo 10 word
no_LF_word [] p = tt
no_LF_word (b ∷ word) p = (λ e. omega (arith, e, p.0.0), no_LF_word word p.1)

no_LF_join : (words : List (List ℕ)) → AllByRecursion IsPlain words → HasNo 10 (join_with_byte 32 words)
no_LF_join [] p = tt
no_LF_join (w ∷ []) p = no_LF_word w p.0
no_LF_join (w ∷ v ∷ words) p = all_append (λ (b : ℕ). (b ≡ 10) → ⊥) w (32 ∷ join_with_byte 32 (v ∷ words)) (no_LF_word w p.0) (λ e. omega (arith, e), no_LF_join (v ∷ words) p.1)

-- the line of plain words is one line
pub is_line : (words : List (List ℕ)) → AllByRecursion IsPlain words → IsLine (line_of words)
is_line words p = record { content = join_with_byte 32 words; ended = refl; one = no_LF_join words p }

-- plain words that have the same line are the same
pub line_of_injective : (v w : List (List ℕ)) → 0 < length v → 0 < length w → AllByRecursion IsPlain v → AllByRecursion IsPlain w → line_of v ≡ line_of w → v ≡ w
line_of_injective v w some_v some_w plain_v plain_w e =
    words_are v (join_with_byte 32 w) some_v plain_v e ∙ sym (words_are w (join_with_byte 32 w) some_w plain_w refl)

-- ---- texts

-- the lines of a text that lines are joined to are those lines, and then the end
pub lines_joined : (lines : List (List ℕ)) → AllByRecursion IsLine lines → text_lines (flat_map (λ line. line) lines) ≡ to_end lines
lines_joined [] p = refl
lines_joined (l ∷ lines) (is, rest) =
    let w : List ℕ = is.content in
    let bytes : List ℕ = flat_map (λ line. line) lines in
    ap text_lines (flat_map-cons (λ line. line) l lines ∙ ap (λ (x : List ℕ). x ++ bytes) is.ended ∙ append_assoc w (10 ∷ []) bytes)
    ∙ text_lines_first w bytes is.one
    ∙ ap (λ (x : List ℕ). x ∷ text_lines bytes) (sym is.ended)
    ∙ ap (λ (ls : List (List ℕ)). l ∷ ls) (lines_joined lines rest)

joined-onto_first : (b : ℕ) (lines : List (List ℕ)) → flat_map (λ line. line) (onto_first b lines) ≡ b ∷ flat_map (λ line. line) lines
joined-onto_first b [] = refl
joined-onto_first b (l ∷ lines) = flat_map-cons (λ line. line) (b ∷ l) lines ∙ ap (λ (x : List ℕ). b ∷ x) (sym (flat_map-cons (λ line. line) l lines))

either : (t : Bool) (x y : List (List ℕ)) (z : List ℕ) → (t ≡ true → flat_map (λ line. line) x ≡ z) → flat_map (λ line. line) y ≡ z → flat_map (λ line. line) (cond t x y) ≡ z
either true x y z p q = p refl
either false x y z p q = q

-- the lines of a text, joined, are the text
pub joined-lines : (bytes : List ℕ) → flat_map (λ line. line) (text_lines bytes) ≡ bytes
joined-lines [] = refl
joined-lines (b ∷ bytes) =
    either (eqb b 10) ((10 ∷ []) ∷ text_lines bytes) (onto_first b (text_lines bytes)) (b ∷ bytes)
    (λ e. flat_map-cons (λ line. line) (10 ∷ []) (text_lines bytes) ∙ ap (λ (x : List ℕ). 10 ∷ x) (joined-lines bytes) ∙ ap (λ (x : ℕ). x ∷ bytes) (sym (eqb-true b 10 e)))
    (joined-onto_first b (text_lines bytes) ∙ ap (λ (x : List ℕ). b ∷ x) (joined-lines bytes))

-- a text whose lines to the end are these is those lines, joined
pub text_joined : (bytes : List ℕ) (lines : List (List ℕ)) → text_lines bytes ≡ to_end lines → bytes ≡ flat_map (λ line. line) lines
text_joined bytes lines e =
    sym (joined-lines bytes) ∙ ap (flat_map (λ line. line)) e ∙ flat_map-append (λ line. line) lines ([] ∷ []) ∙ append-nil (flat_map (λ line. line) lines)

-- ---- numbers that are told up to a limit

-- a number that is told as one below 2,147,483,648 is that one
pub capped_small : (n most : ℕ) → most < 2147483648 → min n 2147483648 ≤ most → min n 2147483648 ≡ n
capped_small n most h le = omega arith

-- What the lines of a text say.
use Rattle.std.proofs.Common.{◌≡◌, ℕ, Bool, true, false, List, [], ◌∷◌, ◌++◌, map, refl, sym, ap, ◌∙◌, append_assoc}
use Rattle.std.specs.Prelude.{◌==◌, if◌then◌else◌}
use Rattle.std.specs.Global.{Vec}
use Rattle.std.proofs.lemmas.List.{map_push}
use Rattle.plaintext.specs.Plain.{text_lines}
use Rattle.spmd_program.specs.Maps.{blank_before_byte, is_blank_byte, said_lines, words_from, words_of_line}

-- the end of a line says nothing
ended : (begun blank : Bool) (line : List ℕ) → words_from begun blank (line ++ 10 ∷ []) ≡ words_from begun blank line
ended begun blank [] = refl
ended begun blank (b ∷ bs) = by_tests (b == 35) (is_blank_byte b) (ended begun true bs) (ended true false bs)
  where
    by_tests : (comment other : Bool) → words_from begun true (bs ++ 10 ∷ []) ≡ words_from begun true bs → words_from true false (bs ++ 10 ∷ []) ≡ words_from true false bs
        → (if comment then [] else if other then words_from begun true (bs ++ 10 ∷ []) else (blank_before_byte begun blank b ++ b ∷ words_from true false (bs ++ 10 ∷ [])))
        ≡ (if comment then [] else if other then words_from begun true bs else (blank_before_byte begun blank b ++ b ∷ words_from true false bs))
    by_tests true other behind_blank behind_byte = refl
    by_tests false true behind_blank behind_byte = behind_blank
    by_tests false false behind_blank behind_byte = ap (λ (t : List ℕ). blank_before_byte begun blank b ++ b ∷ t) behind_byte

-- one line more
pub said_more : (lines new : List (Vec ℕ)) (words : Vec ℕ) (rest line behind text : List ℕ) → text_lines rest ≡ (line ++ 10 ∷ []) ∷ text_lines behind → words.items ≡ words_of_line line
    → new ≡ lines ++ words ∷ [] → map (λ l. l.items) lines ++ said_lines rest ≡ said_lines text → map (λ l. l.items) new ++ said_lines behind ≡ said_lines text
said_more lines new words rest line behind text cut is wrote before =
    let done : List (List ℕ) = map (λ l. l.items) lines in
    ap (λ (ls : List (Vec ℕ)). map (λ l. l.items) ls ++ said_lines behind) wrote
    ∙ ap (λ (ls : List (List ℕ)). ls ++ said_lines behind) (map_push (λ (l : Vec ℕ). l.items) lines words)
    ∙ append_assoc done (words.items ∷ []) (said_lines behind)
    ∙ ap (λ (w : List ℕ). done ++ w ∷ said_lines behind) (is ∙ sym (ended false false line))
    ∙ ap (λ (ls : List (List ℕ)). done ++ map words_of_line ls) (sym cut)
    ∙ before

-- Lines of proofs, one after another.
use Rattle.std.proofs.Common.{◌≡◌, refl, ℕ, ◌+◌, ◌<◌, suc, List, [], ◌∷◌, ◌++◌, length, take, map, sym, ap, ◌∙◌, append_assoc, arith}
use Rattle.std.specs.Prelude.{codes}
use Rattle.std.proofs.lemmas.List.{append-nil, length-take, take_more}
use Rattle.std.specs.Prelude.{get_or}
use Rattle.plaintext.specs.Plain.{numeral, spaced}
use Rattle.prooflog.specs.Refutations.{literal_word}
use Rattle.refutations.specs.Proofs.{ProofLine}
use Rattle.exports.specs.Lrat.{lrat_line, lrat_text}
use Rattle.exports.proofs.Texts.{line_end, more_words}

-- the words of a line, one group after another
pub line_text : (old number two three four five : List ℕ) (line : ProofLine) (n : ℕ) → number ≡ old ++ numeral n
    → two ≡ number ++ spaced (map literal_word line.literals) → three ≡ two ++ codes " 0" → four ≡ three ++ spaced (map numeral line.hints)
    → five ≡ four ++ codes " 0\n" → five ≡ old ++ lrat_line n line
line_text old number two three four five line n numbered literals zero hints last =
    let start : List ℕ = old ++ numeral n in
    let ls : List (List ℕ) = map literal_word line.literals in
    let hs : List (List ℕ) = map numeral line.hints in
    let one : List (List ℕ) = codes "0" ∷ [] in
    let a : two ≡ start ++ spaced ls = literals ∙ ap (λ (t : List ℕ). t ++ spaced ls) numbered in
    let b : three ≡ start ++ spaced (ls ++ one) = more_words start two three ls one a zero in
    let c : four ≡ start ++ spaced ((ls ++ one) ++ hs) = more_words start three four (ls ++ one) hs b hints in
    let d : four ++ spaced one ≡ start ++ spaced (((ls ++ one) ++ hs) ++ one) = more_words start four (four ++ spaced one) ((ls ++ one) ++ hs) one c refl in
    let words : ((ls ++ one) ++ hs) ++ one ≡ ls ++ codes "0" ∷ (hs ++ one) =
    ap (λ (ws : List (List ℕ)). ws ++ one) (append_assoc ls one hs) ∙ append_assoc ls (codes "0" ∷ hs) one in
    line_end old (four ++ spaced one) five (numeral n) (ls ++ codes "0" ∷ (hs ++ one)) (d ∙ ap (λ (ws : List (List ℕ)). start ++ spaced ws) words)
    (last ∙ sym (append_assoc four (spaced one) (10 ∷ [])))

-- lines go on where those before them end
pub text_append : (n : ℕ) (lines more : List ProofLine) → lrat_text n (lines ++ more) ≡ lrat_text n lines ++ lrat_text (n + length lines) more
text_append n [] more = ap (λ (k : ℕ). lrat_text k more) (omega arith)
text_append n (line ∷ lines) more =
    let same : n + 1 + length lines ≡ n + suc (length lines) = omega arith in
    ap (λ (t : List ℕ). lrat_line n line ++ t) (text_append (n + 1) lines more ∙ ap (λ (k : ℕ). lrat_text (n + 1) lines ++ lrat_text k more) same)
    ∙ sym (append_assoc (lrat_line n line) (lrat_text (n + 1) lines) (lrat_text (n + suc (length lines)) more))

-- one more line
pub text_next : (old mid new : List ℕ) (n k : ℕ) (lines : List ProofLine) (d : ProofLine) → k < length lines → mid ≡ old ++ lrat_text n (take k lines)
    → new ≡ mid ++ lrat_line (n + k) (get_or lines k d) → new ≡ old ++ lrat_text n (take (k + 1) lines)
text_next old mid new n k lines d within before last =
    let line : ProofLine = get_or lines k d in
    let long : n + length (take k lines) ≡ n + k = omega (arith, within, length-take k lines) in
    let one : lrat_text (n + length (take k lines)) (line ∷ []) ≡ lrat_line (n + k) line =
    append-nil (lrat_line (n + length (take k lines)) line) ∙ ap (λ (m : ℕ). lrat_line m line) long in
    last ∙ ap (λ (t : List ℕ). t ++ lrat_line (n + k) line) before ∙ append_assoc old (lrat_text n (take k lines)) (lrat_line (n + k) line)
    ∙ ap (λ (t : List ℕ). old ++ t)
    (ap (λ (t : List ℕ). lrat_text n (take k lines) ++ t) (sym one) ∙ sym (text_append n (take k lines) (line ∷ []))
    ∙ ap (lrat_text n) (sym (take_more lines k d within)))

-- What a line's words say of the proof line that it may be: when it is in range, and when it is
-- none.
use Rattle.std.proofs.Common.{◌≡◌, ℕ, Bool, true, false, IsTrue, nat_le, nat_lt, List, [], ◌∷◌, ◌++◌, Option, Some, None, map, refl, sym, ap, subst, ◌∙◌, arith}
use Rattle.std.specs.Prelude.{codes, ◌&&◌}
use Rattle.std.specs.List.{AllByRecursion}
use Rattle.std.specs.Option.{IfSome, IfNone}
use Rattle.std.proofs.lemmas.Bool.{and_parts, and_from, ltb-true, leb-true, le-leb}
use Rattle.plaintext.specs.Plain.{numeral}
use Rattle.plaintext.proofs.FirstFaults.{heads}
use Rattle.clauses.specs.Clauses.{Literal, rises, rises_above, is_within}
use Rattle.refutations.specs.Proofs.{ProofLine, is_proof_number, are_numbers}
use Rattle.prooflog.specs.Refutations.{literal_word, proof_words, is_line_in_range}
use Rattle.prooflog.specs.parts.Reading.{capped, IsVariable, AreRead}
use Rattle.prooflog.proofs.ProofWords.{same_literals}

-- what is said of a value, where there is one
pub told : {T : Type 0} (o : Option T) (x : T) (P : T → Type 0) → o ≡ Some x → IfSome o P → P x
told o x P is of_value = subst (λ (y : Option _). IfSome y P) is of_value

-- what is said of there being none
pub untold : {T : Type 0} (o : Option T) (P : Type 0) → o ≡ None → IfNone o P → P
untold o P is of_none = subst (λ (y : Option _). IfNone y P) is of_none

-- ---- ranges

pub parts_in_range : (line : ProofLine) → IsTrue (is_line_in_range line) → IsTrue (is_within 2147483647 line.literals) × IsTrue (rises line.literals) × IsTrue (are_numbers line.hints)
parts_in_range line fits =
    let one = and_parts (is_within 2147483647 line.literals && rises line.literals) (are_numbers line.hints) fits in
    let two = and_parts (is_within 2147483647 line.literals) (rises line.literals) one.0 in
    (two.0, two.1, one.1)

pub in_range_from : (line : ProofLine) → IsTrue (is_within 2147483647 line.literals) → IsTrue (rises line.literals) → IsTrue (are_numbers line.hints) → IsTrue (is_line_in_range line)
in_range_from line within rise numbers =
    and_from (is_within 2147483647 line.literals && rises line.literals) (are_numbers line.hints) (and_from (is_within 2147483647 line.literals) (rises line.literals) within rise) numbers

-- literals whose variables rise, none above the largest, have variables in range
rising_variables : (low : ℕ) (ls : List Literal) → IsTrue (rises_above low ls) → IsTrue (is_within 2147483647 ls) → AllByRecursion IsVariable ls
rising_variables low [] rise within = tt
rising_variables low (l ∷ ls) rise within =
    let up = and_parts (nat_lt low l.variable) (rises_above l.variable ls) rise in
    let most = and_parts (nat_le l.variable 2147483647) (is_within 2147483647 ls) within in
    ((omega (arith, ltb-true low l.variable up.0), leb-true l.variable 2147483647 most.0), rising_variables l.variable ls up.1 most.1)

variables_within : (ls : List Literal) → AllByRecursion IsVariable ls → IsTrue (is_within 2147483647 ls)
variables_within [] all = refl
variables_within (l ∷ ls) all = and_from (nat_le l.variable 2147483647) (is_within 2147483647 ls) (le-leb l.variable 2147483647 all.0.1) (variables_within ls all.1)

-- numbers that are read in range are the line's
capped_same : (ns : List ℕ) → IsTrue (are_numbers (map capped ns)) → map capped ns ≡ ns
capped_same [] fits = refl
capped_same (n ∷ ns) fits =
    let parts = and_parts (is_proof_number (capped n)) (are_numbers (map capped ns)) fits in
    let most = leb-true (capped n) 2147483647 (and_parts (nat_le 1 (capped n)) (nat_le (capped n) 2147483647) parts.0).1 in
    let first : capped n ≡ n = omega (arith, most) in
    let others = capped_same ns parts.1 in
    λ i. first i ∷ others i

small_capped : (ns : List ℕ) → IsTrue (are_numbers ns) → map capped ns ≡ ns
small_capped [] fits = refl
small_capped (n ∷ ns) fits =
    let parts = and_parts (is_proof_number n) (are_numbers ns) fits in
    let most = leb-true n 2147483647 (and_parts (nat_le 1 n) (nat_le n 2147483647) parts.0).1 in
    let first : capped n ≡ n = omega (arith, most) in
    let others = small_capped ns parts.1 in
    λ i. first i ∷ others i

-- ---- words

abbrev pub proof_line : List Literal → List ℕ → ProofLine
proof_line ls ns = record { literals = ls; hints = ns }

-- the words of a line are those of a proof line
pub spelled : (words others hints : List (List ℕ)) (kind : List ℕ) (ls : List Literal) (ns : List ℕ) → words ≡ kind ∷ others → kind ≡ codes "line" → map literal_word ls ++ codes ":" ∷ hints ≡ others → map numeral ns ≡ hints
    → proof_words (proof_line ls ns) ≡ words
spelled words others hints kind ls ns seen is before after =
    (λ i. sym is i ∷ (map literal_word ls ++ codes ":" ∷ after i)) ∙ ap (λ (ws : List (List ℕ)). kind ∷ ws) before ∙ sym seen

-- they are no proof line's where what follows the colon is no numbers
pub no_hints : (words others hints : List (List ℕ)) (kind : List ℕ) (ls : List Literal) → words ≡ kind ∷ others → map literal_word ls ++ codes ":" ∷ hints ≡ others → ((ns : List ℕ) → map numeral ns ≡ hints → ⊥)
    → (line : ProofLine) → proof_words line ≡ words → ⊥
no_hints words others hints kind ls seen before none line is =
    let e = heads (codes "line") kind (map literal_word line.literals ++ codes ":" ∷ map numeral line.hints) others (is ∙ seen) in
    none line.hints (same_literals line.literals ls (map numeral line.hints) hints (e.1 ∙ sym before)).1

-- a proof line with a literal out of range is out of range
pub no_variables : (in_range : Bool) (read ls : List Literal) (ns : List ℕ) → AreRead in_range read ls → in_range ≡ false → IsTrue (is_line_in_range (proof_line ls ns)) → ⊥
no_variables in_range read ls ns are out fits =
    let parts = parts_in_range (proof_line ls ns) fits in
    let t : in_range ≡ true = are.0.1 (rising_variables 0 ls parts.1 parts.0) in
    cc

-- where what was read makes no line, the proof line is out of range
pub no_line : (in_range : Bool) (read ls : List Literal) (hints ns : List ℕ) → AreRead in_range read ls → in_range ≡ true → hints ≡ map capped ns → (IsTrue (rises read) × IsTrue (are_numbers hints) → ⊥)
    → IsTrue (is_line_in_range (proof_line ls ns)) → ⊥
no_line in_range read ls hints ns are t caps none fits =
    let parts = parts_in_range (proof_line ls ns) fits in
    none (subst (λ (x : List Literal). IsTrue (rises x)) (sym (are.1 t)) parts.1, subst (λ (x : List ℕ). IsTrue (are_numbers x)) (sym (caps ∙ small_capped ns parts.2)) parts.2)

-- where it makes a line, that is the proof line of the words, and in range
pub made_line : (in_range : Bool) (read ls : List Literal) (hints ns : List ℕ) (line : ProofLine) → AreRead in_range read ls → in_range ≡ true → hints ≡ map capped ns → IsTrue (rises read) × IsTrue (are_numbers hints) → line ≡ proof_line read hints
    → (line ≡ proof_line ls ns) × IsTrue (is_line_in_range line)
made_line in_range read ls hints ns line are t caps fits made =
    let same : hints ≡ ns = caps ∙ capped_same ns (subst (λ (x : List ℕ). IsTrue (are_numbers x)) caps fits.1) in
    let within : IsTrue (is_within 2147483647 read) = subst (λ (x : List Literal). IsTrue (is_within 2147483647 x)) (sym (are.1 t)) (variables_within ls (are.0.0 t)) in
    (made ∙ (λ i. proof_line (are.1 t i) (same i)), subst (λ (x : ProofLine). IsTrue (is_line_in_range x)) (sym made) (in_range_from (proof_line read hints) within fits.0 fits.1))

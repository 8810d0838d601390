-- How many lines a text has.
use Rattle.std.proofs.Common.{◌≡◌, ◌∙◌, ◌+◌, ◌<◌, ℕ, Bool, true, false, ◌==◌, if◌then◌else◌, List, [], ◌∷◌, ◌++◌, ap, refl, arith, get_or, length, take}
use Rattle.std.specs.List.{onto_first}
use Rattle.std.proofs.lemmas.List.{take_more}
use Rattle.plaintext.specs.Plain.{text_lines}

abbrev one_more : ℕ → ℕ
one_more b = if b == 10 then 1 else 0

longer : (b : ℕ) (lines : List (List ℕ)) → 0 < length lines → length (onto_first b lines) ≡ length lines
longer b [] some = omega (arith, some)
longer b (line ∷ lines) some = refl

some_first : (b : ℕ) (is : Bool) (lines : List (List ℕ)) → 0 < length lines → 0 < length (if is then (10 ∷ []) ∷ lines else onto_first b lines)
some_first b true lines some = omega arith
some_first b false lines some = omega (arith, longer b lines some, some)

pub some_line : (bytes : List ℕ) → 0 < length (text_lines bytes)
some_line [] = omega arith
some_line (b ∷ bytes) = some_first b (b == 10) (text_lines bytes) (some_line bytes)

more_first : (a more : ℕ) (is : Bool) (old new : List (List ℕ)) → 0 < length old → 0 < length new → length new ≡ length old + more
    → length (if is then (10 ∷ []) ∷ new else onto_first a new) ≡ length (if is then (10 ∷ []) ∷ old else onto_first a old) + more
more_first a more true old new some any is = omega (arith, is)
more_first a more false old new some any is = omega (arith, longer a new any, longer a old some, is)

pub line_count_more : (bytes : List ℕ) (b : ℕ) → length (text_lines (bytes ++ b ∷ [])) ≡ length (text_lines bytes) + one_more b
line_count_more [] b = alone (b == 10)
  where
    alone : (is : Bool) → length (if is then (10 ∷ []) ∷ [] ∷ [] else onto_first b ([] ∷ [])) ≡ 1 + (if is then 1 else 0)
    alone true = refl
    alone false = refl
line_count_more (a ∷ bytes) b =
    more_first a (one_more b) (a == 10) (text_lines bytes) (text_lines (bytes ++ b ∷ [])) (some_line bytes) (some_line (bytes ++ b ∷ [])) (line_count_more bytes b)

pub counted : (text : List ℕ) (i : ℕ) → i < length text → length (text_lines (take (i + 1) text)) ≡ length (text_lines (take i text)) + one_more (get_or text i 0)
counted text i below = ap (λ (l : List ℕ). length (text_lines l)) (take_more text i 0 below) ∙ line_count_more (take i text) (get_or text i 0)

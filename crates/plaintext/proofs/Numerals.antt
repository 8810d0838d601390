-- A word is the numeral of a number exactly where it is digits, none of them a leading zero.
use Rattle.std.proofs.Common.{◌≡◌, ℕ, zero, suc, ◌+◌, ◌-◌, ◌*◌, ◌^◌, ◌/◌, ◌%◌, ◌<◌, ◌≤◌, List, [], ◌∷◌, ◌++◌, length, get_or, map, take, refl, sym, ap, ◌∙◌, append_assoc, arith, min}
use Rattle.std.specs.Int.Digits.{digits_of, number_from_digits, AllBelowBase}
use Rattle.std.specs.Str.Parse.{AllDigits, digits_value, digits_value_after}
use Rattle.std.specs.Char.{digit_value}
use Rattle.std.proofs.lemmas.Int.Digits.{digits_of_step, all_below_base_digits_of, first_digits_of, number_digits_of, digits_value_is, digits_more, digits_value_more}
use Rattle.std.proofs.lemmas.Str.Parse.{digit_from_value}
use Rattle.std.proofs.lemmas.Str.{digit_value_digit}
use Rattle.std.proofs.lemmas.List.{map_push, append-nil, length-map}
use Rattle.std.proofs.lemmas.Fmt.{decimal-digits_of, decimal_digit}
use Rattle.std.specs.Fmt.{decimal}
use Rattle.plaintext.specs.Plain.{numeral, IsPlain}

-- what a digit's glyph stands for
glyph_value : (d : ℕ) → d < 10 → digit_value (48 + d) ≡ d
glyph_value d h = omega (arith, digit_value_digit (48 + d) (omega arith, omega arith))

glyphs_AllDigits : (ds : List ℕ) → AllBelowBase 10 ds → AllDigits 10 (map (λ d. 48 + d) ds)
glyphs_AllDigits [] h = tt
glyphs_AllDigits (d ∷ ds) h = (omega (arith, glyph_value d h.0), glyphs_AllDigits ds h.1)

values_glyphs : (ds : List ℕ) → AllBelowBase 10 ds → map digit_value (map (λ d. 48 + d) ds) ≡ ds
values_glyphs [] h = refl
values_glyphs (d ∷ ds) h =
    let e1 : digit_value (48 + d) ≡ d = glyph_value d h.0 in
    let e2 : map digit_value (map (λ x. 48 + x) ds) ≡ ds = values_glyphs ds h.1 in
    rw (e1, e2) refl

pub AllDigits-numeral : (n : ℕ) → AllDigits 10 (numeral n)
unfolding numeral
AllDigits-numeral zero = (omega arith, tt)
AllDigits-numeral (suc n) = glyphs_AllDigits (digits_of 10 (suc n)) (all_below_base_digits_of 10 (suc n) (omega arith))

pub digits_value-numeral : (n : ℕ) → digits_value 10 (numeral n) ≡ n
unfolding numeral
digits_value-numeral zero = refl
digits_value-numeral (suc n) =
    digits_value_is 10 (map (λ d. 48 + d) (digits_of 10 (suc n)))
    ∙ ap (number_from_digits 10) (values_glyphs (digits_of 10 (suc n)) (all_below_base_digits_of 10 (suc n) (omega arith)))
    ∙ number_digits_of 10 (suc n) (omega arith)

pub numeral_injective : (m n : ℕ) → numeral m ≡ numeral n → m ≡ n
numeral_injective m n e = sym (digits_value-numeral m) ∙ ap (digits_value 10) e ∙ digits_value-numeral n

-- the first digit, and that there is one

first_glyph : (ds : List ℕ) → 0 < get_or ds 0 0 → (0 < length ds) × (48 < get_or (map (λ d. 48 + d) ds) 0 0) × (length (map (λ d. 48 + d) ds) ≡ length ds)
first_glyph [] h = absurd (omega arith)
first_glyph (d ∷ ds) h = (omega arith, omega arith, simp length-map)

pub numeral_nonempty : (n : ℕ) → 0 < length (numeral n)
unfolding numeral
numeral_nonempty zero = omega arith
numeral_nonempty (suc n) = let f = first_glyph (digits_of 10 (suc n)) (first_digits_of 10 (suc n) (omega arith) (omega arith)) in omega (arith, f.0, f.2)

pub numeral_first : (n : ℕ) → get_or (numeral n) 0 0 ≡ 48 → length (numeral n) ≡ 1
unfolding numeral
numeral_first zero e = refl
numeral_first (suc n) e = let f = first_glyph (digits_of 10 (suc n)) (first_digits_of 10 (suc n) (omega arith) (omega arith)) in absurd (omega (arith, f.1, e))

-- digits are the numeral of their value

numeral_above : (m : ℕ) → 0 < m → map (λ d. 48 + d) (digits_of 10 m) ≡ numeral m
unfolding numeral
numeral_above zero h = absurd (omega arith)
numeral_above (suc m) h = refl

numeral_step : (n : ℕ) → 10 ≤ n → numeral n ≡ numeral (n / 10) ++ (48 + n % 10) ∷ []
unfolding numeral
numeral_step zero h = absurd (omega arith)
numeral_step (suc n) h =
    let step : digits_of 10 (suc n) ≡ digits_of 10 (suc n / 10) ++ (suc n % 10 ∷ []) = digits_of_step 10 (suc n) (omega arith) (omega arith) in
    let front : map (λ d. 48 + d) (digits_of 10 (suc n / 10)) ≡ numeral (suc n / 10) = numeral_above (suc n / 10) (omega arith) in
    ap (map (λ d. 48 + d)) step ∙ map_push (λ d. 48 + d) (digits_of 10 (suc n / 10)) (suc n % 10) ∙ ap (λ (x : List ℕ). x ++ (48 + suc n % 10) ∷ []) front

numeral_value_after : (n : ℕ) (ds : List ℕ) → 0 < n → AllDigits 10 ds → numeral (digits_value_after 10 n ds) ≡ numeral n ++ ds
numeral_value_after n [] some d = sym (append-nil (numeral n))
numeral_value_after n (c ∷ cs) some d =
    let m : ℕ = n * 10 + digit_value c in
    let k = digit_value_digit c (digit_from_value c d.0) in
    let front : m / 10 ≡ n = omega (arith, d.0) in
    let end : 48 + m % 10 ≡ c = omega (arith, d.0) in
    numeral_value_after m cs (omega arith) d.1
    ∙ ap (λ x. x ++ cs) (numeral_step m (omega arith) ∙ (λ i. numeral (front i) ++ (end i ∷ [])))
    ∙ append_assoc (numeral n) (c ∷ []) cs

numeral_digit : (n : ℕ) → n < 10 → numeral n ≡ (48 + n) ∷ []
unfolding numeral
numeral_digit zero h = refl
numeral_digit (suc n) h =
    let step : digits_of 10 (suc n) ≡ digits_of 10 (suc n / 10) ++ (suc n % 10 ∷ []) = digits_of_step 10 (suc n) (omega arith) (omega arith) in
    let none : suc n / 10 ≡ 0 = omega arith in
    let last : suc n % 10 ≡ suc n = omega arith in
    ap (map (λ d. 48 + d)) (step ∙ ap (λ (k : ℕ). digits_of 10 k ++ (suc n % 10 ∷ [])) none ∙ ap (λ (k : ℕ). k ∷ []) last)

pub numeral-digits_value : (ds : List ℕ) → AllDigits 10 ds → 0 < length ds → (get_or ds 0 0 ≡ 48 → length ds ≡ 1) → numeral (digits_value 10 ds) ≡ ds
numeral-digits_value [] d some lead = absurd (omega arith)
numeral-digits_value (c ∷ []) d some lead =
    let k = digit_value_digit c (digit_from_value c d.0) in
    numeral_digit (0 * 10 + digit_value c) (omega (arith, d.0)) ∙ ap (λ x. x ∷ []) (omega arith)
numeral-digits_value (c ∷ e ∷ cs) d some lead =
    let k = digit_value_digit c (digit_from_value c d.0) in
    let nonzero : c ≡ 48 → ⊥ = λ z. omega (arith, lead z) in
    let is : 48 + (0 * 10 + digit_value c) ≡ c = omega arith in
    numeral_value_after (0 * 10 + digit_value c) (e ∷ cs) (omega arith) d.1
    ∙ ap (λ x. x ++ (e ∷ cs)) (numeral_digit (0 * 10 + digit_value c) (omega (arith, d.0)) ∙ ap (λ x. x ∷ []) is)

digits_plain : (ds : List ℕ) → AllDigits 10 ds → IsPlain ds
digits_plain [] h = tt
digits_plain (c ∷ cs) h = ((omega (arith, digit_from_value c h.0), omega (arith, digit_from_value c h.0)), digits_plain cs h.1)

pub IsPlain-numeral : (n : ℕ) → IsPlain (numeral n)
IsPlain-numeral n = digits_plain (numeral n) (AllDigits-numeral n)

-- a digit that isn't one, in a word
pub AllDigits_at : (ds : List ℕ) (i : ℕ) → AllDigits 10 ds → i < length ds → digit_value (get_or ds i 0) < 10
AllDigits_at [] i d h = absurd (omega arith)
AllDigits_at (c ∷ cs) zero d h = d.0
AllDigits_at (c ∷ cs) (suc i) d h = AllDigits_at cs i d.1 (omega arith)

-- what a digit more does to a number that is told up to a limit
pub more_digits : (ws : List ℕ) (i value m : ℕ) → i < length ws → AllDigits 10 (take i ws) → value ≡ min (digits_value 10 (take i ws)) m → 48 ≤ get_or ws i 0 → get_or ws i 0 ≤ 57
    → AllDigits 10 (take (i + 1) ws) × (min (value * 10 + (get_or ws i 0 - 48)) m ≡ min (digits_value 10 (take (i + 1) ws)) m)
more_digits ws i value m lt digits is low high =
    let k = digit_value_digit (get_or ws i 0) (low, high) in
    let more = digits_value_more 10 ws i lt in
    (digits_more 10 ws i lt digits (omega arith), omega (arith, more, is, k))

pub zero_word : (w : List ℕ) → length w ≤ 1 → get_or w 0 0 ≡ 48 → numeral 0 ≡ w
unfolding numeral
zero_word [] h e = absurd (omega arith)
zero_word (c ∷ []) h e = ap (λ (x : ℕ). x ∷ []) (sym e)
zero_word (c ∷ d ∷ ds) h e = absurd (omega arith)

-- what a loop over all digits has read
pub all_digits : (w : List ℕ) (value m : ℕ) → AllDigits 10 w → value ≡ min (digits_value 10 w) m → 0 < length w → (get_or w 0 0 ≡ 48 → length w ≡ 1) → (n : ℕ) × (numeral n ≡ w) × (value ≡ min n m)
all_digits w value m digits is some lead = (digits_value 10 w, numeral-digits_value w digits some lead, is)

-- std's digits are these
pub decimal-numeral : (n : ℕ) → n < 2 ^ 64 → decimal n ≡ numeral n
unfolding numeral
decimal-numeral zero h = decimal_digit 0 (omega arith)
decimal-numeral (suc n) h = decimal-digits_of (suc n) (omega arith) h

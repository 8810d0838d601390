-- Letters and digits, one after another.
use Rattle.std.proofs.Common.{◌≡◌, ℕ, zero, suc, ◌+◌, ◌<◌, Bool, true, false, List, [], ◌∷◌, ◌++◌, length, get_or, take, refl, ap, subst, sym, arith}
use Rattle.std.specs.Prelude.{◌&&◌}
use Rattle.std.proofs.lemmas.List.{take_more}
use Rattle.calltext.specs.Names.{is_letter_or_digit, are_letters_or_digits}
use Rattle.calltext.proofs.Conjunctions.{and_true, and_both, and_false}

letters_push : (xs : List ℕ) (x : ℕ) → are_letters_or_digits xs ≡ true → is_letter_or_digit x ≡ true → are_letters_or_digits (xs ++ x ∷ []) ≡ true
letters_push [] x e h = and_both (is_letter_or_digit x) true h refl
letters_push (y ∷ xs) x e h =
    let both = and_true (is_letter_or_digit y) (are_letters_or_digits xs) e in
    and_both (is_letter_or_digit y) (are_letters_or_digits (xs ++ x ∷ [])) both.0 (letters_push xs x both.1 h)

-- one more
pub letters_more : (xs : List ℕ) (i : ℕ) → i < length xs → are_letters_or_digits (take i xs) ≡ true → is_letter_or_digit (get_or xs i 0) ≡ true → are_letters_or_digits (take (i + 1) xs) ≡ true
letters_more xs i lt e h = subst (λ (ys : List ℕ). are_letters_or_digits ys ≡ true) (sym (take_more xs i 0 lt)) (letters_push (take i xs) (get_or xs i 0) e h)

-- one that is neither
pub letters_false : (xs : List ℕ) (i : ℕ) → i < length xs → is_letter_or_digit (get_or xs i 0) ≡ false → are_letters_or_digits xs ≡ false
letters_false [] i lt h = absurd (omega arith)
letters_false (x ∷ xs) zero lt h = ap (λ (t : Bool). t && are_letters_or_digits xs) h
letters_false (x ∷ xs) (suc i) lt h = and_false (is_letter_or_digit x) (are_letters_or_digits xs) (letters_false xs i (omega arith) h)

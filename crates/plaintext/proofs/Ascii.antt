-- The bytes of lines of plain words are ASCII.
use Rattle.std.proofs.Common.{◌≡◌, ℕ, zero, suc, ◌-◌, ◌<◌, ◌≤◌, Bool, true, false, List, [], ◌∷◌, ◌++◌, length, get_or, refl, subst, arith, inl, inr}
use Rattle.std.specs.Prelude.{nat_le, nat_lt, ◌&&◌}
use Rattle.std.specs.Str.{IsAscii, IsNotAscii}
use Rattle.std.specs.List.{AllByRecursion, list_all, join_with_byte}
use Rattle.std.proofs.lemmas.Bool.{cases_lt}
use Rattle.std.proofs.lemmas.List.{get_or_append_left, get_or-append_right}
use Rattle.plaintext.specs.Plain.{line_of, IsPlain}

and_true : (a b : Bool) → (a && b) ≡ true → (a ≡ true) × (b ≡ true)
and_true true true e = (refl, refl)
and_true true false e = absurd cc
and_true false b e = absurd cc

-- a test that a given word is plain, as `plain_by_test (codes "send") refl`
pub plain_by_test : (word : List ℕ) → list_all (λ b. nat_le 33 b && nat_lt b 128) word ≡ true → IsPlain word
plain_by_test [] e = tt
plain_by_test (b ∷ word) e =
    let x = and_true (nat_le 33 b && nat_lt b 128) (list_all (λ b. nat_le 33 b && nat_lt b 128) word) e in
    let y = and_true (nat_le 33 b) (nat_lt b 128) x.0 in
    ((grind (arith, y.0), grind (arith, y.1)), plain_by_test word x.1)

-- what holds of each of two lists' elements holds of each element of both together
pub all_append : {A : Type 0} (P : A → Type 0) (xs ys : List A) → AllByRecursion P xs → AllByRecursion P ys → AllByRecursion P (xs ++ ys)
all_append P [] ys p q = q
all_append P (x ∷ xs) ys p q = (p.0, all_append P xs ys p.1 q)

-- each byte is below 128
abbrev pub AllAscii : List ℕ → Type 0
AllAscii bytes = AllByRecursion (λ b. b < 128) bytes

ascii_word : (word : List ℕ) → IsPlain word → AllAscii word
ascii_word [] p = tt
ascii_word (b ∷ word) p = (p.0.1, ascii_word word p.1)

ascii_join : (words : List (List ℕ)) → AllByRecursion IsPlain words → AllAscii (join_with_byte 32 words)
ascii_join [] p = tt
ascii_join (w ∷ []) p = ascii_word w p.0
ascii_join (w ∷ v ∷ words) p = all_append (λ (b : ℕ). b < 128) w (32 ∷ join_with_byte 32 (v ∷ words)) (ascii_word w p.0) (omega arith, ascii_join (v ∷ words) p.1)

-- the line of plain words
pub ascii_words : (words : List (List ℕ)) → AllByRecursion IsPlain words → AllAscii (line_of words)
ascii_words words p = all_append (λ (b : ℕ). b < 128) (join_with_byte 32 words) (10 ∷ []) (ascii_join words p) (omega arith, tt)

ascii_mid : (before : List (List ℕ)) (line : List ℕ) (more : List (List ℕ)) → AllByRecursion AllAscii ((before ++ line ∷ []) ++ more) → AllAscii line
ascii_mid [] line more p = p.0
ascii_mid (b ∷ before) line more p = ascii_mid before line more p.1

ascii_no : (line : List ℕ) (i : ℕ) → AllAscii line → 128 ≤ get_or line i 0 → ⊥
ascii_no [] i p le = omega arith
ascii_no (b ∷ line) zero p le = omega (arith, p.0)
ascii_no (b ∷ line) (suc i) p le = ascii_no line i p.1 le

-- no line among ASCII lines has a byte of 128 or more
pub ascii_among : (lines before : List (List ℕ)) (line : List ℕ) (more : List (List ℕ)) → AllByRecursion AllAscii lines → lines ≡ (before ++ line ∷ []) ++ more → IsNotAscii line → ⊥
ascii_among lines before line more p e (i, high) = ascii_no line i (ascii_mid before line more (subst (AllByRecursion AllAscii) e p)) high

-- an LF after ASCII bytes leaves them ASCII
pub ascii_line : (line : List ℕ) → IsAscii line → IsAscii (line ++ 10 ∷ [])
ascii_line line h i =
    elim (cases_lt i (length line)) [
      | inl lt ↦ rw (get_or_append_left line (10 ∷ []) 0 i lt) (h i)
      | inr le ↦ rw (get_or-append_right line (10 ∷ []) (length line) i 0 refl le) (last (i - length line))
    ]
  where
    last : (k : ℕ) → get_or (10 ∷ []) k 0 < 128
    last zero = omega arith
    last (suc k) = omega arith

-- no bytes are ASCII and not ASCII
pub ascii_clash : (line : List ℕ) → IsNotAscii line → IsAscii line → ⊥
ascii_clash line (i, high) low = omega (arith, low i)

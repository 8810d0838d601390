-- Parts of a text that are added one after another.
use Rattle.std.proofs.Common.{◌≡◌, ℕ, List, ◌++◌, refl, append_assoc}

pub seven_parts : (old a b c d e f g one two three four five six seven : List ℕ) → one ≡ old ++ a → two ≡ one ++ b → three ≡ two ++ c → four ≡ three ++ d → five ≡ four ++ e → six ≡ five ++ f → seven ≡ six ++ g → seven ≡ old ++ (a ++ (b ++ (c ++ (d ++ (e ++ (f ++ g))))))
seven_parts old a b c d e f g one two three four five six seven p q r s t u v = simp (append_assoc, v, u, t, s, r, q, p) refl

pub four_parts : (old a b c d one two three four : List ℕ) → one ≡ old ++ a → two ≡ one ++ b → three ≡ two ++ c → four ≡ three ++ d → four ≡ old ++ (a ++ (b ++ (c ++ d)))
four_parts old a b c d one two three four p q r s = simp (append_assoc, s, r, q, p) refl

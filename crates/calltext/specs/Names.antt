-- The names of requests and of handles.
use Rattle.std.specs.Prelude.{ℕ, ◌≤◌, Bool, true, false, ◌&&◌, ◌||◌, nat_le, IsTrue, List, [], ◌∷◌, length}
use Rattle.std.specs.List.{AllByRecursion}

-- a to z
abbrev pub is_letter : ℕ → Bool
is_letter c = nat_le 97 c && nat_le c 122

-- a to z or 0 to 9
abbrev pub is_letter_or_digit : ℕ → Bool
is_letter_or_digit c = is_letter c || (nat_le 48 c && nat_le c 57)

abbrev pub are_letters_or_digits : List ℕ → Bool
are_letters_or_digits [] = true
are_letters_or_digits (c ∷ others) = is_letter_or_digit c && are_letters_or_digits others

-- one letter, and then up to 15 letters and digits
abbrev pub is_name : List ℕ → Bool
is_name [] = false
is_name (first ∷ others) = is_letter first && are_letters_or_digits others && nat_le (length others) 15

-- one name or more
abbrev pub AreNames : List (List ℕ) → Type 0
AreNames names = (1 ≤ length names) × AllByRecursion (λ name. IsTrue (is_name name)) names

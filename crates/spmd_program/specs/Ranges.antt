-- A number of ranks, or the first and the last of several.
use Rattle.std.specs.Prelude.{◌≡◌, ◌⊎◌, ◌≤◌, ◌==◌, ℕ, Bool, false, true, List, ◌∷◌, length, nat_lt}
use Rattle.std.specs.List.{after_first, before_first, position_or_len}
use Rattle.std.specs.Str.Parse.{IsNumeral, digits_value, without_leading_plus}

-- the text spells this number of ranks, 1 to 2,147,483,647, in decimal digits, a plus before which
-- doesn't count
pub record IsRankCount (text : List ℕ) (ranks : ℕ) : Type 0 where
  pub digits : IsNumeral 10 (without_leading_plus text)
  pub spelled : ranks ≡ digits_value 10 (without_leading_plus text)
  pub some : 1 ≤ ranks
  pub few : ranks ≤ 2147483647

abbrev pub is_dot : ℕ → Bool
is_dot b = b == 46

abbrev pub has_dot : List ℕ → Bool
has_dot text = nat_lt (position_or_len is_dot text) (length text)

-- the one text spells the first number, and the other, behind a dot, the last, which is as large at
-- least
pub record AreRangeEnds (before behind : List ℕ) (first last : ℕ) : Type 0 where
  pub number : List ℕ
  pub dot : behind ≡ 46 ∷ number
  pub is_first : IsRankCount before first
  pub is_last : IsRankCount number last
  pub rises : first ≤ last

-- the text is a number of ranks, as `4`, or the first and the last with two dots between, as
-- `2..16`
abbrev pub IsRange : List ℕ → ℕ → ℕ → Type 0
IsRange text first last =
    ((has_dot text ≡ false) × IsRankCount text first × (last ≡ first))
    ⊎ ((has_dot text ≡ true) × AreRangeEnds (before_first is_dot text) (after_first is_dot text) first last)

-- The parts of a setting.
use Rattle.std.proofs.Common.{◌≡◌, ◌<◌, ℕ, true, false, List, length, Option, Some, None, arith}
use Rattle.std.specs.Prelude.{IfNone, IfSome, MatchOption}
use Rattle.std.specs.Borrow.{Bor}
use Rattle.std.specs.List.{after_first, before_first, position_or_len}
use Rattle.std.proofs.lemmas.Bool.{le-ltb, lt-ltb}
use Rattle.spmd_program.specs.Settings.{has_equals, is_equals, name_in_setting, value_in}

abbrev pub AreAround : List ℕ → Option (Bor (List ℕ) × Bor (List ℕ)) → Type 0
AreAround word r =
    MatchOption r (position_or_len is_equals word ≡ length word)
    (λ x. (position_or_len is_equals word < length word) × (x.0.now ≡ before_first is_equals word) × (x.1.now ≡ after_first is_equals word))

pub no_parts : (word : List ℕ) (r : Option (Bor (List ℕ) × Bor (List ℕ))) → AreAround word r → IfNone r (has_equals word ≡ false)
no_parts word None e = le-ltb (position_or_len is_equals word) (length word) (omega (arith, e))
no_parts word (Some x) e = tt

pub parts : (word : List ℕ) (r : Option (Bor (List ℕ) × Bor (List ℕ))) → AreAround word r
    → IfSome r (λ x. (has_equals word ≡ true) × (x.0.now ≡ name_in_setting word) × (x.1.now ≡ value_in word))
parts word None e = tt
parts word (Some x) (lt, name, value) = (lt-ltb (position_or_len is_equals word) (length word) lt, name, value)

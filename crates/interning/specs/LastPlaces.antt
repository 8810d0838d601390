-- The last place below another that passes a test.
use Rattle.std.specs.Prelude.{ℕ, zero, suc, Bool, false, ◌==◌, if◌then◌else◌, Option, Some, None}

-- the last place below n that passes the test
unfoldable pub last_below : (ℕ → Bool) → ℕ → Option ℕ
last_below test zero = None
last_below test (suc n) = if test n then Some n else last_below test n

-- this one is held
abbrev pub holds : Option ℕ → ℕ → Bool
holds None number = false
holds (Some held) number = held == number

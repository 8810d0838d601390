-- The order of the reasons for which workers leave, and their words.
use Rattle.std.specs.Prelude.{◌≡◌, ◌≤◌, nat_le, ℕ, codes, List, Option, Some, None, All, Contains, [], if◌then◌else◌}
use Rattle.pool.specs.declared.why.Why.{Why}
use Rattle.pool.specs.declared.why.Why.TheVariants.{Budget, Full, Memory, Left}

-- the order of the reasons
abbrev pub why_number : Why → ℕ
why_number Budget = 1
why_number Full = 2
why_number Memory = 3
why_number Left = 4

-- the word by which a reason is told
abbrev pub why_word : Why → List ℕ
why_word Budget = codes "budget"
why_word Full = codes "full"
why_word Memory = codes "memory"
why_word Left = codes "left"

-- the smallest of the reasons, where there are any
abbrev pub IsSmallest : List Why → Option Why → Type 0
IsSmallest reasons None = reasons ≡ []
IsSmallest reasons (Some why) = Contains reasons why × All (λ other. why_number why ≤ why_number other) reasons

-- of two reasons the one with the smaller number
abbrev pub smaller_of : Why → Why → Why
smaller_of one other = if nat_le (why_number one) (why_number other) then one else other

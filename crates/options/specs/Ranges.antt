-- The ranges of a search's options.
use Rattle.std.specs.Prelude.{◌≡◌, ℕ, ◌≤◌}

-- the numbers of a search's options: workers, depth of the first tree, and conflicts for each
-- worker
abbrev pub AreInRange : ℕ → ℕ → ℕ → Type 0
AreInRange workers depth budget = (1 ≤ workers) × (workers ≤ 64) × (depth ≤ 15) × (budget ≤ 1000000000)

-- the numbers of a search for which none are given
abbrev pub AreUsual : ℕ → ℕ → ℕ → Type 0
AreUsual workers depth budget = (workers ≡ 4) × (depth ≡ 4) × (budget ≡ 1000000)

-- the number of pieces in which lines are checked
abbrev pub IsPieces : ℕ → Type 0
IsPieces pieces = (1 ≤ pieces) × (pieces ≤ 64)

-- Cycles of ranks that wait for one another. A graph is a list of the ranks that each rank waits
-- for, by rank.
use Rattle.std.specs.Prelude.{ℕ, List, [], ◌∷◌, Option, Some, None, slice_get, Contains}
use Rattle.std.specs.List.{slice_index_or}
use Rattle.std.specs.Global.{Vec}

abbrev pub ranks_in : Option (Vec ℕ) → List ℕ
ranks_in None = []
ranks_in (Some ranks) = ranks.items

-- the ranks that a rank waits for
abbrev pub awaited_by : List (Vec ℕ) → ℕ → List ℕ
awaited_by edges rank = ranks_in (slice_get edges rank)

-- the first rank waits for the second
abbrev pub HasEdge : List (Vec ℕ) → ℕ → ℕ → Type 0
HasEdge edges from to = Contains (awaited_by edges from) to

-- each of the ranks waits for the next one, and the last for rank `to`
abbrev pub LeadTo : List (Vec ℕ) → List ℕ → ℕ → Type 0
LeadTo edges [] to = Unit {0}
LeadTo edges (rank ∷ others) to = HasEdge edges rank (slice_index_or others 0 to) × LeadTo edges others to

-- there is a rank, each waits for the next one, and the last for the first
abbrev pub IsCycle : List (Vec ℕ) → List ℕ → Type 0
IsCycle edges [] = ⊥
IsCycle edges (rank ∷ others) = LeadTo edges (rank ∷ others) rank

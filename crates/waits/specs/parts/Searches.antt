-- A search for a cycle: a path of ranks, each of which waits for the next one, what is known of
-- each rank, and how many of the ranks that it waits for were looked at.
use Rattle.std.specs.Prelude.{◌≡◌, ◌≢◌, ℕ, suc, ◌<◌, ◌≤◌, List, length, slice_index, slice_index_or, Contains}
use Rattle.std.specs.List.{AllPairs, sum_by}
use Rattle.std.specs.Global.{Vec}
use Rattle.waits.specs.declared.cycles.Mark.{Mark}
use Rattle.waits.specs.declared.cycles.Mark.TheVariants.{New, OnPath, Off}
use Rattle.waits.specs.Cycles.{awaited_by, HasEdge, IsCycle}

-- what is known of a rank; one that the graph lacks is on no cycle
abbrev pub mark_at : List Mark → ℕ → Mark
mark_at marks rank = slice_index_or marks rank Off

abbrev pub weight_of : Mark → ℕ
weight_of New = 2
weight_of OnPath = 1
weight_of Off = 0

-- a number that falls with each step
abbrev pub weight : List Mark → ℕ
weight marks = sum_by weight_of marks

-- the ranks that a rank waits for, from one place to another, are on no cycle
abbrev pub AreOff : List (Vec ℕ) → List Mark → ℕ → ℕ → ℕ → Type 0
AreOff edges marks rank low high =
    (k d : ℕ) → low ≤ k → k < high → k < length (awaited_by edges rank) → mark_at marks (slice_index_or (awaited_by edges rank) k d) ≡ Off

-- the first rank, from a place on, that a rank waits for and that may be on a cycle
pub record LeadsOn (edges : List (Vec ℕ)) (marks : List Mark) (rank low place next : ℕ) : Type 0 where
  pub edge : HasEdge edges rank next
  pub may_be : mark_at marks next ≢ Off
  pub before : AreOff edges marks rank low place

-- the last rank of a path, if there is one, waits for this one
abbrev pub LastLeadsTo : List (Vec ℕ) → List ℕ → ℕ → Type 0
LastLeadsTo edges path next = (k : ℕ) → suc k ≡ length path → HasEdge edges (slice_index path k) next

-- What a search keeps: no rank is twice on the path, the ranks on it are marked so and no others,
-- and those that are marked as on no cycle are on none.
pub record IsSearch (edges : List (Vec ℕ)) (path : List ℕ) (marks : List Mark) (looked : List ℕ) : Type 0 where
  pub marked : length marks ≡ length edges
  pub counted : length looked ≡ length edges
  pub leads : (k : ℕ) → suc k < length path → HasEdge edges (slice_index path k) (slice_index path (suc k))
  pub once : AllPairs (λ one other. one ≢ other) path
  pub on : (rank : ℕ) → mark_at marks rank ≡ OnPath → Contains path rank
  pub here : (rank : ℕ) → Contains path rank → mark_at marks rank ≡ OnPath
  pub off : (ranks : List ℕ) → IsCycle edges ranks → (k : ℕ) → k < length ranks → mark_at marks (slice_index ranks k) ≢ Off
  pub past : (rank : ℕ) → AreOff edges marks rank 0 (slice_index looked rank)

-- a rank that was met isn't new again
abbrev pub AreMet : List Mark → List Mark → Type 0
AreMet old new = (rank : ℕ) → mark_at old rank ≢ New → mark_at new rank ≢ New

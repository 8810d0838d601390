-- Cycles: which ranks are on one, and where a path closes one.
use Rattle.std.proofs.Common.{◌≡◌, ℕ, zero, suc, ◌<◌, inl, inr, List, [], ◌∷◌, Option, Some, None, length, get_or, drop, refl, sym, subst, ◌≢◌, arith}
use Rattle.std.proofs.lemmas.Bool.{cases_lt}
use Rattle.std.proofs.lemmas.List.{get_or_default, get_or_past}
use Rattle.std.specs.Global.{Vec}
use Rattle.std.specs.List.{AllPairs}
use Rattle.std.specs.Prelude.{slice_get, Contains}
use Rattle.std.proofs.lemmas.Option.{slice_get_past}
use Rattle.waits.specs.Cycles.{ranks_in, HasEdge, LeadTo, IsCycle}

-- ---- the ranks of a cycle

-- each rank of a path waits for the next one, the last for `to`
LeadTo-at : (edges : List (Vec ℕ)) (xs : List ℕ) (to k : ℕ) → LeadTo edges xs to → k < length xs → HasEdge edges (get_or xs k 0) (get_or xs (suc k) to)
LeadTo-at edges [] to k leads within = absurd (omega arith)
LeadTo-at edges (x ∷ xs) to zero leads within = leads.0
LeadTo-at edges (x ∷ xs) to (suc k) leads within = LeadTo-at edges xs to k leads.1 (omega arith)

-- each rank of a cycle waits for one of its ranks
pub next_on : (edges : List (Vec ℕ)) (xs : List ℕ) → IsCycle edges xs → (k : ℕ) → k < length xs → (j : ℕ) × (j < length xs) × HasEdge edges (get_or xs k 0) (get_or xs j 0)
next_on edges [] cycle k within = absurd cycle
next_on edges (x ∷ xs) cycle k within =
    let edge : HasEdge edges (get_or (x ∷ xs) k 0) (get_or (x ∷ xs) (suc k) x) = LeadTo-at edges (x ∷ xs) x k cycle within in
    elim (cases_lt (suc k) (length (x ∷ xs))) [
      | inl more ↦ (suc k, more, subst (λ (q : ℕ). HasEdge edges (get_or (x ∷ xs) k 0) q) (get_or_default (x ∷ xs) (suc k) x 0 more) edge)
      | inr last ↦ (0, omega arith, subst (λ (q : ℕ). HasEdge edges (get_or (x ∷ xs) k 0) q) (get_or_past (x ∷ xs) (suc k) x last) edge)
    ]

none_awaited : (o : Option (Vec ℕ)) (to : ℕ) → o ≡ None → Contains (ranks_in o) to → ⊥
none_awaited None to none there = absurd (omega (arith, there.1))
none_awaited (Some ranks) to none there = absurd (cc)

-- a rank that waits is one of the graph
pub edge_within : (edges : List (Vec ℕ)) (from to : ℕ) → HasEdge edges from to → from < length edges
edge_within edges from to edge =
    elim (cases_lt from (length edges)) [
      | inl within ↦ within
      | inr past ↦ absurd (none_awaited (slice_get edges from) to (slice_get_past edges from past) edge)
    ]

-- ---- paths

-- a path whose last rank waits for another one leads to it
pub path_leads : (edges : List (Vec ℕ)) (xs : List ℕ) (to : ℕ) → ((k : ℕ) → suc k < length xs → HasEdge edges (get_or xs k 0) (get_or xs (suc k) 0)) → ((k : ℕ) → suc k ≡ length xs → HasEdge edges (get_or xs k 0) to) → LeadTo edges xs to
path_leads edges [] to leads last = tt
path_leads edges (x ∷ []) to leads last = (last 0 refl, tt)
path_leads edges (x ∷ y ∷ ys) to leads last =
    (leads 0 (omega arith), path_leads edges (y ∷ ys) to (λ k within. leads (suc k) (omega arith)) (λ k here. last (suc k) (omega (arith, here))))

-- from where a path comes back to, it is a cycle
pub cycle_from : (edges : List (Vec ℕ)) (xs : List ℕ) (to k : ℕ) → LeadTo edges xs to → k < length xs → get_or xs k 0 ≡ to → IsCycle edges (drop k xs)
cycle_from edges [] to k leads within again = absurd (omega arith)
cycle_from edges (x ∷ xs) to zero leads within again = subst (λ (z : ℕ). LeadTo edges (x ∷ xs) z) (sym again) leads
cycle_from edges (x ∷ xs) to (suc k) leads within again = cycle_from edges xs to k leads.1 (omega arith) again

-- the end of a path that has none twice has none twice
pub once-drop : (path : List ℕ) (k : ℕ) → AllPairs (λ (one other : ℕ). one ≢ other) path → AllPairs (λ (one other : ℕ). one ≢ other) (drop k path)
once-drop path zero once = once
once-drop [] (suc k) once = once
once-drop (x ∷ path) (suc k) once = once-drop path k (λ i j d before within. once (suc i) (suc j) d (omega arith) (omega arith))

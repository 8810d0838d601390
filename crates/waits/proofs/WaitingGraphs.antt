-- The graph of the ranks that each rank waits for, rank by rank.
use Rattle.std.proofs.Common.{◌≡◌, ℕ, zero, suc, ◌+◌, ◌<◌, inl, inr, List, [], ◌∷◌, ◌++◌, Option, Some, length, get_or, slice_get, refl, sym, ◌∙◌, ap, subst, ◌↔◌, arith}
use Rattle.std.specs.Prelude.{Contains}
use Rattle.std.specs.List.{AllPairs}
use Rattle.std.specs.Global.{Vec}
use Rattle.std.proofs.lemmas.Bool.{cases_eq, cases_lt}
use Rattle.std.proofs.lemmas.List.{length_push}
use Rattle.std.proofs.lemmas.List.Elements.{Contains-get_or}
use Rattle.calltext.specs.declared.limits.Limits.{Limits}
use Rattle.callorder.specs.ProgramRules.{IsProgramWithin}
use Rattle.callorder.specs.Programs.{MpiProgram, call_at}
use Rattle.semantics.specs.Machine.{Configuration}
use Rattle.waits.specs.Cycles.{ranks_in, awaited_by, HasEdge}
use Rattle.waits.specs.Waiting.{WaitsFor}
use Rattle.waits.proofs.CycleLaws.{edge_within}
use Rattle.waits.proofs.NeededCalls.{own_rank}

kept : (edges : List (Vec ℕ)) (row : Vec ℕ) (from : ℕ) → from < length edges → slice_get (edges ++ row ∷ []) from ≡ slice_get edges from
kept [] row from within = absurd (omega arith)
kept (x ∷ xs) row zero within = refl
kept (x ∷ xs) row (suc from) within = kept xs row from (omega arith)

last : (edges : List (Vec ℕ)) (row : Vec ℕ) → slice_get (edges ++ row ∷ []) (length edges) ≡ Some row
last [] row = refl
last (x ∷ xs) row = last xs row

-- the lists are those of the ranks below this one
pub record HasEdges (p : MpiProgram) (m : Configuration) (below : ℕ) (edges : List (Vec ℕ)) : Type 0 where
  pub many : length edges ≡ below
  pub each : (from to : ℕ) → from < below → HasEdge edges from to ↔ WaitsFor p m from to
  pub rising : (rank : ℕ) → rank < below → AllPairs (λ (one other : ℕ). one < other) (awaited_by edges rank)

pub HasEdges-none : (p : MpiProgram) (m : Configuration) (edges : List (Vec ℕ)) → edges ≡ [] → HasEdges p m 0 edges
HasEdges-none p m edges empty =
    record { many = ap length empty; each = λ from to below. absurd (omega (arith, below)); rising = λ rank below. absurd (omega (arith, below)) }

pub HasEdges-push : (p : MpiProgram) (m : Configuration) (below : ℕ) (old new : List (Vec ℕ)) (row : Vec ℕ) → new ≡ old ++ row ∷ [] → ((to : ℕ) → Contains row.items to ↔ WaitsFor p m below to)
    → AllPairs (λ (one other : ℕ). one < other) row.items → HasEdges p m below old → HasEdges p m (below + 1) new
HasEdges-push p m below old new row grows holds rises has = subst (HasEdges p m (below + 1)) (sym grows) (record {
  many = length_push old row ∙ ap (λ (n : ℕ). n + 1) has.many;
  each = λ from to less. elim (cases_eq from below) [
    | inl here ↦
        subst (λ (n : ℕ). HasEdge (old ++ row ∷ []) n to ↔ WaitsFor p m n to) (sym here)
        (subst (λ (xs : List ℕ). Contains xs to ↔ WaitsFor p m below to) (sym at_end) (holds to))
    | inr differ ↦
        let before : from < below = omega (arith, less, differ) in
        subst (λ (o : Option (Vec ℕ)). Contains (ranks_in o) to ↔ WaitsFor p m from to) (sym (kept old row from (omega (arith, before, has.many)))) (has.each from to before)
  ];
  rising = λ rank less. elim (cases_eq rank below) [
    | inl here ↦
        subst (λ (n : ℕ). AllPairs (λ (one other : ℕ). one < other) (awaited_by (old ++ row ∷ []) n)) (sym here)
        (subst (AllPairs (λ (one other : ℕ). one < other)) (sym at_end) rises)
    | inr differ ↦
        let before : rank < below = omega (arith, less, differ) in
        subst (λ (o : Option (Vec ℕ)). AllPairs (λ (one other : ℕ). one < other) (ranks_in o)) (sym (kept old row rank (omega (arith, before, has.many)))) (has.rising rank before)
  ];
})
  where
    at_end : awaited_by (old ++ row ∷ []) below ≡ row.items
    at_end = ap (λ (n : ℕ). awaited_by (old ++ row ∷ []) n) (sym has.many) ∙ ap ranks_in (last old row)

-- a rank that waits is one of the program
waiter_within : (l : Limits) (p : MpiProgram) (m : Configuration) (from to : ℕ) → IsProgramWithin l p → WaitsFor p m from to → from < p.ranks
waiter_within l p m from to is waits =
    let known = own_rank (call_at p waits.call) from waits.waits.own in
    omega (arith, (is.in_range waits.call known.0 known.1).own, known.2)

pub HasEdges-all : (l : Limits) (p : MpiProgram) (m : Configuration) (below : ℕ) (edges : List (Vec ℕ)) → IsProgramWithin l p → p.ranks ≡ below → HasEdges p m below edges → (from to : ℕ) → HasEdge edges from to ↔ WaitsFor p m from to
HasEdges-all l p m below edges is end has from to = (
  λ edge. (has.each from to (omega (arith, has.many, edge_within edges from to edge))).0 edge,
  λ waits. (has.each from to (omega (arith, end, waiter_within l p m from to is waits))).1 waits,
)

pub HasEdges-rising : (p : MpiProgram) (m : Configuration) (below : ℕ) (edges : List (Vec ℕ)) → HasEdges p m below edges → (rank : ℕ) → AllPairs (λ (one other : ℕ). one < other) (awaited_by edges rank)
HasEdges-rising p m below edges has rank =
    elim (cases_lt rank below) [
      | inl within ↦ has.rising rank within
      | inr past ↦ λ i j d before within. absurd (omega (arith, edge_within edges rank (get_or (awaited_by edges rank) j 0) (Contains-get_or (awaited_by edges rank) j 0 within), has.many, past))
    ]

-- What is told of the end of a run, one after another.
use Rattle.std.proofs.Common.{◌≡◌, ◌≢◌, ℕ, ◌+◌, ◌<◌, inl, inr, List, [], ◌∷◌, ◌++◌, Some, slice_get, sym, subst, arith}
use Rattle.std.specs.List.{AllPairs}
use Rattle.std.specs.Global.{Vec}
use Rattle.std.proofs.lemmas.List.{length_push}
use Rattle.std.proofs.lemmas.Option.{slice_get_within, same_Some}
use Rattle.callorder.specs.Programs.{MpiProgram}
use Rattle.callorder.proofs.Lookups.{slice_get_of_append}
use Rattle.semantics.specs.Machine.{Configuration}
use Rattle.waits.specs.declared.standings.Standing.{Standing}
use Rattle.waits.specs.Cycles.{IsCycle}
use Rattle.waits.specs.Waiting.{Stands}
use Rattle.scene.specs.Ends.{AreStandings, IsCycleOrNone}

one_more : (p : MpiProgram) (m : Configuration) (count rank : ℕ) (standings : List Standing) (standing found : Standing) → AreStandings p m count standings → Stands p m count standing → slice_get (standings ++ standing ∷ []) rank ≡ Some found → Stands p m rank found
one_more p m count rank standings standing found told stands there =
    elim (slice_get_of_append standings (standing ∷ []) rank found there) [
      | inl before ↦ told.each rank found before.0
      | inr last ↦
          let first : last.0 < 1 = slice_get_within (standing ∷ []) last.0 found last.2 in
          let zeroth : last.0 ≡ 0 = omega arith in
          let it : standing ≡ found = same_Some standing found (subst (λ (k : ℕ). slice_get (standing ∷ []) k ≡ Some found) zeroth last.2) in
          let same : count ≡ rank = omega (arith, last.1, told.many, zeroth) in
          subst (λ (k : ℕ). Stands p m k found) same (subst (λ (s : Standing). Stands p m count s) it stands)
    ]

-- one more rank
pub standings_more : (p : MpiProgram) (m : Configuration) (count : ℕ) (standings grown : List Standing) (standing : Standing) → grown ≡ standings ++ standing ∷ [] → Stands p m count standing → AreStandings p m count standings → AreStandings p m (count + 1) grown
standings_more p m count standings grown standing grows stands told =
    subst (λ (l : List Standing). AreStandings p m (count + 1) l) (sym grows) (record {
      many = omega (arith, length_push standings standing, told.many);
      each = λ rank found there. one_more p m count rank standings standing found told stands there;
    })

pub told_cycle : (edges : List (Vec ℕ)) (ranks : List ℕ) → IsCycle edges ranks → AllPairs (λ one other. one ≢ other) ranks → IsCycleOrNone edges ranks
told_cycle edges [] cycle once = absurd cycle
told_cycle edges (rank ∷ others) cycle once = (cycle, once)

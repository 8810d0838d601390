-- Edges that last are among all edges, and so are their cycles.
use Rattle.std.proofs.Common.{◌≡◌, ℕ, ◌+◌, ◌<◌, List, [], ◌∷◌, ◌++◌, length, Option, Some, None, slice_get, inl, inr, sym, ◌∙◌, ap, subst, refl, arith}
use Rattle.std.specs.Prelude.{Contains}
use Rattle.std.specs.Global.{Vec}
use Rattle.std.proofs.lemmas.Option.{slice_get_within, same_Some}
use Rattle.callorder.proofs.Lookups.{slice_get_of_append}
use Rattle.waits.specs.Cycles.{HasEdge, IsCycle, LeadTo, ranks_in}

leads_within : (lasting awaited : List (Vec ℕ)) → ((from to : ℕ) → HasEdge lasting from to → HasEdge awaited from to) → (ranks : List ℕ) (to : ℕ) → LeadTo lasting ranks to → LeadTo awaited ranks to
leads_within lasting awaited within [] to leads = leads
leads_within lasting awaited within (rank ∷ others) to leads = (within rank _ leads.0, leads_within lasting awaited within others to leads.1)

pub cycle_within : (lasting awaited : List (Vec ℕ)) → ((from to : ℕ) → HasEdge lasting from to → HasEdge awaited from to) → (ranks : List ℕ) → IsCycle lasting ranks → IsCycle awaited ranks
cycle_within lasting awaited within [] cycle = cycle
cycle_within lasting awaited within (rank ∷ others) cycle = leads_within lasting awaited within (rank ∷ others) rank cycle

-- one more rank
pub edges_more : (awaited lasting grown : List (Vec ℕ)) (place : ℕ) (own added : Vec ℕ) → slice_get awaited place ≡ Some own → length lasting ≡ place → grown ≡ lasting ++ added ∷ []
    → ((to : ℕ) → Contains added.items to → Contains own.items to) → ((from to : ℕ) → HasEdge lasting from to → HasEdge awaited from to)
    → (from to : ℕ) → HasEdge grown from to → HasEdge awaited from to
edges_more awaited lasting grown place own added there size grows fewer within from to has = go (slice_get grown from) refl has
  where
    go : (o : Option (Vec ℕ)) → slice_get grown from ≡ o → Contains (ranks_in o) to → HasEdge awaited from to
    go None e none = absurd (let low : none.0 < 0 = none.1 in let never : ⊥ = omega (arith, low) in never)
    go (Some ranks) e some =
        elim (slice_get_of_append lasting (added ∷ []) from ranks (subst (λ (l : List (Vec ℕ)). slice_get l from ≡ Some ranks) grows e)) [
          | inl old ↦ within from to (subst (λ (o : Option (Vec ℕ)). Contains (ranks_in o) to) (sym old.0) some)
          | inr last ↦
              let first : last.0 < 1 = slice_get_within (added ∷ []) last.0 ranks last.2 in
              let zeroth : last.0 ≡ 0 = omega (arith, first) in
              let it : added ≡ ranks = same_Some added ranks (subst (λ (k : ℕ). slice_get (added ∷ []) k ≡ Some ranks) zeroth last.2) in
              let same : place ≡ from = omega (arith, last.1, size, zeroth) in
              let held : slice_get awaited from ≡ Some own = subst (λ (k : ℕ). slice_get awaited k ≡ Some own) same there in
              subst (λ (o : Option (Vec ℕ)). Contains (ranks_in o) to) (sym held) (fewer to (subst (λ (v : Vec ℕ). Contains v.items to) (sym it) some))
        ]

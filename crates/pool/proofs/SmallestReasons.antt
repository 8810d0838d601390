-- The smallest reason, with one more.
use Rattle.std.proofs.Common.{◌≡◌, ℕ, ◌+◌, ◌<◌, ◌≤◌, Bool, true, false, List, [], ◌∷◌, ◌++◌, Some, None, length, take, get_or, refl, sym, subst, arith, inl, inr, ◌⊎◌}
use Rattle.std.specs.Prelude.{All, nat_le}
use Rattle.std.proofs.lemmas.List.{take_more}
use Rattle.std.proofs.lemmas.List.Elements.{Contains-push, Contains-append_left, All-push}
use Rattle.pool.specs.declared.why.Why.{Why}
use Rattle.pool.specs.Reasons.{why_number, smaller_of, IsSmallest}

smaller_cases : (one other : Why) → ((smaller_of one other ≡ one) × (why_number one ≤ why_number other)) ⊎ ((smaller_of one other ≡ other) × (why_number other ≤ why_number one))
smaller_cases one other = by_test (nat_le (why_number one) (why_number other)) refl
  where
    by_test : (b : Bool) → nat_le (why_number one) (why_number other) ≡ b → ((smaller_of one other ≡ one) × (why_number one ≤ why_number other)) ⊎ ((smaller_of one other ≡ other) × (why_number other ≤ why_number one))
    by_test true e = inl (rw e refl, grind (arith, e))
    by_test false e = inr (rw e refl, grind (arith, e))

weaker : (xs : List Why) (a b : ℕ) → a ≤ b → All (λ other. b ≤ why_number other) xs → All (λ other. a ≤ why_number other) xs
weaker xs a b le all k d within = omega (arith, all k d within, le)

smallest_push : (xs : List Why) (w x : Why) → IsSmallest xs (Some w) → IsSmallest (xs ++ x ∷ []) (Some (smaller_of w x))
smallest_push xs w x (there, all) =
    elim (smaller_cases w x) [
      | inl first ↦ subst (λ (v : Why). IsSmallest (xs ++ x ∷ []) (Some v)) (sym first.0) (Contains-append_left xs (x ∷ []) w there, All-push (λ other. why_number w ≤ why_number other) xs x all first.1)
      | inr second ↦ subst (λ (v : Why). IsSmallest (xs ++ x ∷ []) (Some v)) (sym second.0) (Contains-push xs x, All-push (λ other. why_number x ≤ why_number other) xs x (weaker xs (why_number x) (why_number w) second.1 all) (omega arith))
    ]

smallest_first : (xs : List Why) (x : Why) → IsSmallest xs None → IsSmallest (xs ++ x ∷ []) (Some x)
smallest_first xs x empty =
    subst (λ (l : List Why). IsSmallest (l ++ x ∷ []) (Some x)) (sym empty) (Contains-push [] x, All-push (λ other. why_number x ≤ why_number other) [] x (λ k d within. absurd (omega arith)) (omega arith))

-- one reason more has been looked at
pub smallest_more : (xs : List Why) (i : ℕ) (d w : Why) → i < length xs → IsSmallest (take i xs) (Some w) → IsSmallest (take (i + 1) xs) (Some (smaller_of w (get_or xs i d)))
smallest_more xs i d w within small = rw (take_more xs i d within) (smallest_push (take i xs) w (get_or xs i d) small)

pub smallest_begun : (xs : List Why) (i : ℕ) (d : Why) → i < length xs → IsSmallest (take i xs) None → IsSmallest (take (i + 1) xs) (Some (get_or xs i d))
smallest_begun xs i d within small = rw (take_more xs i d within) (smallest_first (take i xs) (get_or xs i d) small)

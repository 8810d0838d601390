-- What a test of all items of a list says of each.
use Rattle.std.proofs.Common.{◌≡◌, ℕ, zero, suc, Bool, true, List, [], ◌∷◌, Some, slice_get, refl, subst}
use Rattle.std.specs.List.{list_all}
use Rattle.calltext.proofs.Conjunctions.{and_true, and_both}

pub all_at : {X : Type 0} (f : X → Bool) (xs : List X) (c : ℕ) (x : X) → list_all f xs ≡ true → slice_get xs c ≡ Some x → f x ≡ true
all_at f [] c x h there = absurd (cc)
all_at f (y ∷ xs) zero x h there = let e : y ≡ x = cc in subst (λ z. f z ≡ true) e (and_true (f y) (list_all f xs) h).0
all_at f (y ∷ xs) (suc c) x h there = all_at f xs c x (and_true (f y) (list_all f xs) h).1 there

pub all_made : {X : Type 0} (f : X → Bool) (xs : List X) → ((c : ℕ) (x : X) → slice_get xs c ≡ Some x → f x ≡ true) → list_all f xs ≡ true
all_made f [] h = refl
all_made f (y ∷ xs) h = and_both (f y) (list_all f xs) (h 0 y refl) (all_made f xs (λ c x there. h (suc c) x there))

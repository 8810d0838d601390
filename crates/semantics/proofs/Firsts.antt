-- How many calls the ranks below one have, where calls stand in rank order.
use Rattle.std.proofs.Common.{◌≡◌, ℕ, zero, suc, ◌+◌, ◌-◌, ◌≤◌, Bool, true, false, nat_lt, List, [], ◌∷◌, length, get_or, take, refl, sym, ◌∙◌, ap, arith}
use Rattle.std.specs.List.{count_by}
use Rattle.std.specs.List.Sorted.{IsPartitionPoint}
use Rattle.std.specs.List.Sorted.{IsPartitionedBy}
use Rattle.std.proofs.lemmas.List.{take_all}
use Rattle.std.proofs.lemmas.Bool.{ltb-true, lt-ltb}
use Rattle.std.proofs.lemmas.Option.{slice_get-get_or}
use Rattle.calltext.specs.declared.limits.Limits.{Limits}
use Rattle.callorder.specs.ProgramRules.{IsProgramWithin}
use Rattle.callorder.specs.Programs.{MpiProgram}
use Rattle.std.proofs.lemmas.List.Sums.{count_by_more_no, count_by_more_yes}

count_before : {X : Type 0} (p : X → Bool) (xs : List X) (i : ℕ) (d : X) → IsPartitionPoint (λ y. p y ≡ true) (λ y. p y ≡ false) xs i → i ≤ length xs
    → (k : ℕ) → k ≤ i → count_by p (take k xs) ≡ k
count_before p xs i d point within zero le = refl
count_before p xs i d point within (suc k) le =
    let next : suc k ≡ k + 1 = omega arith in
    let more : count_by p (take (k + 1) xs) ≡ count_by p (take k xs) + 1 = count_by_more_yes p xs k d (omega arith) (point.0 k d (omega arith) (omega arith)) in
    let so_far : count_by p (take k xs) ≡ k = count_before p xs i d point within k (omega arith) in
    ap (λ n. count_by p (take n xs)) next ∙ more ∙ omega (arith, so_far)

count_behind : {X : Type 0} (p : X → Bool) (xs : List X) (i : ℕ) (d : X) → IsPartitionPoint (λ y. p y ≡ true) (λ y. p y ≡ false) xs i
    → (n : ℕ) → i + n ≤ length xs → count_by p (take (i + n) xs) ≡ count_by p (take i xs)
count_behind p xs i d point zero le = ap (λ n. count_by p (take n xs)) (omega arith)
count_behind p xs i d point (suc n) le =
    let more : count_by p (take (i + n + 1) xs) ≡ count_by p (take (i + n) xs) = count_by_more_no p xs (i + n) d (omega arith) (point.1 (i + n) d (omega arith) (omega arith)) in
    ap (λ m. count_by p (take m xs)) (omega arith) ∙ more ∙ count_behind p xs i d point n (omega arith)

-- so many as stand before the first that fails it
pub count_at : {X : Type 0} (p : X → Bool) (xs : List X) (i : ℕ) → IsPartitionPoint (λ y. p y ≡ true) (λ y. p y ≡ false) xs i → i ≤ length xs → count_by p xs ≡ i
count_at p [] i point within = omega (arith, within)
count_at p (x ∷ xs) i point within =
    let n : ℕ = length (x ∷ xs) - i in
    let e : length (x ∷ xs) ≡ i + n = omega (arith, within) in
    let all : take (i + n) (x ∷ xs) ≡ x ∷ xs = take_all (i + n) (x ∷ xs) (omega (arith, e)) in
    ap (count_by p) (sym all) ∙ count_behind p (x ∷ xs) i x point n (omega (arith, e)) ∙ count_before p (x ∷ xs) i x point within i (omega arith)

-- the calls of the ranks below one stand before all others
pub ranks_part : (l : Limits) (p : MpiProgram) (rank : ℕ) → IsProgramWithin l p → IsPartitionedBy (λ call. nat_lt call.rank rank) p.calls
ranks_part l p rank is i j d le within below =
    let order : (get_or p.calls i d).rank ≤ (get_or p.calls j d).rank =
    is.rank_order i j (get_or p.calls i d) (get_or p.calls j d) le (slice_get-get_or p.calls i d (omega arith)) (slice_get-get_or p.calls j d within) in
    lt-ltb _ _ (omega (arith, order, ltb-true _ _ below))

-- The calls of all ranks, rank by rank, and those of each.
use Rattle.std.proofs.Common.{◌≡◌, ℕ, ◌+◌, ◌<◌, Bool, cond, List, [], ◌∷◌, ◌++◌, length, get_or, take, map, refl, sym, ap, subst, ◌∙◌, append_assoc, add-zero, arith, eqb, eq-eqb, ne_eqb}
use Rattle.std.proofs.lemmas.List.{append-nil, take_more}
use Rattle.std.proofs.lemmas.List.Elements.{filter-append}
use Rattle.std.specs.List.{flat_map, AllByRecursion, range_with_len}
use Rattle.plaintext.proofs.Ascii.{all_append}
use Rattle.unroll.specs.declared.call.Placed.{Placed}
use Rattle.spmd_program.specs.parts.Programs.{AreOfRanks}
use Rattle.spmd_program.specs.Programs.{calls_of_rank}

-- one rank more
pub of_ranks_push : (rank : ℕ) (parts : List (List Placed)) (part : List Placed) → AreOfRanks rank parts → AllByRecursion (λ p. p.rank ≡ rank + length parts) part → AreOfRanks rank (parts ++ part ∷ [])
of_ranks_push rank [] part so own = (subst (λ (k : ℕ). AllByRecursion (λ p. p.rank ≡ k) part) (add-zero rank) own, tt)
of_ranks_push rank (x ∷ parts) part so own =
    let count : rank + length (x ∷ parts) ≡ (rank + 1) + length parts = omega arith in
    (so.0, of_ranks_push (rank + 1) parts part so.1 (subst (λ (k : ℕ). AllByRecursion (λ p. p.rank ≡ k) part) count own))

none_of : (rank : ℕ) (calls : List Placed) → AllByRecursion (λ p. p.rank ≡ rank → ⊥) calls → calls_of_rank rank calls ≡ []
none_of rank [] h = refl
none_of rank (p ∷ ps) h =
    ap (λ (b : Bool). cond b (p ∷ calls_of_rank rank ps) (calls_of_rank rank ps)) (ne_eqb p.rank rank h.0) ∙ none_of rank ps h.1

all_of : (rank : ℕ) (calls : List Placed) → AllByRecursion (λ p. p.rank ≡ rank) calls → calls_of_rank rank calls ≡ calls
all_of rank [] h = refl
all_of rank (p ∷ ps) h =
    ap (λ (b : Bool). cond b (p ∷ calls_of_rank rank ps) (calls_of_rank rank ps)) (eq-eqb p.rank rank h.0) ∙ ap (λ (qs : List Placed). p ∷ qs) (all_of rank ps h.1)

below_none : (rank : ℕ) (calls : List Placed) → AllByRecursion (λ p. p.rank < rank) calls → AllByRecursion (λ p. p.rank ≡ rank → ⊥) calls
below_none rank [] h = tt
below_none rank (p ∷ ps) h = ((λ e. omega (arith, h.0)), below_none rank ps h.1)

below_one : (rank : ℕ) (calls : List Placed) → AllByRecursion (λ p. p.rank ≡ rank) calls → AllByRecursion (λ p. p.rank < rank + 1) calls
below_one rank [] h = tt
below_one rank (p ∷ ps) h = (omega (arith, h.0), below_one rank ps h.1)

below_more : (rank : ℕ) (calls : List Placed) → AllByRecursion (λ p. p.rank < rank) calls → AllByRecursion (λ p. p.rank < rank + 1) calls
below_more rank [] h = tt
below_more rank (p ∷ ps) h = (omega (arith, h.0), below_more rank ps h.1)

one_above : (rank other : ℕ) (calls : List Placed) → rank < other → AllByRecursion (λ p. p.rank ≡ other) calls → AllByRecursion (λ p. p.rank ≡ rank → ⊥) calls
one_above rank other [] lt h = tt
one_above rank other (p ∷ ps) lt h = ((λ e. omega (arith, h.0)), one_above rank other ps lt h.1)

above_none : (rank other : ℕ) (parts : List (List Placed)) → rank < other → AreOfRanks other parts → AllByRecursion (λ p. p.rank ≡ rank → ⊥) (flat_map (λ part. part) parts)
above_none rank other [] lt so = tt
above_none rank other (part ∷ parts) lt so =
    all_append (λ p. p.rank ≡ rank → ⊥) part (flat_map (λ x. x) parts) (one_above rank other part lt so.0) (above_none rank (other + 1) parts (omega arith) so.1)

-- the calls of the first of these ranks, where those before are of lower ranks
first_part : (rank : ℕ) (before part : List Placed) (parts : List (List Placed)) → AllByRecursion (λ p. p.rank < rank) before → AllByRecursion (λ p. p.rank ≡ rank) part → AreOfRanks (rank + 1) parts
    → calls_of_rank rank (before ++ (part ++ flat_map (λ x. x) parts)) ≡ part
first_part rank before part parts low own others =
    let test : Placed → Bool = λ p. eqb p.rank rank in
    let rest : List Placed = flat_map (λ x. x) parts in
    filter-append test before (part ++ rest)
    ∙ ap (λ (xs : List Placed). xs ++ calls_of_rank rank (part ++ rest)) (none_of rank before (below_none rank before low))
    ∙ filter-append test part rest
    ∙ ap (λ (xs : List Placed). xs ++ calls_of_rank rank rest) (all_of rank part own)
    ∙ ap (λ (xs : List Placed). part ++ xs) (none_of rank rest (above_none rank (rank + 1) parts (omega arith) others))
    ∙ append-nil part

own_from : {X : Type 0} (f : List Placed → X) (rank : ℕ) (before : List Placed) (parts : List (List Placed)) → AllByRecursion (λ p. p.rank < rank) before → AreOfRanks rank parts
    → map (λ r. f (calls_of_rank r (before ++ flat_map (λ x. x) parts))) (range_with_len rank (length parts)) ≡ map f parts
own_from f rank before [] low so = refl
own_from f rank before (part ∷ parts) low so =
    let rest : List Placed = flat_map (λ x. x) parts in
    let lower : AllByRecursion (λ p. p.rank < rank + 1) (before ++ part) =
    all_append (λ p. p.rank < rank + 1) before part (below_more rank before low) (below_one rank part so.0) in
    ap (λ (xs : List Placed). f xs ∷ map (λ r. f (calls_of_rank r (before ++ (part ++ rest)))) (range_with_len (rank + 1) (length parts)))
    (first_part rank before part parts low so.0 so.1)
    ∙ ap (λ (cs : List Placed). f part ∷ map (λ r. f (calls_of_rank r cs)) (range_with_len (rank + 1) (length parts))) (sym (append_assoc before part rest))
    ∙ ap (λ xs. f part ∷ xs) (own_from f (rank + 1) (before ++ part) parts lower so.1)

-- what is made of the calls of each rank
pub of_each : {X : Type 0} (f : List Placed → X) (parts : List (List Placed)) (calls : List Placed) (size : ℕ) → AreOfRanks 0 parts → flat_map (λ x. x) parts ≡ calls → length parts ≡ size
    → map f parts ≡ map (λ r. f (calls_of_rank r calls)) (range_with_len 0 size)
of_each f parts calls size so whole count =
    sym (own_from f 0 [] parts tt so)
    ∙ ap (λ (cs : List Placed). map (λ r. f (calls_of_rank r cs)) (range_with_len 0 (length parts))) whole
    ∙ ap (λ (n : ℕ). map (λ r. f (calls_of_rank r calls)) (range_with_len 0 n)) count

-- one call more is of the rank
pub one_more_own : (rank count : ℕ) (calls : List Placed) (d : Placed) → count < length calls → (get_or calls count d).rank ≡ rank → AllByRecursion (λ p. p.rank ≡ rank) (take count calls)
    → AllByRecursion (λ p. p.rank ≡ rank) (take (count + 1) calls)
one_more_own rank count calls d lt is own =
    subst (λ (ps : List Placed). AllByRecursion (λ p. p.rank ≡ rank) ps) (sym (take_more calls count d lt))
    (all_append (λ p. p.rank ≡ rank) (take count calls) (get_or calls count d ∷ []) own (is, tt))

-- The blocks of families have the clauses of the families.
use Rattle.std.proofs.Common.{◌≡◌, ℕ, zero, suc, ◌+◌, ◌<◌, Bool, true, false, cond, if◌then◌else◌, not, nat_lt, List, [], ◌∷◌, ◌++◌, map, length, get_or, refl, sym, ap, ◌∙◌, subst, arith}
use Rattle.std.specs.List.{filter, flat_map, range_with_len}
use Rattle.std.proofs.lemmas.List.{append-nil}
use Rattle.std.proofs.lemmas.List.Concat.{flat_map-append}
use Rattle.std.proofs.lemmas.List.Folds.{flat_map-map}
use Rattle.std.proofs.lemmas.List.FromFn.{get_or-map-range_with_len, length-map-range_with_len}
use Rattle.callorder.specs.Programs.{MpiProgram, are_fit, is_probe, takes, sees, are_of_one_rank}
use Rattle.candidates.specs.Pairs.{places, matching_pairs, seeing_pairs, pairs_of, pair_at}
use Rattle.candidates.proofs.Ranges.{flat_map_range_more}
use Rattle.std.proofs.lemmas.Bool.{and_parts}
use Rattle.std.proofs.lemmas.Bool.Decides.{nat_tests}
use Rattle.formula_tables.proofs.FactSlots.{test_true}
use Rattle.formula.specs.declared.families.Family.{Family}
use Rattle.formula.specs.Families.{SymbolicClause, last_calls, is_standard, SymbolicBlocks, by_call, by_standard_send, by_last_call, by_pair, by_see, clauses_in, family_of, said, all_families}
use Rattle.formula.specs.Orders.{places_in, stated_orders}
use Rattle.formula_families.specs.declared.families.Block.{Block}
use Rattle.formula_families.specs.parts.Blocks.{block, blocks_of, orders_of, orders_of_family}
use Rattle.formula_families.specs.Blocks.{where_taken, where_seen, where_last, block_in, count_in, clauses_of, size_of}

-- ---- lists

-- a list by its places
range_after : (a n : ℕ) → range_with_len (a + 1) n ≡ map (λ k. suc k) (range_with_len a n)
range_after a zero = refl
range_after a (suc n) =
    let e : a + 1 ≡ suc a = omega arith in
    ap (λ l. (a + 1) ∷ l) (range_after (a + 1) n) ∙ ap (λ (z : ℕ). z ∷ map (λ k. suc k) (range_with_len (a + 1) n)) e

by_places : {X Y : Type 0} (h : X → List Y) (xs : List X) (d : X) → flat_map (λ k. h (get_or xs k d)) (range_with_len 0 (length xs)) ≡ flat_map h xs
by_places h [] d = refl
by_places h (x ∷ xs) d =
    ap (λ l. h x ++ flat_map (λ k. h (get_or (x ∷ xs) k d)) l) (range_after 0 (length xs)) ∙
    (ap (λ l. h x ++ l) (flat_map-map (λ k. h (get_or (x ∷ xs) k d)) (λ k. suc k) (range_with_len 0 (length xs))) ∙
    ap (λ l. h x ++ l) (by_places h xs d))

filter_step : {X Y : Type 0} (f : X → List Y) (x : X) (rest : List X) (b : Bool) (more : List Y) → flat_map f rest ≡ more → flat_map f (cond b (x ∷ rest) rest) ≡ (if b then f x else []) ++ more
filter_step f x rest true more e = ap (λ l. f x ++ l) e
filter_step f x rest false more e = e

of_filter : {X Y : Type 0} (f : X → List Y) (q : X → Bool) (xs : List X) → flat_map f (filter q xs) ≡ flat_map (λ x. if q x then f x else []) xs
of_filter f q [] = refl
of_filter f q (x ∷ xs) = filter_step f x (filter q xs) (q x) (flat_map (λ y. if q y then f y else []) xs) (of_filter f q xs)

pub flat_flat : {X Y Z : Type 0} (k : Y → List Z) (f : X → List Y) (xs : List X) → flat_map k (flat_map f xs) ≡ flat_map (λ x. flat_map k (f x)) xs
flat_flat k f [] = refl
flat_flat k f (x ∷ xs) = flat_map-append k (f x) (flat_map f xs) ∙ ap (λ l. flat_map k (f x) ++ l) (flat_flat k f xs)

-- ---- blocks

by_place : (p : MpiProgram) (h : ℕ × ℕ → List SymbolicClause) → flat_map (λ k. h (pair_at (pairs_of p) k)) (range_with_len 0 (length (pairs_of p))) ≡ flat_map h (pairs_of p)
by_place p h = by_places h (pairs_of p) (0, 0)

-- what is made of each item that passes
same_step : {X Y : Type 0} (f g : X → List Y) (x : X) (rest : List X) (b : Bool) → (b ≡ true → f x ≡ g x) → flat_map f rest ≡ flat_map g rest → flat_map f (cond b (x ∷ rest) rest) ≡ flat_map g (cond b (x ∷ rest) rest)
same_step f g x rest true e others = ap (λ l. l ++ flat_map f rest) (e refl) ∙ ap (λ l. g x ++ l) others
same_step f g x rest false e others = others

same_kept : {X Y : Type 0} (f g : X → List Y) (keep : X → Bool) (xs : List X) → ((x : X) → keep x ≡ true → f x ≡ g x) → flat_map f (filter keep xs) ≡ flat_map g (filter keep xs)
same_kept f g keep [] e = refl
same_kept f g keep (x ∷ xs) e = same_step f g x (filter keep xs) (keep x) (e x) (same_kept f g keep xs e)

same_made : {X Y : Type 0} (f g : X → List Y) (xs : List X) → ((x : X) → f x ≡ g x) → flat_map f xs ≡ flat_map g xs
same_made f g [] e = refl
same_made f g (x ∷ xs) e = ap (λ l. l ++ flat_map f xs) (e x) ∙ ap (λ l. g x ++ l) (same_made f g xs e)

none_made : {X Y : Type 0} (xs : List X) → flat_map (λ (x : X). let none : List Y = [] in none) xs ≡ []
none_made [] = refl
none_made (x ∷ xs) = none_made xs

-- the pairs of a send and the calls that this keeps
abbrev pairs_by : MpiProgram → (ℕ → ℕ → Bool) → List (ℕ × ℕ)
pairs_by p keep = flat_map (λ send. map (λ finder. (send, finder)) (filter (keep send) (places p))) (places p)

same_pairs : (p : MpiProgram) (keep : ℕ → ℕ → Bool) (f g : ℕ × ℕ → List SymbolicClause) → ((s t : ℕ) → keep s t ≡ true → f (s, t) ≡ g (s, t)) → flat_map f (pairs_by p keep) ≡ flat_map g (pairs_by p keep)
same_pairs p keep f g e =
    let row : ℕ → List (ℕ × ℕ) = λ send. map (λ finder. (send, finder)) (filter (keep send) (places p)) in
    flat_flat f row (places p) ∙
    same_made (λ s. flat_map f (row s)) (λ s. flat_map g (row s)) (places p) (λ s.
    flat_map-map f (λ (t : ℕ). (s, t)) (filter (keep s) (places p)) ∙
    (same_kept (λ t. f (s, t)) (λ t. g (s, t)) (keep s) (places p) (e s) ∙
    sym (flat_map-map g (λ (t : ℕ). (s, t)) (filter (keep s) (places p))))) ∙
    sym (flat_flat g row (places p))

off_from : (b : Bool) → not b ≡ true → b ≡ false
off_from true h = absurd cc
off_from false h = refl

no_probe : (p : MpiProgram) (s t : ℕ) → takes p s t ≡ true → is_probe p t ≡ false
no_probe p s t h = off_from (is_probe p t) (and_parts (are_fit p s t) (not (is_probe p t)) h).1

a_probe : (p : MpiProgram) (s t : ℕ) → sees p s t ≡ true → is_probe p t ≡ true
a_probe p s t h = (and_parts (are_fit p s t) (is_probe p t) h).1

none : ℕ × ℕ → List SymbolicClause
none pair = []

-- what is said of pairs of a send and a taker alone is said of the matching pairs
by_taken : (p : MpiProgram) (h : ℕ × ℕ → List SymbolicClause) → flat_map (λ k. let pair = pair_at (pairs_of p) k in where_taken p pair (h pair)) (range_with_len 0 (length (pairs_of p))) ≡ flat_map h (matching_pairs p)
unfolding none
by_taken p h =
    let f : ℕ × ℕ → List SymbolicClause = λ pair. where_taken p pair (h pair) in
    by_place p f ∙ (flat_map-append f (matching_pairs p) (seeing_pairs p) ∙
    (ap (λ l. l ++ flat_map f (seeing_pairs p)) (same_pairs p (takes p) f h (λ s t taken. ap (λ (b : Bool). if b then [] else h (s, t)) (no_probe p s t taken))) ∙
    (ap (λ l. flat_map h (matching_pairs p) ++ l) (same_pairs p (sees p) f none (λ s t seen. ap (λ (b : Bool). if b then [] else h (s, t)) (a_probe p s t seen)) ∙ none_made (seeing_pairs p)) ∙
    append-nil (flat_map h (matching_pairs p)))))

by_seen : (p : MpiProgram) (h : ℕ × ℕ → List SymbolicClause) → flat_map (λ k. let pair = pair_at (pairs_of p) k in where_seen p pair (h pair)) (range_with_len 0 (length (pairs_of p))) ≡ flat_map h (seeing_pairs p)
unfolding none
by_seen p h =
    let f : ℕ × ℕ → List SymbolicClause = λ pair. where_seen p pair (h pair) in
    by_place p f ∙ (flat_map-append f (matching_pairs p) (seeing_pairs p) ∙
    (ap (λ l. l ++ flat_map f (seeing_pairs p)) (same_pairs p (takes p) f none (λ s t taken. ap (λ (b : Bool). if b then h (s, t) else []) (no_probe p s t taken)) ∙ none_made (matching_pairs p)) ∙
    same_pairs p (sees p) f h (λ s t seen. ap (λ (b : Bool). if b then h (s, t) else []) (a_probe p s t seen))))

same_below : {Y : Type 0} (f g : ℕ → List Y) (n : ℕ) → ((k : ℕ) → k < n → f k ≡ g k) → flat_map f (range_with_len 0 n) ≡ flat_map g (range_with_len 0 n)
same_below f g zero e = refl
same_below f g (suc n) e =
    let next : n + 1 ≡ suc n = omega arith in
    let step : flat_map f (range_with_len 0 (n + 1)) ≡ flat_map g (range_with_len 0 (n + 1)) =
    flat_map_range_more f n ∙ (ap (λ l. l ++ f n) (same_below f g n (λ k below. e k (omega (arith, below)))) ∙
    (ap (λ l. flat_map g (range_with_len 0 n) ++ l) (e n (omega arith)) ∙ sym (flat_map_range_more g n))) in
    subst (λ (z : ℕ). flat_map f (range_with_len 0 z) ≡ flat_map g (range_with_len 0 z)) next step

-- what is said of the last calls, and then once
by_last : (p : MpiProgram) (h : ℕ → List SymbolicClause) (once : List SymbolicClause) → flat_map (λ k. if nat_lt k (length p.calls) then where_last p k (h k) else once) (range_with_len 0 (length p.calls + 1)) ≡ flat_map h (last_calls p) ++ once
by_last p h once =
    let n = length p.calls in
    let f : ℕ → List SymbolicClause = λ k. if nat_lt k n then where_last p k (h k) else once in
    let past : nat_lt n n ≡ false = grind (arith, nat_tests) in
    let calls : flat_map f (range_with_len 0 n) ≡ flat_map h (last_calls p) =
    same_below f (λ k. where_last p k (h k)) n (λ k below. ap (λ b. if b then where_last p k (h k) else once) (test_true k n below)) ∙
    sym (of_filter h (λ c. not (are_of_one_rank p c (c + 1))) (places p)) in
    flat_map_range_more f n ∙ (ap (λ l. l ++ f n) calls ∙ ap (λ b. flat_map h (last_calls p) ++ (if b then where_last p n (h n) else once)) past)

-- the blocks together have the clauses
in_blocks : (p : MpiProgram) (blocks : SymbolicBlocks) → flat_map (block_in p blocks) (range_with_len 0 (count_in p blocks)) ≡ clauses_in p blocks
in_blocks p (by_call clauses) = refl
in_blocks p (by_standard_send clauses) = sym (of_filter (clauses p) (is_standard p) (places p))
in_blocks p (by_last_call clauses clause) = by_last p (clauses p) (clause p ∷ [])
in_blocks p (by_pair clauses) = by_taken p (λ pair. clauses p pair.0 pair.1)
in_blocks p (by_see clauses) = by_seen p (λ pair. clauses p pair.0 pair.1)

-- ---- families

in_family : (p : MpiProgram) (family : Family) → flat_map (clauses_of p) (blocks_of p family) ≡ said p family
in_family p family = flat_map-map (clauses_of p) (block family) (range_with_len 0 (size_of p family)) ∙ in_blocks p (family_of family).says

-- what is made of each clause of the blocks is made of each clause of the family
of_family : {Y : Type 0} (p : MpiProgram) (k : SymbolicClause → List Y) (family : Family) → flat_map (λ b. flat_map k (clauses_of p b)) (blocks_of p family) ≡ flat_map k (said p family)
of_family p k family = sym (flat_flat k (clauses_of p) (blocks_of p family)) ∙ ap (flat_map k) (in_family p family)

pub of_families : {Y : Type 0} (p : MpiProgram) (k : SymbolicClause → List Y) (fs : List Family) → flat_map (λ f. flat_map (λ b. flat_map k (clauses_of p b)) (blocks_of p f)) fs ≡ flat_map (flat_map k) (map (said p) fs)
of_families p k fs =
    same_made (λ f. flat_map (λ b. flat_map k (clauses_of p b)) (blocks_of p f)) (λ f. flat_map k (said p f)) fs (of_family p k) ∙
    sym (flat_map-map (flat_map k) (said p) fs)

-- the orders that the families state
pub stated_by_families : (p : MpiProgram) → flat_map (orders_of_family p) all_families ≡ stated_orders p
stated_by_families p =
    let states : Family → Bool = λ family. (family_of family).states_order in
    sym (of_filter (λ f. flat_map (orders_of p) (blocks_of p f)) states all_families) ∙
    of_families p (flat_map (places_in p)) (filter states all_families)

-- ---- the blocks of a family, by their places

pub blocks_count : (p : MpiProgram) (family : Family) → length (blocks_of p family) ≡ size_of p family
blocks_count p family = length-map-range_with_len (block family) 0 (size_of p family)

pub block_at : (p : MpiProgram) (family : Family) (place : ℕ) (d : Block) → place < size_of p family → block family place ≡ get_or (blocks_of p family) place d
block_at p family place d below = sym (get_or-map-range_with_len (block family) 0 (size_of p family) place place d below (omega arith))

-- Branching orders: how one is made, and that there is only one.
use Rattle.std.proofs.Common.{◌≡◌, ℕ, suc, ◌+◌, ◌-◌, ◌<◌, ◌≤◌, Bool, true, false, not, ◌||◌, ◌&&◌, eqb, ltb, cond, Less, Equal, Greater, List, [], ◌∷◌, ◌++◌, length, map, get_or, refl, ap, subst, sym, ◌∙◌, arith, inl, inr}
use Rattle.std.specs.Cmp.{IsStrictWeakOrder}
use Rattle.std.specs.Ordering.{is_lt, ordering_then, nat_cmp}
use Rattle.std.specs.List.{All, filter, range_with_len, sum_by}
use Rattle.std.specs.List.Sorted.{IsPermutation, IsSorted, IsSortedBy}
use Rattle.std.proofs.lemmas.Bool.{cases_Bool, cases_eq, or_parts, or_cases, or_from, and_parts, and_cases, and_left, and_right, ltb-true, ltb-false, le-ltb, eqb-true, eqb-false, eq-eqb, ne_eqb, cond-true, cond-false}
use Rattle.std.proofs.lemmas.List.{length-map, get_or-map}
use Rattle.std.proofs.lemmas.List.Elements.{All-map}
use Rattle.std.proofs.lemmas.List.Filters.{length-filter_both}
use Rattle.std.proofs.lemmas.List.FromFn.{length-range_with_len, map-range_with_len_more}
use Rattle.std.proofs.lemmas.List.Sorted.{sorted_far, All-permutation, IsPermutation-map, IsPermutation-sym, IsPermutation-trans, sum_by-IsPermutation}
use Rattle.std.proofs.lemmas.List.Sums.{sum_by-cons}
use Rattle.candidates.specs.Pairs.{pair_at, with_taker}
use Rattle.cubes.specs.Cubes.{choices, branches_before, branching_rank_of, IsBranchingOrder}
use Rattle.cubes.specs.Laws.{OneBranchingOrder}

-- ---- what comes first

-- by two keys, the first falling and the second rising
abbrev first_by : ℕ → ℕ → ℕ → ℕ → Bool
first_by a b i j = ltb b a || (eqb a b && ltb i j)

false_parts : (a b i j : ℕ) → first_by a b i j ≡ false → (a ≤ b) × (a ≡ b → j ≤ i)
false_parts a b i j e =
    let parts = or_parts (ltb b a) (eqb a b && ltb i j) e in (
      ltb-false b a parts.0,
      λ same. elim (and_cases (eqb a b) (ltb i j) parts.1) [ inl apart ↦ absurd (eqb-false a b apart same) | inr later ↦ ltb-false i j later ],
    )

parts_false : (a b i j : ℕ) → a ≤ b → (a ≡ b → j ≤ i) → first_by a b i j ≡ false
parts_false a b i j low ties =
    or_from (ltb b a) (eqb a b && ltb i j) (le-ltb b a low)
    (elim (cases_eq a b) [
      | inl same ↦ and_right (eqb a b) (ltb i j) (le-ltb i j (ties same))
      | inr apart ↦ and_left (eqb a b) (ltb i j) (ne_eqb a b apart)
    ])

one_way : (a b i j : ℕ) → first_by a b i j ≡ true → first_by b a j i ≡ false
one_way a b i j e =
    elim (or_cases (ltb b a) (eqb a b && ltb i j) e) [
      | inl more ↦ let above = ltb-true b a more in parts_false b a j i (omega arith) (λ same. absurd (omega arith))
      | inr tie ↦
          let parts = and_parts (eqb a b) (ltb i j) tie in
          let same = eqb-true a b parts.0 in
          let before = ltb-true i j parts.1 in
          parts_false b a j i (omega arith) (λ _. omega arith)
    ]

chain : (a b c i j k : ℕ) → first_by a b i j ≡ false → first_by b c j k ≡ false → first_by a c i k ≡ false
chain a b c i j k one two =
    let first = false_parts a b i j one in
    let second = false_parts b c j k two in
    parts_false a c i k (omega (arith, first.0, second.0)) (λ same.
    let left : a ≡ b = omega (arith, first.0, second.0) in
    let right : b ≡ c = omega (arith, first.0, second.0) in
    omega (arith, first.1 left, second.1 right))

is_order : (pairs : List (ℕ × ℕ)) → IsStrictWeakOrder (branches_before pairs)
is_order pairs =
    record {
      one_way = λ x y. one_way (choices pairs x) (choices pairs y) x y;
      chain = λ x y z. chain (choices pairs x) (choices pairs y) (choices pairs z) x y z;
    }

-- neither of two comes before the other only where they are one
no_ties : (pairs : List (ℕ × ℕ)) (x y : ℕ) → branches_before pairs x y ≡ false → branches_before pairs y x ≡ false → x ≡ y
no_ties pairs x y one two =
    let first = false_parts (choices pairs x) (choices pairs y) x y one in
    let second = false_parts (choices pairs y) (choices pairs x) y x two in
    let same : choices pairs x ≡ choices pairs y = omega (arith, first.0, second.0) in
    omega (arith, first.1 same, second.1 (sym same))

-- ---- a sort by ranks

is_lt_by : (less same less_then same_then : Bool) → is_lt (ordering_then (cond less Less (cond same Equal Greater)) (cond less_then Less (cond same_then Equal Greater))) ≡ (less || (same && less_then))
is_lt_by true same less_then same_then = refl
is_lt_by false true true same_then = refl
is_lt_by false true false true = refl
is_lt_by false true false false = refl
is_lt_by false false less_then same_then = refl

is_lt_then : (a b i j : ℕ) → is_lt (ordering_then (nat_cmp a b) (nat_cmp i j)) ≡ (ltb a b || (eqb a b && ltb i j))
is_lt_then a b i j = is_lt_by (ltb a b) (eqb a b) (ltb i j) (eqb i j)

filter_short : {X : Type 0} (p : X → Bool) (xs : List X) → length (filter p xs) ≤ length xs
filter_short p xs = omega (arith, length-filter_both p (λ x. not (p x)) (λ x. refl) xs)

pub few_with_taker : (pairs : List (ℕ × ℕ)) (taker : ℕ) → length (with_taker pairs taker) ≤ length pairs
few_with_taker pairs taker =
    omega (arith, filter_short (λ (n : ℕ). eqb (pair_at pairs n).1 taker) (range_with_len 0 (length pairs)), length-range_with_len 0 (length pairs))

few_choices : (pairs : List (ℕ × ℕ)) (k : ℕ) → choices pairs k ≤ length pairs
few_choices pairs k = few_with_taker pairs (pair_at pairs k).1

numbers_of : (pairs : List (ℕ × ℕ)) (xs : List ℕ) → map (λ (r : ℕ × ℕ). r.1) (map (branching_rank_of pairs) xs) ≡ xs
numbers_of pairs [] = refl
numbers_of pairs (x ∷ xs) = ap (λ (ys : List ℕ). x ∷ ys) (numbers_of pairs xs)

abbrev IsRank : List (ℕ × ℕ) → ℕ × ℕ → Type 0
IsRank pairs r = r.0 ≡ length pairs - choices pairs r.1

rank_order : (pairs : List (ℕ × ℕ)) (x y : ℕ × ℕ) → IsRank pairs x → IsRank pairs y → is_lt (ordering_then (nat_cmp x.0 y.0) (nat_cmp x.1 y.1)) ≡ false → branches_before pairs x.1 y.1 ≡ false
rank_order pairs x y is_x is_y e =
    let few_x = few_choices pairs x.1 in
    let few_y = few_choices pairs y.1 in
    let parts = or_parts (ltb x.0 y.0) (eqb x.0 y.0 && ltb x.1 y.1) (sym (is_lt_then x.0 y.0 x.1 y.1) ∙ e) in
    let low = ltb-false x.0 y.0 parts.0 in
    parts_false (choices pairs x.1) (choices pairs y.1) x.1 y.1 (omega arith) (λ same.
    elim (and_cases (eqb x.0 y.0) (ltb x.1 y.1) parts.1) [
      | inl apart ↦ absurd (eqb-false x.0 y.0 apart (omega arith))
      | inr later ↦ ltb-false x.1 y.1 later
    ])

-- one rank more, made of what was read of the pairs
pub rank_more : (pairs slice old new : List (ℕ × ℕ)) (row : List ℕ) (number count : ℕ) → old ≡ map (branching_rank_of pairs) (range_with_len 0 number) → new ≡ old ++ (count - length row, number) ∷ [] → slice ≡ pairs → row ≡ with_taker pairs (pair_at slice number).1 → count ≡ length pairs → new ≡ map (branching_rank_of pairs) (range_with_len 0 (number + 1))
rank_more pairs slice old new row number count so_far is slice_is row_is count_is =
    let same = ap (λ (ps : List (ℕ × ℕ)). length (with_taker pairs (pair_at ps number).1)) slice_is in
    let others : count - length row ≡ length pairs - choices pairs number = omega (arith, ap length row_is, same) in
    is
    ∙ ap (λ (rs : List (ℕ × ℕ)). rs ++ (count - length row, number) ∷ []) so_far
    ∙ ap (λ (n : ℕ). map (branching_rank_of pairs) (range_with_len 0 number) ++ (n, number) ∷ []) others
    ∙ sym (map-range_with_len_more (branching_rank_of pairs) 0 number number (omega arith))

-- the numbers of sorted ranks
pub order_made : (pairs : List (ℕ × ℕ)) (count : ℕ) (ranks sorted : List (ℕ × ℕ)) → ranks ≡ map (branching_rank_of pairs) (range_with_len 0 count) → IsPermutation ranks sorted → IsSorted (λ (x y : ℕ × ℕ). ordering_then (nat_cmp x.0 y.0) (nat_cmp x.1 y.1)) sorted → IsBranchingOrder pairs count (map (λ (r : ℕ × ℕ). r.1) sorted)
order_made pairs count ranks sorted made moved in_order =
    let numbers : List ℕ = range_with_len 0 count in
    let all_ranks : All (IsRank pairs) ranks = subst (λ (rs : List (ℕ × ℕ)). All (IsRank pairs) rs) (sym made) (All-map (IsRank pairs) (branching_rank_of pairs) numbers (λ k d low. refl)) in
    let ranks_sorted : All (IsRank pairs) sorted = All-permutation (IsRank pairs) ranks sorted moved all_ranks in
    let many = length-map sorted (λ (r : ℕ × ℕ). r.1) in
    record {
      each_once = subst (λ (ns : List ℕ). IsPermutation ns (map (λ (r : ℕ × ℕ). r.1) sorted)) (ap (map (λ (r : ℕ × ℕ). r.1)) made ∙ numbers_of pairs numbers) (IsPermutation-map (λ (r : ℕ × ℕ). r.1) ranks sorted moved);
      in_order = λ k d low high.
          let next_low : k + 1 < length sorted = omega (arith, many) in
          let this_low : k < length sorted = omega (arith, many) in
          let next = get_or-map (λ (r : ℕ × ℕ). r.1) sorted (k + 1) (0, 0) d next_low in
          let this = get_or-map (λ (r : ℕ × ℕ). r.1) sorted k (0, 0) d this_low in
          ap (λ (n : ℕ). branches_before pairs n (get_or (map (λ (r : ℕ × ℕ). r.1) sorted) k d)) next
          ∙ ap (λ (n : ℕ). branches_before pairs (get_or sorted (k + 1) (0, 0)).1 n) this
          ∙ rank_order pairs (get_or sorted (k + 1) (0, 0)) (get_or sorted k (0, 0)) (ranks_sorted (k + 1) (0, 0) next_low) (ranks_sorted k (0, 0) this_low) (in_order k (0, 0) low next_low);
    }

-- ---- one order

-- how often a number occurs
abbrev occurs : ℕ → List ℕ → ℕ
occurs y [] = 0
occurs y (x ∷ xs) = cond (eqb x y) 1 0 + occurs y xs

occurs_is : (y : ℕ) (xs : List ℕ) → sum_by (λ (x : ℕ). cond (eqb x y) 1 0) xs ≡ occurs y xs
occurs_is y [] = refl
occurs_is y (x ∷ xs) =
    sum_by-cons (λ (z : ℕ). cond (eqb z y) 1 0) x xs ∙ ap (λ (n : ℕ). cond (eqb x y) 1 0 + n) (occurs_is y xs)

occurs_same : (xs ys : List ℕ) → IsPermutation xs ys → (y : ℕ) → occurs y ys ≡ occurs y xs
occurs_same xs ys moved y =
    sym (occurs_is y ys) ∙ sum_by-IsPermutation (λ (x : ℕ). cond (eqb x y) 1 0) xs ys moved ∙ occurs_is y xs

occurs_place : (y : ℕ) (xs : List ℕ) → 0 < occurs y xs → (i : ℕ) × (i < length xs) × (get_or xs i 0 ≡ y)
occurs_place y [] some = absurd (omega arith)
occurs_place y (x ∷ xs) some =
    elim (cases_Bool (eqb x y)) [
      | inl here ↦ (0, omega arith, eqb-true x y here)
      | inr other ↦
          let later = occurs_place y xs (omega (arith, cond-false {A = ℕ} (eqb x y) 1 0 other)) in
          (suc later.0, omega (arith, later.1), later.2)
    ]

occurs_first : (x : ℕ) (xs : List ℕ) → 0 < occurs x (x ∷ xs)
occurs_first x xs = omega (arith, cond-true {A = ℕ} (eqb x x) 1 0 (eq-eqb x x refl))

module _ (pairs : List (ℕ × ℕ)) where
  sorted_tail : (x : ℕ) (xs : List ℕ) → IsSortedBy (branches_before pairs) (x ∷ xs) → IsSortedBy (branches_before pairs) xs
  sorted_tail x xs up k d low high =
      let next : suc k + 1 ≡ suc (k + 1) = omega arith in
      subst (λ (n : ℕ). branches_before pairs (get_or (x ∷ xs) n d) (get_or xs k d) ≡ false) next (up (suc k) d (omega arith) (omega arith))

  -- what occurs in a sorted list doesn't come before the first
  not_before : (x y : ℕ) (xs : List ℕ) → IsSortedBy (branches_before pairs) (x ∷ xs) → 0 < occurs y (x ∷ xs) → branches_before pairs y x ≡ false
  not_before x y xs up some =
      let place = occurs_place y (x ∷ xs) some in
      ap (λ (n : ℕ). branches_before pairs n x) (sym place.2) ∙ sorted_far (branches_before pairs) (is_order pairs) (x ∷ xs) up 0 place.0 0 (omega arith) place.1

  same_order : (xs ys : List ℕ) → IsSortedBy (branches_before pairs) xs → IsSortedBy (branches_before pairs) ys → ((y : ℕ) → occurs y ys ≡ occurs y xs) → xs ≡ ys
  same_order [] [] one two same = refl
  same_order [] (y ∷ ys) one two same = absurd (omega (arith, same y, occurs_first y ys))
  same_order (x ∷ xs) [] one two same = absurd (omega (arith, same x, occurs_first x xs))
  same_order (x ∷ xs) (y ∷ ys) one two same =
      let first : x ≡ y =
      no_ties pairs x y
      (not_before y x ys two (omega (arith, same x, occurs_first x xs)))
      (not_before x y xs one (omega (arith, same y, occurs_first y ys)))
      in
      let rest : xs ≡ ys =
      same_order xs ys (sorted_tail x xs one) (sorted_tail y ys two) (λ z. omega (arith, same z, ap {B = ℕ} (λ (n : ℕ). cond (eqb n z) 1 0) first))
      in
      λ t. first t ∷ rest t

pub one_order : OneBranchingOrder
one_order pairs count one other first second =
    same_order pairs one other first.in_order second.in_order
    (occurs_same one other (IsPermutation-trans one (range_with_len 0 count) other (IsPermutation-sym (range_with_len 0 count) one first.each_once) second.each_once))

-- The tables of a program with few events are small.
use Rattle.std.proofs.Common.{◌≡◌, ℕ, suc, ◌+◌, ◌-◌, ◌*◌, ◌≤◌, Bool, true, false, cond, ◌&&◌, not, List, [], ◌∷◌, ◌++◌, map, length, subst, arith}
use Rattle.std.specs.List.{filter, flat_map, range_with_len}
use Rattle.std.proofs.Math.Nat.{suc-mul}
use Rattle.std.proofs.lemmas.List.{length-append, length-map}
use Rattle.std.proofs.lemmas.List.FromFn.{length-map-range_with_len, length-range_with_len}
use Rattle.std.proofs.lemmas.List.Sums.{count_by-le-length, length-filter}
use Rattle.callorder.specs.Programs.{MpiProgram, are_fit, is_probe, are_of_one_rank}
use Rattle.candidates.specs.Pairs.{places, takers_of, probes_of, matching_pairs, seeing_pairs}
use Rattle.formula.specs.declared.facts.Fact.TheVariants.{Issued as issued, Buffered as buffered, Matched as matched, Unfinished as unfinished}
use Rattle.formula.specs.Families.{events, is_standard, standard_sends, last_calls, rank_of}
use Rattle.formula.specs.Orders.{between, event_pairs, is_among, stated_orders, used_pairs}
use Rattle.formula.specs.Numbering.{facts}
use Rattle.formula_tables.specs.Numbers.{IsSmall}
use Rattle.formula_tables.proofs.BitsFor.{few_bits}
use Rattle.formula_tables.proofs.EventSlots.{events_count}

length-filter_most : {X : Type 0} (test : X → Bool) (xs : List X) → length (filter test xs) ≤ length xs
length-filter_most test xs = omega (arith, length-filter test xs, count_by-le-length test xs)

-- lists of at most so many elements each
length-flat_map_most : {X Y : Type 0} (f : X → List Y) (most : ℕ) (xs : List X) → ((x : X) → length (f x) ≤ most) → length (flat_map f xs) ≤ length xs * most
length-flat_map_most f most [] h = omega arith
length-flat_map_most f most (x ∷ xs) h =
    let rest = length-flat_map_most f most xs h in
    let both = length-append (f x) (flat_map f xs) in
    let product : suc (length xs) * most ≡ length xs * most + most = suc-mul (length xs) most in
    omega (arith, rest, both, product, h x)

square_most : (n most : ℕ) → n ≤ most → n * n ≤ most * most
square_most n most h = grind arith

-- lists of which two together have at most so many elements
length-two_most : {X Y : Type 0} (f g : X → List Y) (most : ℕ) (xs : List X) → ((x : X) → length (f x) + length (g x) ≤ most) → length (flat_map f xs) + length (flat_map g xs) ≤ length xs * most
length-two_most f g most [] h = omega arith
length-two_most f g most (x ∷ xs) h =
    let rest = length-two_most f g most xs h in
    let one = length-append (f x) (flat_map f xs) in
    let other = length-append (g x) (flat_map g xs) in
    let product : suc (length xs) * most ≡ length xs * most + most = suc-mul (length xs) most in
    omega (arith, rest, one, other, product, h x)

split_step : {X : Type 0} (x : X) (left right xs : List X) (a b : Bool) → length left + length right ≤ length xs → length (cond (a && not b) (x ∷ left) left) + length (cond (a && b) (x ∷ right) right) ≤ suc (length xs)
split_step x left right xs true true h = omega (arith, h)
split_step x left right xs true false h = omega (arith, h)
split_step x left right xs false b h = omega (arith, h)

-- no element passes both
split_most : {X : Type 0} (a b : X → Bool) (xs : List X) → length (filter (λ x. a x && not (b x)) xs) + length (filter (λ x. a x && b x) xs) ≤ length xs
split_most a b [] = omega arith
split_most a b (x ∷ xs) = split_step x (filter (λ y. a y && not (b y)) xs) (filter (λ y. a y && b y) xs) xs (a x) (b x) (split_most a b xs)

pairs_most : (p : MpiProgram) → length (matching_pairs p) + length (seeing_pairs p) ≤ length p.calls * length p.calls
pairs_most p =
    let calls = length-range_with_len 0 (length p.calls) in
    let pair : ℕ → ℕ → ℕ × ℕ = λ send finder. (send, finder) in
    let rows = length-two_most (λ send. map (pair send) (takers_of p send)) (λ send. map (pair send) (probes_of p send)) (length p.calls) (places p) (λ send.
    omega (arith, length-map (takers_of p send) (pair send), length-map (probes_of p send) (pair send), split_most (are_fit p send) (is_probe p) (places p), calls)) in
    subst (λ (n : ℕ). length (matching_pairs p) + length (seeing_pairs p) ≤ n * length p.calls) calls rows

facts_most : (p : MpiProgram) → length (facts p) ≤ 3 * length p.calls + length p.calls * length p.calls
facts_most p =
    let first = map issued (places p) in
    let second = map buffered (standard_sends p) in
    let third = map (λ pair. matched pair.0 pair.1) (matching_pairs p) in
    let fifth = map (λ pair. matched pair.0 pair.1) (seeing_pairs p) in
    let fourth = map (λ c. unfinished (rank_of p c)) (last_calls p) in
    omega (
      arith,
      pairs_most p,
      length-range_with_len 0 (length p.calls),
      length-append (first ++ second ++ third ++ fourth) fifth,
      length-append (first ++ second ++ third) fourth,
      length-map (seeing_pairs p) (λ pair. matched pair.0 pair.1),
      length-append (first ++ second) third,
      length-append first second,
      length-map (places p) issued,
      length-map (standard_sends p) buffered,
      length-map (matching_pairs p) (λ pair. matched pair.0 pair.1),
      length-map (last_calls p) (λ c. unfinished (rank_of p c)),
      length-filter_most (is_standard p) (places p),
      length-filter_most (λ c. not (are_of_one_rank p c (c + 1))) (places p),
    )

event_pairs_most : (most : ℕ) → length (event_pairs most) ≤ most * most
event_pairs_most most =
    let pair : ℕ → ℕ → ℕ × ℕ = λ e f. (e, f) in
    let rows = length-flat_map_most (λ e. map (pair e) (between e most)) most (range_with_len 0 most) (λ e.
    omega (arith, length-map-range_with_len (pair e) (e + 1) (most - (e + 1)))) in
    subst (λ (n : ℕ). length (event_pairs most) ≤ n * most) (length-range_with_len 0 most) rows

used_most : (p : MpiProgram) → length (used_pairs p) ≤ length (events p) * length (events p)
used_most p =
    omega (arith, event_pairs_most (length (events p)), length-filter_most (is_among (stated_orders p)) (event_pairs (length (events p))))

-- a program with few events has few calls, facts, used pairs and bits
pub small_from : (p : MpiProgram) → length (events p) ≤ 1024 → IsSmall p
small_from p few =
    let calls : length p.calls ≤ 1024 = omega (arith, few, events_count p) in
    record {
      calls = calls;
      events = few;
      bits = few_bits (length (events p)) few;
      facts = omega (arith, facts_most p, square_most (length p.calls) 1024 calls, calls);
      used = omega (arith, used_most p, square_most (length (events p)) 1024 few);
    }

-- Clauses that hold, one by one and in lists.
use Rattle.std.proofs.Common.{◌≡◌, ℕ, zero, suc, ◌+◌, ◌<◌, ◌≤◌, Bool, true, false, cond, not, ◌||◌, ◌==◌, List, [], ◌∷◌, map, refl, sym, subst, inl, inr, arith}
use Rattle.std.proofs.lemmas.Bool.{cases_eq}
use Rattle.std.proofs.lemmas.Bool.Decides.{nat_tests}
use Rattle.std.proofs.lemmas.Grind.{flat_map-append}
use Rattle.std.proofs.lemmas.List.Folds.{flat_map-map}
use Rattle.std.specs.List.{filter, flat_map, list_any, list_all, range_with_len}
use Rattle.callorder.specs.Programs.{MpiProgram, takes, sees}
use Rattle.candidates.specs.Pairs.{places, takers_of, probes_of, matching_pairs, seeing_pairs}
use Rattle.formula.specs.Families.{SymbolicClause}
use Rattle.formula.proofs.Elements.{and_both, or_left, or_right, all_append}

-- a clause that begins with a negated statement, and with two
pub or_not : (a b : Bool) → (a ≡ true → b ≡ true) → (not a || b) ≡ true
or_not true b h = h refl
or_not false b h = refl

pub or_not_not : (a b c : Bool) → (a ≡ true → b ≡ true → c ≡ true) → (not a || (not b || c)) ≡ true
or_not_not a b c h = or_not a (not b || c) (λ e. or_not b c (h e))

-- the last statement of a clause
pub or_last : (a : Bool) → a ≡ true → (a || false) ≡ true
or_last a e = or_left a false e

-- ---- lists of clauses

pub all_made : {X Y : Type 0} (test : Y → Bool) (f : X → List Y) (xs : List X) → ((x : X) → list_all test (f x) ≡ true) → list_all test (flat_map f xs) ≡ true
all_made test f [] h = refl
all_made test f (x ∷ xs) h = all_append test (f x) (flat_map f xs) (h x) (all_made test f xs h)

-- along what passes a test
all_made_step : {X Y : Type 0} (test : Y → Bool) (f : X → List Y) (x : X) (xs : List X) (b : Bool) → (b ≡ true → list_all test (f x) ≡ true) → list_all test (flat_map f xs) ≡ true → list_all test (flat_map f (cond b (x ∷ xs) xs)) ≡ true
all_made_step test f x xs true h rest = all_append test (f x) (flat_map f xs) (h refl) rest
all_made_step test f x xs false h rest = rest

pub all_made_where : {X Y : Type 0} (test : Y → Bool) (f : X → List Y) (keep : X → Bool) (xs : List X) → ((x : X) → keep x ≡ true → list_all test (f x) ≡ true) → list_all test (flat_map f (filter keep xs)) ≡ true
all_made_where test f keep [] h = refl
all_made_where test f keep (x ∷ xs) h = all_made_step test f x (filter keep xs) (keep x) (h x) (all_made_where test f keep xs h)

all_mapped_step : {X Y : Type 0} (test : Y → Bool) (f : X → Y) (x : X) (xs : List X) (b : Bool) → (b ≡ true → test (f x) ≡ true) → list_all test (map f xs) ≡ true → list_all test (map f (cond b (x ∷ xs) xs)) ≡ true
all_mapped_step test f x xs true h rest = and_both (test (f x)) _ (h refl) rest
all_mapped_step test f x xs false h rest = rest

pub all_mapped_where : {X Y : Type 0} (test : Y → Bool) (f : X → Y) (keep : X → Bool) (xs : List X) → ((x : X) → keep x ≡ true → test (f x) ≡ true) → list_all test (map f (filter keep xs)) ≡ true
all_mapped_where test f keep [] h = refl
all_mapped_where test f keep (x ∷ xs) h = all_mapped_step test f x (filter keep xs) (keep x) (h x) (all_mapped_where test f keep xs h)

-- along what passes two tests
all_mapped_twice_step : {X Y : Type 0} (test : Y → Bool) (f : X → Y) (keep more : X → Bool) (x : X) (xs : List X) (b : Bool) → (more x ≡ true → b ≡ true → test (f x) ≡ true) → list_all test (map f (filter more xs)) ≡ true → list_all test (map f (filter more (cond b (x ∷ xs) xs))) ≡ true
all_mapped_twice_step test f keep more x xs true h rest = all_mapped_step test f x (filter more xs) (more x) (λ e. h e refl) rest
all_mapped_twice_step test f keep more x xs false h rest = rest

pub all_mapped_twice : {X Y : Type 0} (test : Y → Bool) (f : X → Y) (keep more : X → Bool) (xs : List X) → ((x : X) → more x ≡ true → keep x ≡ true → test (f x) ≡ true) → list_all test (map f (filter more (filter keep xs))) ≡ true
all_mapped_twice test f keep more [] h = refl
all_mapped_twice test f keep more (x ∷ xs) h =
    all_mapped_twice_step test f keep more x (filter keep xs) (keep x) (h x) (all_mapped_twice test f keep more xs h)

-- along a range
pub all_made_range : {Y : Type 0} (test : Y → Bool) (f : ℕ → List Y) (low n high : ℕ) → low + n ≡ high → ((x : ℕ) → low ≤ x → x < high → list_all test (f x) ≡ true) → list_all test (flat_map f (range_with_len low n)) ≡ true
all_made_range test f low zero high e h = refl
all_made_range test f low (suc n) high e h =
    all_append test (f low) (flat_map f (range_with_len (low + 1) n)) (h low (omega arith) (omega (arith, e)))
    (all_made_range test f (low + 1) n high (omega (arith, e)) (λ x from below. h x (omega (arith, from)) below))

-- along what passes a test in a range
pub all_made_within : {Y : Type 0} (test : Y → Bool) (f : ℕ → List Y) (keep : ℕ → Bool) (low n high : ℕ) → low + n ≡ high → ((x : ℕ) → x < high → keep x ≡ true → list_all test (f x) ≡ true) → list_all test (flat_map f (filter keep (range_with_len low n))) ≡ true
all_made_within test f keep low zero high e h = refl
all_made_within test f keep low (suc n) high e h =
    all_made_step test f low (filter keep (range_with_len (low + 1) n)) (keep low) (h low (omega (arith, e))) (all_made_within test f keep (low + 1) n high (omega (arith, e)) h)

-- along the pairs of a send and a taker that fit
all_made_twice : {X Y Z : Type 0} (test : Z → Bool) (f : Y → List Z) (g : X → List Y) (xs : List X) → ((x : X) → list_all test (flat_map f (g x)) ≡ true) → list_all test (flat_map f (flat_map g xs)) ≡ true
all_made_twice test f g [] h = refl
all_made_twice test f g (x ∷ xs) h =
    rw (flat_map-append f (g x) (flat_map g xs)) (all_append test (flat_map f (g x)) (flat_map f (flat_map g xs)) (h x) (all_made_twice test f g xs h))

pub pairs_hold : (p : MpiProgram) (test : SymbolicClause → Bool) (clauses : ℕ → ℕ → List SymbolicClause) → ((send taker : ℕ) → takes p send taker ≡ true → list_all test (clauses send taker) ≡ true) → list_all test (flat_map (λ pair. clauses pair.0 pair.1) (matching_pairs p)) ≡ true
pairs_hold p test clauses h =
    all_made_twice test (λ (pair : ℕ × ℕ). clauses pair.0 pair.1) (λ (send : ℕ). map (λ (taker : ℕ). (send, taker)) (takers_of p send)) (places p) one
  where
    one : (send : ℕ) → list_all test (flat_map (λ (pair : ℕ × ℕ). clauses pair.0 pair.1) (map (λ (taker : ℕ). (send, taker)) (takers_of p send))) ≡ true
    one send =
        rw (flat_map-map (λ (pair : ℕ × ℕ). clauses pair.0 pair.1) (λ (taker : ℕ). (send, taker)) (takers_of p send))
        (all_made_where test (clauses send) (takes p send) (places p) (h send))

pub seeing_pairs_hold : (p : MpiProgram) (test : SymbolicClause → Bool) (clauses : ℕ → ℕ → List SymbolicClause) → ((send taker : ℕ) → sees p send taker ≡ true → list_all test (clauses send taker) ≡ true) → list_all test (flat_map (λ pair. clauses pair.0 pair.1) (seeing_pairs p)) ≡ true
seeing_pairs_hold p test clauses h =
    all_made_twice test (λ (pair : ℕ × ℕ). clauses pair.0 pair.1) (λ (send : ℕ). map (λ (taker : ℕ). (send, taker)) (probes_of p send)) (places p) one
  where
    one : (send : ℕ) → list_all test (flat_map (λ (pair : ℕ × ℕ). clauses pair.0 pair.1) (map (λ (taker : ℕ). (send, taker)) (probes_of p send))) ≡ true
    one send =
        rw (flat_map-map (λ (pair : ℕ × ℕ). clauses pair.0 pair.1) (λ (taker : ℕ). (send, taker)) (probes_of p send))
        (all_made_where test (clauses send) (sees p send) (places p) (h send))

-- ---- a statement along a list

-- whether the number stands in the list
abbrev pub has_number : List ℕ → ℕ → Bool
has_number xs k = list_any (λ x. x == k) xs

pub in_range : (low n k : ℕ) → low ≤ k → k < low + n → has_number (range_with_len low n) k ≡ true
in_range low zero k from below = absurd (omega arith)
in_range low (suc n) k from below =
    elim (cases_eq low k) [
      | inl e ↦ or_left (low == k) _ (rw e (grind (arith, nat_tests)))
      | inr differ ↦ or_right (low == k) _ (in_range (low + 1) n k (omega arith) (omega arith))
    ]

in_filter_step : (keep : ℕ → Bool) (x : ℕ) (xs : List ℕ) (k : ℕ) (b : Bool) → keep x ≡ b → keep k ≡ true → ((x == k) || has_number xs k) ≡ true → (has_number xs k ≡ true → has_number (filter keep xs) k ≡ true) → has_number (cond b (x ∷ filter keep xs) (filter keep xs)) k ≡ true
in_filter_step keep x xs k true e passes h rest = or_second (x == k) (has_number xs k) (has_number (filter keep xs) k) h rest
  where
    or_second : (a b c : Bool) → (a || b) ≡ true → (b ≡ true → c ≡ true) → (a || c) ≡ true
    or_second true b c e h = refl
    or_second false b c e h = h e
in_filter_step keep x xs k false e passes h rest =
    elim (cases_eq x k) [
      | inl same ↦ absurd (let f : keep k ≡ false = subst (λ (z : ℕ). keep z ≡ false) same e in cc)
      | inr differ ↦ rest (let f : (x == k) ≡ false = grind (arith, nat_tests) in rw f at h)
    ]

pub in_filter : (keep : ℕ → Bool) (xs : List ℕ) (k : ℕ) → keep k ≡ true → has_number xs k ≡ true → has_number (filter keep xs) k ≡ true
in_filter keep [] k passes h = absurd (cc)
in_filter keep (x ∷ xs) k passes h = in_filter_step keep x xs k (keep x) refl passes h (in_filter keep xs k passes)

pub any_mapped : {Y : Type 0} (test : Y → Bool) (f : ℕ → Y) (xs : List ℕ) (k : ℕ) → has_number xs k ≡ true → test (f k) ≡ true → list_any test (map f xs) ≡ true
any_mapped test f [] k h passes = absurd (cc)
any_mapped test f (x ∷ xs) k h passes =
    elim (cases_eq x k) [
      | inl same ↦ or_left (test (f x)) _ (subst (λ (z : ℕ). test (f z) ≡ true) (sym same) passes)
      | inr differ ↦ or_right (test (f x)) _ (any_mapped test f xs k (let e : (x == k) ≡ false = grind (arith, nat_tests) in rw e at h) passes)
    ]

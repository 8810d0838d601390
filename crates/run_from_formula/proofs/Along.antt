-- From clauses that hold to what they say: one by one, and along lists.
use Rattle.std.proofs.Common.{◌≡◌, ℕ, ◌<◌, Bool, true, false, cond, not, ◌||◌, List, [], ◌∷◌, map, length, refl, sym, ◌∙◌, arith}
use Rattle.std.specs.List.{filter, flat_map, list_any, list_all, range_with_len}
use Rattle.std.proofs.lemmas.Bool.{and_parts}
use Rattle.callorder.specs.Programs.{MpiProgram, are_fit, takes, sees}
use Rattle.candidates.specs.Pairs.{places, takers_of, matching_pairs, seeing_pairs}
use Rattle.formula.specs.Families.{SymbolicClause, sends_of}
use Rattle.formula.proofs.Elements.{Each, and_both, each_parts, each_from, each_mono, each_filter, each_from_all, each_range_at, each_at_test, any_map}
use Rattle.formula.proofs.Times.{each_of_map}

-- ---- one clause

-- a clause that begins with a negated statement, and with two
pub or_then : (a b : Bool) → (not a || b) ≡ true → a ≡ true → b ≡ true
or_then true b h e = h
or_then false b h e = absurd (cc)

pub or_then_then : (a b c : Bool) → (not a || (not b || c)) ≡ true → a ≡ true → b ≡ true → c ≡ true
or_then_then a b c h e f = or_then b c (or_then a (not b || c) h e) f

-- the last statement of a clause
pub or_only : (a : Bool) → (a || false) ≡ true → a ≡ true
or_only true h = refl
or_only false h = absurd (cc)

-- a clause whose rest isn't right
pub or_first : (a b : Bool) → (a || b) ≡ true → b ≡ false → a ≡ true
or_first true b h e = refl
or_first false b h e = absurd (cc)

-- ---- lists

pub each_passes : {X : Type 0} (test : X → Bool) (xs : List X) → list_all test xs ≡ true → Each (λ x. test x ≡ true) xs
each_passes test [] h = tt
each_passes test (x ∷ xs) h = let parts = and_parts (test x) (list_all test xs) h in (parts.0, each_passes test xs parts.1)

pub all_pass : {X : Type 0} (test : X → Bool) (xs : List X) → Each (λ x. test x ≡ true) xs → list_all test xs ≡ true
all_pass test [] h = refl
all_pass test (x ∷ xs) h = and_both (test x) (list_all test xs) h.0 (all_pass test xs h.1)

pub each_of_made : {X Y : Type 0} (P : Y → Type 0) (f : X → List Y) (xs : List X) → Each P (flat_map f xs) → Each (λ x. Each P (f x)) xs
each_of_made P f [] h = tt
each_of_made P f (x ∷ xs) h = let parts = each_parts P (f x) (flat_map f xs) h in (parts.0, each_of_made P f xs parts.1)

kept_parts : {X : Type 0} (P : X → Type 0) (x : X) (rest : List X) (b : Bool) → Each P (cond b (x ∷ rest) rest) → (b ≡ true → P x) × Each P rest
kept_parts P x rest true h = (λ _. h.0, h.1)
kept_parts P x rest false h = (λ e. absurd (cc), h)

pub each_of_kept : {X : Type 0} (P : X → Type 0) (keep : X → Bool) (xs : List X) → Each P (filter keep xs) → Each (λ x. keep x ≡ true → P x) xs
each_of_kept P keep [] h = tt
each_of_kept P keep (x ∷ xs) h =
    let parts = kept_parts P x (filter keep xs) (keep x) h in
    (parts.0, each_of_kept P keep xs parts.1)

-- at a number below the end that passes
pub kept_at : (P : ℕ → Type 0) (keep : ℕ → Bool) (n : ℕ) → Each P (filter keep (range_with_len 0 n)) → (k : ℕ) → k < n → keep k ≡ true → P k
kept_at P keep n h k below passes =
    each_range_at (λ x. keep x ≡ true → P x) 0 n (each_of_kept P keep (range_with_len 0 n) h) k (omega arith) (omega (arith, below)) passes

pub each_kept : {X : Type 0} (P : X → Type 0) (keep : X → Bool) (xs : List X) → Each P xs → Each P (filter keep xs)
each_kept P keep xs h = each_filter P keep xs (each_mono P (λ x. keep x ≡ true → P x) (λ x k _. k) xs h)

-- what passes a test passes it
each_passed : {X : Type 0} (keep : X → Bool) (xs : List X) → Each (λ x. keep x ≡ true) (filter keep xs)
each_passed keep xs = each_filter (λ x. keep x ≡ true) keep xs (each_from (λ x. keep x ≡ true → keep x ≡ true) (λ x h. h) xs)

-- an item of a list of which a statement is right, and what holds of it
pub found_mapped : {X Y : Type 0} (P : X → Type 0) (test : Y → Bool) (f : X → Y) (xs : List X) → Each P xs → list_any test (map f xs) ≡ true → (x : X) × (test (f x) ≡ true) × P x
found_mapped P test f xs each h = each_at_test P (λ x. test (f x)) xs each (sym (any_map test f xs) ∙ h)

-- ---- clauses of calls and of pairs

pub at_call : (p : MpiProgram) (test : SymbolicClause → Bool) (clauses : ℕ → List SymbolicClause) → list_all test (flat_map clauses (places p)) ≡ true → (c : ℕ) → c < length p.calls → list_all test (clauses c) ≡ true
at_call p test clauses h c below =
    each_range_at (λ k. list_all test (clauses k) ≡ true) 0 (length p.calls) (each_from_all test clauses (places p) h) c (omega arith) (omega (arith, below))

at_pair_of : (p : MpiProgram) (kind : ℕ → ℕ → Bool) (test : SymbolicClause → Bool) (clauses : ℕ → ℕ → List SymbolicClause) → list_all test (flat_map (λ (pair : ℕ × ℕ). clauses pair.0 pair.1) (flat_map (λ send. map (λ finder. (send, finder)) (filter (kind send) (places p))) (places p))) ≡ true → (s t : ℕ) → s < length p.calls → t < length p.calls → kind s t ≡ true → list_all test (clauses s t) ≡ true
at_pair_of p kind test clauses h s t s_below t_below fit =
    let P : ℕ × ℕ → Type 0 = λ pair. list_all test (clauses pair.0 pair.1) ≡ true in
    let all = each_from_all test (λ (pair : ℕ × ℕ). clauses pair.0 pair.1) (flat_map (λ send. map (λ finder. (send, finder)) (filter (kind send) (places p))) (places p)) h in
    let rows = each_of_made P (λ send. map (λ finder. (send, finder)) (filter (kind send) (places p))) (places p) all in
    let row = each_range_at (λ send. Each P (map (λ finder. (send, finder)) (filter (kind send) (places p)))) 0 (length p.calls) rows s (omega arith) (omega (arith, s_below)) in
    kept_at (λ finder. P (s, finder)) (kind s) (length p.calls) (each_of_map P (λ (finder : ℕ). (s, finder)) (filter (kind s) (places p)) row) t t_below fit

pub at_pair : (p : MpiProgram) (test : SymbolicClause → Bool) (clauses : ℕ → ℕ → List SymbolicClause) → list_all test (flat_map (λ pair. clauses pair.0 pair.1) (matching_pairs p)) ≡ true → (s t : ℕ) → s < length p.calls → t < length p.calls → takes p s t ≡ true → list_all test (clauses s t) ≡ true
at_pair p test clauses h = at_pair_of p (takes p) test clauses h

pub at_seeing_pair : (p : MpiProgram) (test : SymbolicClause → Bool) (clauses : ℕ → ℕ → List SymbolicClause) → list_all test (flat_map (λ pair. clauses pair.0 pair.1) (seeing_pairs p)) ≡ true → (s t : ℕ) → s < length p.calls → t < length p.calls → sees p s t ≡ true → list_all test (clauses s t) ≡ true
at_seeing_pair p test clauses h = at_pair_of p (sees p) test clauses h

pub takers_take : (p : MpiProgram) (s : ℕ) → Each (λ t. takes p s t ≡ true) (takers_of p s)
takers_take p s = each_passed (takes p s) (places p)

pub sends_fit : (p : MpiProgram) (t : ℕ) → Each (λ s. are_fit p s t ≡ true) (sends_of p t)
sends_fit p t = each_passed (λ s. are_fit p s t) (places p)

-- What is renumbered keeps its limits and its shape.
use Rattle.std.proofs.Common.{◌≡◌, ℕ, zero, suc, ◌+◌, ◌<◌, ◌≤◌, ◌⊎◌, inl, inr, Bool, true, false, ◌&&◌, nat_le, nat_lt, IsTrue, List, [], ◌∷◌, ◌++◌, Some, map, length, take, drop, get_or, slice_get, slice_set, refl, sym, ap, ◌∙◌, arith}
use Rattle.std.specs.Iterator.{Yields}
use Rattle.std.specs.List.{list_all}
use Rattle.std.specs.Vec.Iter.{into_iter_items, into_iter_steps}
use Rattle.std.specs.declared.vec.IntoIter.{IntoIter}
use Rattle.std.proofs.lemmas.List.{map-append}
use Rattle.std.proofs.lemmas.Bool.{and_parts, and_from, leb-true, le-leb}
use Rattle.refutations.specs.declared.tree.Node.{Node}
use Rattle.refutations.specs.declared.tree.Node.TheVariants.{Split, Leaf}
use Rattle.refutations.specs.Proofs.{is_proof_number, are_numbers, are_numbered, are_trees, missing_after}
use Rattle.trimming.specs.Needed.{kept, renumber, renumbered_node}
use Rattle.trimming.proofs.Counting.{renumber_most, renumber_least}

number_renumbered : (clauses : ℕ) (flags : List Bool) (n : ℕ) → IsTrue (is_proof_number n) → IsTrue (is_proof_number (renumber clauses flags n))
number_renumbered clauses flags n h =
    let parts = and_parts (nat_le 1 n) (nat_le n 2147483647) h in
    let most = leb-true n 2147483647 parts.1 in
    let least = leb-true 1 n parts.0 in
    and_from (nat_le 1 (renumber clauses flags n)) (nat_le (renumber clauses flags n) 2147483647)
    (le-leb 1 (renumber clauses flags n) (renumber_least clauses flags n least))
    (le-leb (renumber clauses flags n) 2147483647 (omega (arith, most, renumber_most clauses flags n)))

pub numbers_renumbered : (clauses : ℕ) (flags : List Bool) (numbers : List ℕ) → IsTrue (are_numbers numbers) → IsTrue (are_numbers (map (renumber clauses flags) numbers))
numbers_renumbered clauses flags [] h = h
numbers_renumbered clauses flags (n ∷ numbers) h =
    let parts = and_parts (is_proof_number n) (are_numbers numbers) h in
    and_from (is_proof_number (renumber clauses flags n)) (are_numbers (map (renumber clauses flags) numbers)) (number_renumbered clauses flags n parts.0) (numbers_renumbered clauses flags numbers parts.1)

pub nodes_renumbered : (clauses : ℕ) (flags : List Bool) (nodes : List Node) → IsTrue (are_numbered nodes) → IsTrue (are_numbered (map (renumbered_node (renumber clauses flags)) nodes))
nodes_renumbered clauses flags [] h = h
nodes_renumbered clauses flags (Split v ∷ nodes) h =
    let parts = and_parts (is_proof_number v) (are_numbered nodes) h in
    and_from (is_proof_number v) (are_numbered (map (renumbered_node (renumber clauses flags)) nodes)) parts.0 (nodes_renumbered clauses flags nodes parts.1)
nodes_renumbered clauses flags (Leaf k ∷ nodes) h =
    let parts = and_parts (is_proof_number k) (are_numbered nodes) h in
    and_from (is_proof_number (renumber clauses flags k)) (are_numbered (map (renumbered_node (renumber clauses flags)) nodes)) (number_renumbered clauses flags k parts.0) (nodes_renumbered clauses flags nodes parts.1)

pub trees_renumbered : (new : ℕ → ℕ) (missing : ℕ) (nodes : List Node) → are_trees missing (map (renumbered_node new) nodes) ≡ are_trees missing nodes
trees_renumbered new missing [] = refl
trees_renumbered new missing (Split v ∷ nodes) = ap (λ (b : Bool). nat_lt 0 missing && b) (trees_renumbered new (missing_after missing (Split v)) nodes)
trees_renumbered new missing (Leaf k ∷ nodes) = ap (λ (b : Bool). nat_lt 0 missing && b) (trees_renumbered new (missing_after missing (Leaf k)) nodes)

-- no more lines are kept than there are, and each of them passes what all pass
pub length_kept : {X : Type 0} (flags : List Bool) (xs : List X) → length (kept flags xs) ≤ length xs
length_kept [] xs = omega arith
length_kept (flag ∷ flags) [] = omega arith
length_kept (true ∷ flags) (x ∷ xs) = omega (arith, length_kept flags xs)
length_kept (false ∷ flags) (x ∷ xs) = omega (arith, length_kept flags xs)

pub kept_pass : {X : Type 0} (test : X → Bool) (flags : List Bool) (xs : List X) → list_all test xs ≡ true → list_all test (kept flags xs) ≡ true
kept_pass test [] xs all = refl
kept_pass test (flag ∷ flags) [] all = refl
kept_pass test (true ∷ flags) (x ∷ xs) all =
    let parts = and_parts (test x) (list_all test xs) all in
    and_from (test x) (list_all test (kept flags xs)) parts.0 (kept_pass test flags xs parts.1)
kept_pass test (false ∷ flags) (x ∷ xs) all = kept_pass test flags xs (and_parts (test x) (list_all test xs) all).1

-- one more item is kept, or left out
pub kept_none : {X : Type 0} (flags : List Bool) → kept {X = X} flags [] ≡ []
kept_none [] = refl
kept_none (flag ∷ flags) = refl

pub one_more_kept : {X : Type 0} (flags : List Bool) (xs : List X) (x : X) → slice_get flags (length xs) ≡ Some true → kept flags (xs ++ x ∷ []) ≡ kept flags xs ++ x ∷ []
one_more_kept [] xs x at = absurd (cc)
one_more_kept {X} (true ∷ flags) [] x at = ap (λ (l : List X). x ∷ l) (kept_none flags)
one_more_kept (false ∷ flags) [] x at = absurd (cc)
one_more_kept {X} (true ∷ flags) (y ∷ ys) x at = ap (λ (l : List X). y ∷ l) (one_more_kept flags ys x at)
one_more_kept (false ∷ flags) (y ∷ ys) x at = one_more_kept flags ys x at

pub one_more_left_out : {X : Type 0} (flags : List Bool) (xs : List X) (x : X) → slice_get flags (length xs) ≡ Some false → kept flags (xs ++ x ∷ []) ≡ kept flags xs
one_more_left_out [] xs x at = absurd (cc)
one_more_left_out (true ∷ flags) [] x at = absurd (cc)
one_more_left_out (false ∷ flags) [] x at = kept_none flags
one_more_left_out {X} (true ∷ flags) (y ∷ ys) x at = ap (λ (l : List X). y ∷ l) (one_more_left_out flags ys x at)
one_more_left_out (false ∷ flags) (y ∷ ys) x at = one_more_left_out flags ys x at

flag_at : (flags : List Bool) (place : ℕ) → place < length flags → (slice_get flags place ≡ Some true) ⊎ (slice_get flags place ≡ Some false)
flag_at [] place lt = absurd (omega arith)
flag_at (true ∷ flags) zero lt = inl refl
flag_at (false ∷ flags) zero lt = inr refl
flag_at (flag ∷ flags) (suc place) lt = flag_at flags place (omega arith)

-- one more line is kept and renumbered, or left out
pub one_more_line : {X Y : Type 0} (f : X → Y) (flags : List Bool) (xs : List X) (x : X) (old new : List Y) (place : ℕ) → place ≡ length xs → place < length flags → old ≡ map f (kept flags xs)
    → (slice_get flags place ≡ Some true → new ≡ old ++ f x ∷ []) → (slice_get flags place ≡ Some false → new ≡ old) → new ≡ map f (kept flags (xs ++ x ∷ []))
one_more_line {X} {Y} f flags xs x old new place is low so_far if_stays if_goes =
    elim (flag_at flags place low) [
      | inl stays ↦
          let at : slice_get flags (length xs) ≡ Some true = ap (slice_get flags) (sym is) ∙ stays in
          if_stays stays
          ∙ ap (λ (l : List Y). l ++ f x ∷ []) so_far
          ∙ sym (map-append f (kept flags xs) (x ∷ []))
          ∙ ap (map f) (sym (one_more_kept flags xs x at))
      | inr goes ↦
          let at : slice_get flags (length xs) ≡ Some false = ap (slice_get flags) (sym is) ∙ goes in
          if_goes goes ∙ so_far ∙ ap (map f) (sym (one_more_left_out flags xs x at))
    ]

-- one more number is put in its place
pub one_more_put : (f : ℕ → ℕ) (l : List ℕ) (i d v : ℕ) → i < length l → v ≡ f (get_or l i d) → take (i + 1) (slice_set l i v) ++ map f (drop (i + 1) (slice_set l i v)) ≡ take i l ++ map f (drop i l)
one_more_put f [] i d v low is = absurd (omega arith)
one_more_put f (y ∷ l) zero d v low is = ap (λ (n : ℕ). n ∷ map f l) is
one_more_put f (y ∷ l) (suc i) d v low is =
    let e : suc i + 1 ≡ suc (i + 1) = omega arith in
    ap (λ n. take n (y ∷ slice_set l i v) ++ map f (drop n (y ∷ slice_set l i v))) e ∙ ap (λ (t : List ℕ). y ∷ t) (one_more_put f l i d v (omega arith) is)

-- a whole list that is written back
pub written_back : (new old : List ℕ) (n : ℕ) → length new ≡ n → length old ≡ n → take n (new ++ drop (length new) old) ≡ new
written_back [] old zero all whole = refl
written_back [] old (suc n) all whole = absurd (omega arith)
written_back (x ∷ new) [] n all whole = absurd (omega arith)
written_back (x ∷ new) (y ∷ old) zero all whole = absurd (omega arith)
written_back (x ∷ new) (y ∷ old) (suc n) all whole = ap (λ (l : List ℕ). x ∷ l) (written_back new old n (omega arith) (omega arith))

-- what the iterator of a vector has given is a front of its items
pub taken_front : {X A : Type 0} (s : IntoIter X A) (xs : List X) (t : IntoIter X A) → Yields into_iter_steps s xs t → into_iter_items s ≡ xs ++ into_iter_items t
taken_front s [] t y = ap into_iter_items y
taken_front {X} s (x ∷ xs) t y = y.1.0 ∙ ap (λ (ys : List X). x ∷ ys) (taken_front y.0 xs t y.2)

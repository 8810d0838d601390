-- Lines of a batch behind a longer log.
use Rattle.std.proofs.Common.{◌≡◌, ℕ, zero, suc, ◌+◌, ◌-◌, ◌<◌, ◌≤◌, nat_lt, min, Bool, true, false, if◌then◌else◌, List, [], ◌∷◌, ◌++◌, length, map, take, drop, get_or, Option, Some, None, IfSome, slice_set, refl, sym, ap, ◌∙◌, arith, inl, inr}
use Rattle.std.specs.List.{list_all}
use Rattle.std.proofs.lemmas.Bool.{cases_Bool, and_parts, and_from}
use Rattle.std.proofs.lemmas.Bool.Decides.{nat_tests}
use Rattle.std.proofs.lemmas.List.{drop_more, length-append, length-take}
use Rattle.std.proofs.lemmas.List.Folds.{list_all-append}
use Rattle.std.proofs.lemmas.Option.{slice_get-get_or}
use Rattle.pages.proofs.Joined.{slice_get-back}
use Rattle.refutations.specs.declared.batch.BatchLine.{BatchLine}
use Rattle.refutations.specs.declared.batch.Hint.{Hint}
use Rattle.refutations.specs.declared.batch.Hint.TheVariants.{Known, Own}
use Rattle.clauses.specs.Clauses.{Conjunction}
use Rattle.refutations.specs.Proofs.{ProofLine, is_proof_number, are_numbers}
use Rattle.pool.specs.parts.Batches.{capped_move}
use Rattle.pool.specs.Moves.{is_earlier, are_earlier, moved_hint, moved_line}
use Rattle.pool.specs.Replies.{resolved_hint, resolved_lines, DeriveAfter}
use Rattle.pool.proofs.Hints.{number_parts, derived_numbers}

-- ---- what is moved is resolved by the other number

below_test : (old place : ℕ) → nat_lt (old + place) old ≡ false
below_test old place = grind (arith, nat_tests)

hint_moved : (old base : ℕ) (hint : Hint) → is_earlier old hint ≡ true → moved_hint old base (resolved_hint old hint) ≡ resolved_hint base hint
hint_moved old base (Known number) early = ap (λ (b : Bool). if b then number else (number - old) + base) early
hint_moved old base (Own place) early =
    let same : (old + place - old) + base ≡ base + place = omega arith in
    ap (λ (b : Bool). if b then old + place else (old + place - old) + base) (below_test old place) ∙ same

hints_moved : (old base : ℕ) (hints : List Hint) → list_all (is_earlier old) hints ≡ true → map (moved_hint old base) (map (resolved_hint old) hints) ≡ map (resolved_hint base) hints
hints_moved old base [] early = refl
hints_moved old base (hint ∷ hints) early =
    let both = and_parts (is_earlier old hint) (list_all (is_earlier old) hints) early in
    λ i. hint_moved old base hint both.0 i ∷ hints_moved old base hints both.1 i

pub lines_moved : (old base : ℕ) (batch : List BatchLine) → are_earlier old batch ≡ true → map (moved_line old base) (resolved_lines old batch) ≡ resolved_lines base batch
lines_moved old base [] early = refl
lines_moved old base (line ∷ batch) early =
    let both = and_parts (list_all (is_earlier old) line.hints.items) (are_earlier old batch) early in
    λ i. record { literals = line.clause; hints = hints_moved old base line.hints.items both.0 i } ∷ lines_moved old base batch both.1 i

-- ---- numbers that a line can hold

abbrev pub holds : ProofLine → Bool
holds line = are_numbers line.hints

all_at : {X : Type 0} (p : X → Bool) (xs : List X) → ((i : ℕ) (d : X) → i < length xs → p (get_or xs i d) ≡ true) → list_all p xs ≡ true
all_at p [] each = refl
all_at p (x ∷ xs) each = and_from (p x) (list_all p xs) (each zero x (omega arith)) (all_at p xs (λ i d low. each (suc i) d (omega (arith, low))))

-- each hint of a derived line is a number that a line can hold
pub derived_hold : (f : Conjunction) (log lines : List ProofLine) → length f.clauses + length log + length lines ≤ 2147483647 → DeriveAfter f log lines → list_all holds lines ≡ true
derived_hold f log lines few derive =
    all_at holds lines (λ i d low.
    let found = slice_get-back log lines i ∙ slice_get-get_or lines i d low in
    derived_numbers f (take (length log + i) (log ++ lines)) (get_or lines i d)
    (omega (arith, length-take (length log + i) (log ++ lines), length-append log lines, low, few))
    (derive (length log + i) (get_or lines i d) (omega arith) (omega (arith, low)) found))

capped_same : (old base number : ℕ) → is_proof_number (moved_hint old base number) ≡ true → capped_move old base number ≡ moved_hint old base number
capped_same old base number e =
    elim (cases_Bool (nat_lt number old)) [
      | inl below ↦ ap (λ (b : Bool). if b then number else min ((number - old) + base) 4294967295) below ∙ sym (ap (λ (b : Bool). if b then number else (number - old) + base) below)
      | inr above ↦
          let moved : moved_hint old base number ≡ (number - old) + base = ap (λ (b : Bool). if b then number else (number - old) + base) above in
          let cut : capped_move old base number ≡ min ((number - old) + base) 4294967295 = ap (λ (b : Bool). if b then number else min ((number - old) + base) 4294967295) above in
          omega (arith, moved, cut, number_parts (moved_hint old base number) e)
    ]

-- where all can be held, nothing was cut
pub moved_are_capped : (old base : ℕ) (hints : List ℕ) → are_numbers (map (moved_hint old base) hints) ≡ true → map (capped_move old base) hints ≡ map (moved_hint old base) hints
moved_are_capped old base [] e = refl
moved_are_capped old base (hint ∷ hints) e =
    let both = and_parts (is_proof_number (moved_hint old base hint)) (are_numbers (map (moved_hint old base) hints)) e in
    λ i. capped_same old base hint both.0 i ∷ moved_are_capped old base hints both.1 i

-- the same of what may be there
pub some_so : {X A B : Type 0} (found : Option X) → (A → B) → IfSome found (λ _. A) → IfSome found (λ _. B)
some_so None so is = tt
some_so (Some x) so is = so is

-- ---- lists that are changed in place

pub one_more_put : {X : Type 0} (f : X → X) (l : List X) (i : ℕ) (d v : X) → i < length l → v ≡ f (get_or l i d) → take (i + 1) (slice_set l i v) ++ map f (drop (i + 1) (slice_set l i v)) ≡ take i l ++ map f (drop i l)
one_more_put f [] i d v low is = absurd (omega arith)
one_more_put f (y ∷ l) zero d v low is = ap (λ n. n ∷ map f l) is
one_more_put {X} f (y ∷ l) (suc i) d v low is =
    let e : suc i + 1 ≡ suc (i + 1) = omega arith in
    ap (λ n. take n (y ∷ slice_set l i v) ++ map f (drop n (y ∷ slice_set l i v))) e ∙ ap (λ (t : List X). y ∷ t) (one_more_put f l i d v (omega arith) is)

-- a whole list that is written back
pub written_back : {X : Type 0} (new old : List X) (n : ℕ) → length new ≡ n → length old ≡ n → take n (new ++ drop (length new) old) ≡ new
written_back [] old zero all whole = refl
written_back [] old (suc n) all whole = absurd (omega arith)
written_back (x ∷ new) [] n all whole = absurd (omega arith)
written_back (x ∷ new) (y ∷ old) zero all whole = absurd (omega arith)
written_back {X} (x ∷ new) (y ∷ old) (suc n) all whole = ap (λ (l : List X). x ∷ l) (written_back new old n (omega arith) (omega arith))

-- the next one's image passes, where the images of all do
pub next_passes : {X : Type 0} (p : X → Bool) (f : X → X) (l all : List X) (i : ℕ) (d : X) → i < length l → take i l ++ map f (drop i l) ≡ map f all → list_all p (map f all) ≡ true → p (f (get_or l i d)) ≡ true
next_passes {X} p f l all i d low so_far passes =
    let whole : list_all p (take i l ++ map f (drop i l)) ≡ true = ap (list_all p) so_far ∙ passes in
    let both = and_parts (list_all p (take i l)) (list_all p (map f (drop i l))) (sym (list_all-append p (take i l) (map f (drop i l))) ∙ whole) in
    let rest : list_all p (f (get_or l i d) ∷ map f (drop (i + 1) l)) ≡ true = ap (λ (t : List X). list_all p (map f t)) (sym (drop_more l i d low)) ∙ both.1 in
    (and_parts (p (f (get_or l i d))) (list_all p (map f (drop (i + 1) l))) rest).0

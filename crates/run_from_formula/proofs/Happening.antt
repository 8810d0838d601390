-- The events of a program, those that happen in a world, and their list by clock.
use Rattle.std.proofs.Common.{◌≡◌, ℕ, zero, suc, ◌+◌, ◌<◌, ◌≤◌, Bool, true, false, ◌&&◌, ◌==◌, List, [], ◌∷◌, map, length, refl, ap, ◌∙◌, subst, arith}
use Rattle.std.specs.List.{filter, list_any, range_with_len}
use Rattle.std.proofs.lemmas.Bool.{eqb-true, eq-eqb}
use Rattle.std.proofs.lemmas.Bool.Decides.{nat_tests}
use Rattle.callorder.specs.Programs.{MpiProgram}
use Rattle.candidates.specs.Pairs.{places}
use Rattle.formula.specs.declared.facts.RunEvent.{RunEvent}
use Rattle.formula.specs.declared.facts.RunEvent.TheVariants.{Issue as issue_of, Match as match_of}
use Rattle.formula.specs.Facts.{is_same_event}
use Rattle.formula.specs.Families.{events, finds_message}
use Rattle.formula.proofs.Elements.{Each, each_append, each_map, each_from, each_mono, each_filter, each_range, and_both, any_append_left, any_append_right, any_map, any_filter, any_mono, any_range}
use Rattle.formula_from_run.specs.Worlds.{World}
use Rattle.run_from_formula.specs.Schedules.{happens, sorted_by}
use Rattle.run_from_formula.proofs.Sorted.{any_sorted, each_sorted, IsOnce, once_sorted, once_kept, once_append, false_or}

-- ---- the events of a program

-- the event is one of the program
abbrev pub IsListed : MpiProgram → RunEvent → Type 0
IsListed p (issue_of c) = c < length p.calls
IsListed p (match_of t) = (t < length p.calls) × (finds_message p t ≡ true)

-- the event stands in the list
abbrev pub is_in : List RunEvent → RunEvent → Bool
is_in es e = list_any (is_same_event e) es

all_listed : (p : MpiProgram) → Each (IsListed p) (events p)
all_listed p =
    each_append (IsListed p) (map issue_of (places p)) (map match_of (filter (finds_message p) (places p)))
    (each_map (IsListed p) issue_of (places p) (each_range (λ c. c < length p.calls) 0 (length p.calls) (λ k from below. omega (arith, below))))
    (each_map (IsListed p) match_of (filter (finds_message p) (places p))
    (each_filter (λ t. IsListed p (match_of t)) (finds_message p) (places p)
    (each_range (λ t. finds_message p t ≡ true → IsListed p (match_of t)) 0 (length p.calls) (λ k from below taker. (omega (arith, below), taker)))))

listed_in : (p : MpiProgram) (e : RunEvent) → IsListed p e → is_in (events p) e ≡ true
listed_in p (issue_of c) below =
    any_append_left (is_same_event (issue_of c)) (map issue_of (places p)) (map match_of (filter (finds_message p) (places p)))
    (any_map (is_same_event (issue_of c)) issue_of (places p) ∙
    any_range (λ d. c == d) 0 (length p.calls) c (omega arith) (omega (arith, below)) (eq-eqb c c refl))
listed_in p (match_of t) listed =
    any_append_right (is_same_event (match_of t)) (map issue_of (places p)) (map match_of (filter (finds_message p) (places p)))
    (any_map (is_same_event (match_of t)) match_of (filter (finds_message p) (places p)) ∙
    (any_filter (λ d. t == d) (finds_message p) (places p) ∙
    any_range (λ d. finds_message p d && t == d) 0 (length p.calls) t (omega arith) (omega (arith, listed.0)) (and_both (finds_message p t) (t == t) listed.1 (eq-eqb t t refl))))

pub same_event : (e f : RunEvent) → is_same_event e f ≡ true → e ≡ f
same_event (issue_of c) (issue_of d) h = ap issue_of (eqb-true c d h)
same_event (match_of c) (match_of d) h = ap match_of (eqb-true c d h)
same_event (issue_of c) (match_of d) h = absurd (cc)
same_event (match_of c) (issue_of d) h = absurd (cc)

equal_either : (a b : ℕ) → (a == b) ≡ (b == a)
equal_either a b = grind (arith, nat_tests)

same_either : (e f : RunEvent) → is_same_event e f ≡ is_same_event f e
same_either (issue_of c) (issue_of d) = equal_either c d
same_either (match_of c) (match_of d) = equal_either c d
same_either (issue_of c) (match_of d) = refl
same_either (match_of c) (issue_of d) = refl

-- ---- each event once

abbrev IsOnceIn : List ℕ → Type 0
IsOnceIn xs = IsOnce (λ a b. a == b) xs

above_all : (x low n : ℕ) → x < low → list_any (λ y. x == y) (range_with_len low n) ≡ false
above_all x low zero below = refl
above_all x low (suc n) below =
    false_or (x == low) (list_any (λ y. x == y) (range_with_len (low + 1) n)) (grind (arith, nat_tests)) (above_all x (low + 1) n (omega (arith, below)))

once_range : (low n : ℕ) → IsOnceIn (range_with_len low n)
once_range low zero = tt
once_range low (suc n) = (above_all low (low + 1) n (omega arith), once_range (low + 1) n)

once_issues : (xs : List ℕ) → IsOnceIn xs → IsOnce is_same_event (map issue_of xs)
once_issues [] h = tt
once_issues (x ∷ xs) h = (any_map (is_same_event (issue_of x)) issue_of xs ∙ h.0, once_issues xs h.1)

once_matches : (xs : List ℕ) → IsOnceIn xs → IsOnce is_same_event (map match_of xs)
once_matches [] h = tt
once_matches (x ∷ xs) h = (any_map (is_same_event (match_of x)) match_of xs ∙ h.0, once_matches xs h.1)

no_issue_among : (c : ℕ) (ts : List ℕ) → list_any (is_same_event (issue_of c)) (map match_of ts) ≡ false
no_issue_among c [] = refl
no_issue_among c (t ∷ ts) = no_issue_among c ts

events_once : (p : MpiProgram) → IsOnce is_same_event (events p)
events_once p =
    let takers = filter (finds_message p) (places p) in
    once_append is_same_event (map issue_of (places p)) (map match_of takers)
    (each_map (λ e. list_any (is_same_event e) (map match_of takers) ≡ false) issue_of (places p)
    (each_from (λ c. list_any (is_same_event (issue_of c)) (map match_of takers) ≡ false) (λ c. no_issue_among c takers) (places p)))
    (once_issues (places p) (once_range 0 (length p.calls)))
    (once_matches takers (once_kept (λ (a b : ℕ). a == b) (finds_message p) (places p) (once_range 0 (length p.calls))))

-- ---- the events that happen, by clock

-- the events that happen, by clock
abbrev pub by_clock : MpiProgram → World → List RunEvent
by_clock p world = sorted_by world.clock (filter (happens p world) (events p))

-- the event is one of the program and happens in the world
pub record Happens (p : MpiProgram) (world : World) (e : RunEvent) : Type 0 where
  pub listed : IsListed p e
  pub does : happens p world e ≡ true

pub all_happen : (p : MpiProgram) (world : World) → Each (Happens p world) (by_clock p world)
all_happen p world =
    each_sorted (Happens p world) world.clock (filter (happens p world) (events p))
    (each_filter (Happens p world) (happens p world) (events p)
    (each_mono (IsListed p) (λ e. happens p world e ≡ true → Happens p world e) (λ e listed does. record { listed = listed; does = does }) (events p) (all_listed p)))

pub each_once : (p : MpiProgram) (world : World) → IsOnce is_same_event (by_clock p world)
each_once p world =
    once_sorted is_same_event world.clock same_either (filter (happens p world) (events p)) (once_kept is_same_event (happens p world) (events p) (events_once p))

-- an event that happens stands in the list
pub found_by_clock : (p : MpiProgram) (world : World) (e : RunEvent) → IsListed p e → happens p world e ≡ true → is_in (by_clock p world) e ≡ true
found_by_clock p world e listed does =
    any_sorted world.clock (is_same_event e) (filter (happens p world) (events p)) ∙
    (any_filter (is_same_event e) (happens p world) (events p) ∙
    any_mono (λ f. happens p world f && is_same_event e f) (is_same_event e)
    (λ f h. and_both (happens p world f) (is_same_event e f) (subst (λ (z : RunEvent). happens p world z ≡ true) (same_event e f h) does) h) (events p) (listed_in p e listed))

-- ---- what is left when an event's turn has come

apart : (world : World) (e f y : RunEvent) (b : Bool) → is_same_event f y ≡ b → world.clock e ≤ world.clock y → world.clock f < world.clock e → b ≡ false
apart world e f y false same later earlier = refl
apart world e f y true same later earlier =
    let is : world.clock f ≡ world.clock y = ap world.clock (same_event f y same) in
    absurd (omega (arith, is, later, earlier))

-- an event with a smaller clock isn't among those that are left
pub not_left : (world : World) (e f : RunEvent) (rest : List RunEvent) → Each (λ y. world.clock e ≤ world.clock y) rest → world.clock f < world.clock e → is_in rest f ≡ false
not_left world e f [] later earlier = refl
not_left world e f (y ∷ rest) later earlier =
    false_or (is_same_event f y) (is_in rest f) (apart world e f y (is_same_event f y) refl later.0 earlier) (not_left world e f rest later.1 earlier)

-- The places of events by their numbers.
use Rattle.std.proofs.Common.{◌≡◌, ℕ, ◌+◌, ◌<◌, Bool, true, false, cond, not, ◌==◌, nat_lt, if◌then◌else◌, List, [], ◌∷◌, ◌++◌, map, length, refl, sym, ap, ◌∙◌, subst, arith}
use Rattle.std.specs.Prelude.{All}
use Rattle.std.specs.List.{filter, range_with_len, position_or_len}
use Rattle.std.proofs.lemmas.Bool.Decides.{nat_tests}
use Rattle.std.proofs.lemmas.List.{map-append, length-append, length-map}
use Rattle.std.proofs.lemmas.List.FromFn.{length-range_with_len}
use Rattle.callorder.specs.Programs.{MpiProgram}
use Rattle.candidates.specs.Pairs.{places}
use Rattle.formula.specs.Facts.{is_same_event}
use Rattle.formula.specs.declared.facts.RunEvent.{RunEvent}
use Rattle.formula.specs.declared.facts.RunEvent.TheVariants.{Issue as issue_of, Match as match_of}
use Rattle.formula.specs.Families.{events, place_of_event, finds_message}
use Rattle.formula.proofs.Elements.{Each, each_append, each_map, each_filter, each_range, each_mono, all_from_each}
use Rattle.formula.proofs.Numbers.{position_map}
use Rattle.formula_tables.specs.Places.{first_place}
use Rattle.formula_tables.specs.Numbers.{event_slot, event_slots}

-- ---- lists

-- tests that agree on each element find one place
pub position_each : {X : Type 0} (s t : X → Bool) (xs : List X) → Each (λ x. s x ≡ t x) xs → position_or_len s xs ≡ position_or_len t xs
position_each s t [] h = refl
position_each s t (x ∷ xs) h =
    ap (λ z. cond (not z) (1 + position_or_len s xs) 0) h.0 ∙ ap (λ (z : ℕ). cond (not (t x)) (1 + z) 0) (position_each s t xs h.1)

-- where each element has a number that tells it apart, its place is that of its number
pub place_by_number : {X : Type 0} (same : X → Bool) (number : X → ℕ) (k : ℕ) (xs : List X) (numbers : List ℕ) → numbers ≡ map number xs → Each (λ x. (k == number x) ≡ same x) xs → first_place k numbers ≡ position_or_len same xs
place_by_number same number k xs numbers e h =
    ap (first_place k) e ∙ (position_map (λ n. k == n) number xs ∙ position_each (λ x. k == number x) same xs h)

pub map_each : {X Y : Type 0} (f g : X → Y) (xs : List X) → Each (λ x. f x ≡ g x) xs → map f xs ≡ map g xs
map_each f g [] h = refl
map_each f g (x ∷ xs) h = ap (λ y. y ∷ map f xs) h.0 ∙ ap (λ l. g x ∷ l) (map_each f g xs h.1)

pub map_same : (xs : List ℕ) → map (λ x. x) xs ≡ xs
map_same [] = refl
map_same (x ∷ xs) = ap (λ l. x ∷ l) (map_same xs)

pub map_map : {X Y Z : Type 0} (g : Y → Z) (f : X → Y) (xs : List X) → map g (map f xs) ≡ map (λ x. g (f x)) xs
map_map g f [] = refl
map_map g f (x ∷ xs) = ap (λ l. g (f x) ∷ l) (map_map g f xs)

-- ---- events

abbrev IsBelow : ℕ → RunEvent → Type 0
IsBelow n (issue_of c) = c < n
IsBelow n (match_of t) = t < n

events_below : (p : MpiProgram) → Each (IsBelow (length p.calls)) (events p)
events_below p =
    let n = length p.calls in
    each_append (IsBelow n) (map issue_of (places p)) (map match_of (filter (finds_message p) (places p)))
    (each_map (IsBelow n) issue_of (places p) (each_range (λ c. c < n) 0 n (λ c _ below. omega (arith, below))))
    (each_map (IsBelow n) match_of (filter (finds_message p) (places p)) (each_filter (λ t. t < n) (finds_message p) (places p) (each_range (λ t. finds_message p t ≡ true → t < n) 0 n (λ t _ below _. omega (arith, below)))))

test_true : (a b : ℕ) → a < b → nat_lt a b ≡ true
test_true a b h = grind (arith, nat_tests)

chosen : (a b c d : ℕ) → a < b → (if nat_lt a b then c else d) ≡ c
chosen a b c d h = ap (λ z. if z then c else d) (test_true a b h)

-- the number of an event tells it apart from one of the program
issue_issue : (n c d : ℕ) (s : Bool) → nat_lt c n ≡ s → d < n → ((if s then c else n + n) == d) ≡ (c == d)
issue_issue n c d true e below = refl
issue_issue n c d false e below = grind (arith, nat_tests)

issue_match : (n c t : ℕ) (s : Bool) → nat_lt c n ≡ s → t < n → ((if s then c else n + n) == n + t) ≡ false
issue_match n c t true e below = grind (arith, nat_tests)
issue_match n c t false e below = grind (arith, nat_tests)

match_issue : (n t c : ℕ) (s : Bool) → nat_lt t n ≡ s → c < n → ((if s then n + t else n + n) == c) ≡ false
match_issue n t c true e below = grind (arith, nat_tests)
match_issue n t c false e below = grind (arith, nat_tests)

match_match : (n t u : ℕ) (s : Bool) → nat_lt t n ≡ s → u < n → ((if s then n + t else n + n) == n + u) ≡ (t == u)
match_match n t u true e below = grind (arith, nat_tests)
match_match n t u false e below = grind (arith, nat_tests)

told_apart : (n : ℕ) (e f : RunEvent) → IsBelow n f → (event_slot n e == event_slot n f) ≡ is_same_event e f
told_apart n (issue_of c) (issue_of d) below =
    ap (λ (z : ℕ). event_slot n (issue_of c) == z) (chosen d n d (n + n) below) ∙ issue_issue n c d (nat_lt c n) refl below
told_apart n (issue_of c) (match_of t) below =
    ap (λ (z : ℕ). event_slot n (issue_of c) == z) (chosen t n (n + t) (n + n) below) ∙ issue_match n c t (nat_lt c n) refl below
told_apart n (match_of t) (issue_of c) below =
    ap (λ (z : ℕ). event_slot n (match_of t) == z) (chosen c n c (n + n) below) ∙ match_issue n t c (nat_lt t n) refl below
told_apart n (match_of t) (match_of u) below =
    ap (λ (z : ℕ). event_slot n (match_of t) == z) (chosen u n (n + u) (n + n) below) ∙ match_match n t u (nat_lt t n) refl below

-- the numbers are those of the events
slots_of_events : (p : MpiProgram) → event_slots p ≡ map (event_slot (length p.calls)) (events p)
slots_of_events p =
    let n = length p.calls in
    let takers = filter (finds_message p) (places p) in
    let first : range_with_len 0 n ≡ map (event_slot n) (map issue_of (places p)) =
    sym (map_map (event_slot n) issue_of (places p) ∙ (map_each (λ c. event_slot n (issue_of c)) (λ c. c) (places p) (each_range (λ c. event_slot n (issue_of c) ≡ c) 0 n (λ c _ below. chosen c n c (n + n) (omega (arith, below)))) ∙ map_same (places p))) in
    let second : map (λ t. n + t) takers ≡ map (event_slot n) (map match_of takers) =
    sym (map_map (event_slot n) match_of takers ∙ map_each (λ t. event_slot n (match_of t)) (λ t. n + t) takers (each_filter (λ t. event_slot n (match_of t) ≡ n + t) (finds_message p) (places p) (each_range (λ t. finds_message p t ≡ true → event_slot n (match_of t) ≡ n + t) 0 n (λ t _ below _. chosen t n (n + t) (n + n) (omega (arith, below)))))) in
    ap (λ l. l ++ map (λ t. n + t) takers) first ∙ (ap (λ l. map (event_slot n) (map issue_of (places p)) ++ l) second ∙ sym (map-append (event_slot n) (map issue_of (places p)) (map match_of takers)))

-- an event's place is that of its number
pub event_place : (p : MpiProgram) (e : RunEvent) → first_place (event_slot (length p.calls) e) (event_slots p) ≡ place_of_event p e
event_place p e =
    let n = length p.calls in
    place_by_number (is_same_event e) (event_slot n) (event_slot n e) (events p) (event_slots p) (slots_of_events p)
    (each_mono (IsBelow n) (λ f. (event_slot n e == event_slot n f) ≡ is_same_event e f) (λ f below. told_apart n e f below) (events p) (events_below p))

slot_below : (n : ℕ) (e : RunEvent) → IsBelow n e → event_slot n e < n + n
slot_below n (issue_of c) below = omega (arith, chosen c n c (n + n) below, below)
slot_below n (match_of t) below = omega (arith, chosen t n (n + t) (n + n) below, below)

pub slots_below : (p : MpiProgram) → All (λ s. s < length p.calls + length p.calls) (event_slots p)
slots_below p =
    let n = length p.calls in
    subst (All (λ s. s < n + n)) (sym (slots_of_events p))
    (all_from_each (λ s. s < n + n) (map (event_slot n) (events p)) (each_map (λ s. s < n + n) (event_slot n) (events p) (each_mono (IsBelow n) (λ e. event_slot n e < n + n) (slot_below n) (events p) (events_below p))))

pub slots_count : (p : MpiProgram) → length (event_slots p) ≡ length (events p)
slots_count p = ap length (slots_of_events p) ∙ length-map (events p) (event_slot (length p.calls))

pub events_count : (p : MpiProgram) → length (events p) ≡ length p.calls + length (filter (finds_message p) (places p))
events_count p =
    let takers = filter (finds_message p) (places p) in
    let issues : length (map issue_of (places p)) ≡ length (places p) = length-map (places p) issue_of in
    let matches : length (map match_of takers) ≡ length takers = length-map takers match_of in
    let both = length-append (map issue_of (places p)) (map match_of takers) in
    omega (arith, both, issues, matches, length-range_with_len 0 (length p.calls))

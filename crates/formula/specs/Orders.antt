-- The order of events: each event has a clock, a number of a few bits, and an event is earlier than
-- another one where its clock is smaller. Only events of which the clauses state an order are
-- compared.
use Rattle.std.specs.Prelude.{ℕ, zero, suc, ◌+◌, ◌-◌, ◌*◌, ◌/◌, ◌^◌, Bool, true, false, ◌&&◌, ◌||◌, ◌==◌, nat_lt, nat_le, if◌then◌else◌, List, [], ◌∷◌, ◌++◌, map, filter, length}
use Rattle.std.specs.List.{flat_map, range_with_len, position_or_len, list_any}
use Rattle.std.specs.Int.{bit_at}
use Rattle.callorder.specs.Programs.{MpiProgram}
pub use Rattle.formula.specs.declared.facts.SignedMeaning.{SignedMeaning}
use Rattle.formula.specs.Facts.{Fact, Meaning, fact, clock_bit, before, same_bits, Statement, is_true, is_false, is_earlier}
use Rattle.formula.specs.Families.{events, place_of_event, families_with_orders}

-- ---- clocks

-- the least number of bits by which so many numbers differ
abbrev pub bits_for : ℕ → ℕ
bits_for most = position_or_len (λ k. nat_le most (2 ^ k)) (range_with_len 0 most)

-- how many bits the clock of an event has
abbrev pub clock_size : MpiProgram → ℕ
clock_size p = bits_for (length (events p))

-- the number that the first of these bits make, so many, from the highest on
abbrev pub first_bits : (ℕ → Bool) → ℕ → ℕ
first_bits bits zero = 0
first_bits bits (suc n) = 2 * first_bits bits n + (if bits n then 1 else 0)

-- the bit at a place of a number with so many bits, from the highest on
abbrev pub bit_of : ℕ → ℕ → ℕ → Bool
bit_of size x place = bit_at x (size - suc place) == 1

-- ---- the pairs of events that are compared

-- the numbers above the first one and below the second, rising
abbrev pub between : ℕ → ℕ → List ℕ
between low high = range_with_len (low + 1) (high - (low + 1))

-- the pairs of two of so many events, by the first, then by the second
abbrev pub event_pairs : ℕ → List (ℕ × ℕ)
event_pairs most = flat_map (λ e. map (λ f. (e, f)) (between e most)) (range_with_len 0 most)

-- the places of the events of which a statement says that the first is earlier
abbrev pub places_in : MpiProgram → Statement → List (ℕ × ℕ)
places_in p (is_true a) = []
places_in p (is_false a) = []
places_in p (is_earlier e f) = (place_of_event p e, place_of_event p f) ∷ []

-- the places of the events of which the clauses say that the first is earlier
abbrev pub stated_orders : MpiProgram → List (ℕ × ℕ)
stated_orders p = flat_map (flat_map (flat_map (places_in p))) (families_with_orders p)

-- the two pairs are one, or one is the other exchanged
abbrev pub are_of_same_events : ℕ × ℕ → ℕ × ℕ → Bool
are_of_same_events a b = (a.0 == b.0 && a.1 == b.1) || (a.0 == b.1 && a.1 == b.0)

-- the pair is among these, either way round
abbrev pub is_among : List (ℕ × ℕ) → ℕ × ℕ → Bool
is_among orders pair = list_any (are_of_same_events pair) orders

-- The used pairs: two events of which some clause says that one is earlier. The first place is the
-- smaller one.
abbrev pub used_pairs : MpiProgram → List (ℕ × ℕ)
used_pairs p = filter (is_among (stated_orders p)) (event_pairs (length (events p)))

-- the place of a pair among the used ones
abbrev pub place_of_pair : MpiProgram → ℕ → ℕ → ℕ
place_of_pair p e f = position_or_len (λ pair. e == pair.0 && f == pair.1) (used_pairs p)

-- ---- variables

-- the bits of the clocks of so many events, by event, from the highest bit on
abbrev pub clock_meanings : ℕ → ℕ → List Meaning
clock_meanings size most = flat_map (λ e. map (clock_bit e) (range_with_len 0 size)) (range_with_len 0 most)

-- of a pair of events with clocks of so many bits: which is earlier, and then how many bits are the
-- same, at least one and not all
abbrev pub pair_meanings : ℕ → ℕ × ℕ → List Meaning
pair_meanings size pair = before pair.0 pair.1 ∷ map (same_bits pair.0 pair.1) (range_with_len 1 (size - 1))

-- what the variables on the order of events stand for, in the order of their numbers
abbrev pub order_meanings : MpiProgram → List Meaning
order_meanings p = clock_meanings (clock_size p) (length (events p)) ++ flat_map (pair_meanings (clock_size p)) (used_pairs p)

-- ---- clauses

-- what the variable stands for is so
abbrev pub so : Meaning → SignedMeaning
so meaning = record { meaning = meaning; positive = true }

-- what the variable stands for isn't so
abbrev pub not_so : Meaning → SignedMeaning
not_so meaning = record { meaning = meaning; positive = false }

-- the bits before this place aren't all the same; before place 0 there are none
abbrev pub differ_before : ℕ → ℕ → ℕ → List SignedMeaning
differ_before e f zero = []
differ_before e f (suc i) = not_so (same_bits e f (suc i)) ∷ []

-- the bits up to this place are the same; up to the last place they never are
abbrev pub same_up_to : ℕ → ℕ → ℕ → ℕ → List SignedMeaning
same_up_to size e f i = if nat_lt (suc i) size then so (same_bits e f (suc i)) ∷ [] else []

-- where the bits up to this place are the same, the two bits at this place are
abbrev pub bits_agree : ℕ → ℕ → ℕ → ℕ → List (List SignedMeaning)
bits_agree size e f i =
    if nat_lt (suc i) size then
    (not_so (clock_bit e i) ∷ so (clock_bit f i) ∷ not_so (same_bits e f (suc i)) ∷ []) ∷
    (so (clock_bit e i) ∷ not_so (clock_bit f i) ∷ not_so (same_bits e f (suc i)) ∷ []) ∷
    []
    else []

-- where the bits are the same before this place and not up to it, the bit here is the later event's
-- and not the earlier one's
abbrev pub bit_decides : ℕ → ℕ → ℕ → ℕ → List (List SignedMeaning)
bit_decides size e f i =
    let elsewhere = differ_before e f i ++ same_up_to size e f i in
    (not_so (clock_bit e i) ∷ not_so (before e f) ∷ elsewhere) ∷
    (so (clock_bit f i) ∷ not_so (before e f) ∷ elsewhere) ∷
    (so (clock_bit e i) ∷ so (before e f) ∷ elsewhere) ∷
    (not_so (clock_bit f i) ∷ so (before e f) ∷ elsewhere) ∷
    []

-- what is said of a pair of events with clocks of so many bits, place by place
abbrev pub pair_clauses : ℕ → ℕ × ℕ → List (List SignedMeaning)
pair_clauses size pair =
    flat_map (λ i. bits_agree size pair.0 pair.1 i ++ bit_decides size pair.0 pair.1 i) (range_with_len 0 size)

-- The order of events: the clocks of each used pair differ, and tell which of its events is
-- earlier.
abbrev pub order_clauses : MpiProgram → List (List SignedMeaning)
order_clauses p = flat_map (pair_clauses (clock_size p)) (used_pairs p)

-- ---- what clocks make of the variables

-- where each of so many events has a time, the place of an event in the order of times: how many
-- have an earlier one
abbrev pub rank_in_time : ℕ → (ℕ → ℕ) → ℕ → ℕ
rank_in_time most time e = length (filter (λ f. nat_lt (time f) (time e)) (range_with_len 0 most))

-- What is true where these facts are, and the events have these clocks of so many bits. The first
-- bits of two clocks are the same where the clocks are, but for the last bits.
abbrev pub is_so_by : (Fact → Bool) → ℕ → (ℕ → ℕ) → Meaning → Bool
is_so_by has size clock (fact a) = has a
is_so_by has size clock (clock_bit e i) = bit_of size (clock e) i
is_so_by has size clock (before e f) = nat_lt (clock e) (clock f)
is_so_by has size clock (same_bits e f n) = clock e / 2 ^ (size - n) == clock f / 2 ^ (size - n)

-- The numbers of facts and of pairs tell them apart.
use Rattle.std.proofs.Common.{◌≡◌, ◌⊎◌, inl, inr, ℕ, ◌+◌, ◌*◌, ◌<◌, ◌≤◌, Bool, true, false, ◌&&◌, ◌==◌, nat_lt, if◌then◌else◌, List, ◌++◌, map, length, refl, sym, ap, ◌∙◌, subst, arith}
use Rattle.std.specs.Prelude.{All, Some, None, Option, slice_get}
use Rattle.std.specs.List.{filter, flat_map, position_or_len}
use Rattle.std.proofs.lemmas.Bool.{cases_lt}
use Rattle.std.proofs.lemmas.Bool.Decides.{nat_tests}
use Rattle.std.proofs.lemmas.Nat.{mul-add-lt}
use Rattle.callorder.specs.declared.calls.Call.{Call}
use Rattle.callorder.specs.ProgramRules.{IsProgram}
use Rattle.callorder.specs.Programs.{MpiProgram, call_at, takes, sees}
use Rattle.candidates.specs.Pairs.{places, matching_pairs, seeing_pairs}
use Rattle.formula.specs.declared.facts.Fact.{Fact}
use Rattle.formula.specs.declared.facts.Fact.TheVariants.{Issued as issued, Buffered as buffered, Matched as matched, Unfinished as unfinished}
use Rattle.formula.specs.Families.{events, is_standard, standard_sends, last_calls, rank_of, rank_of_call}
use Rattle.formula.specs.Orders.{used_pairs, place_of_pair}
use Rattle.formula.specs.Numbering.{facts, is_same_fact}
use Rattle.formula.proofs.Elements.{Each, each_append, each_map, each_flat_map, each_filter, each_range, each_from, each_mono, all_from_each}
use Rattle.formula.proofs.Used.{is_pair, each_used}
use Rattle.formula_tables.specs.Places.{first_place}
use Rattle.formula_tables.specs.Numbers.{pair_slot, fact_slot}
use Rattle.formula_tables.proofs.EventSlots.{place_by_number}
use Rattle.formula_tables.proofs.Apart.{first_told, second_told, unequal, not_both, both_equal}

-- ---- pairs

pub test_true : (a b : ℕ) → a < b → nat_lt a b ≡ true
test_true a b h = grind (arith, nat_tests)

test_false : (a b : ℕ) → b ≤ a → nat_lt a b ≡ false
test_false a b h = grind (arith, nat_tests)

pub slot_inside : (m a b : ℕ) → a < m → b < m → pair_slot m a b ≡ a * m + b
slot_inside m a b x y =
    ap (λ z. if z && nat_lt b m then a * m + b else m * m) (test_true a m x) ∙ ap (λ z. if z then a * m + b else m * m) (test_true b m y)

slot_first_out : (m a b : ℕ) → m ≤ a → pair_slot m a b ≡ m * m
slot_first_out m a b x = ap (λ z. if z && nat_lt b m then a * m + b else m * m) (test_false a m x)

slot_second_out : (m a b : ℕ) → a < m → m ≤ b → pair_slot m a b ≡ m * m
slot_second_out m a b x y =
    ap (λ z. if z && nat_lt b m then a * m + b else m * m) (test_true a m x) ∙ ap (λ z. if z then a * m + b else m * m) (test_false b m y)

equal_numbers : (x y : ℕ) → x ≡ y → (x == y) ≡ true
equal_numbers x y h = grind (arith, nat_tests)

-- two inside
both_inside : (m a b c d : ℕ) → a < m → b < m → c < m → d < m → (a * m + b == c * m + d) ≡ (a == c && b == d)
both_inside m a b c d a_in b_in c_in d_in =
    elim (same_or_not (a == c && b == d)) [
      | inl same ↦
          (let parts = two_parts (a == c) (b == d) same in
          equal_numbers (a * m + b) (c * m + d) (ap (λ (z : ℕ). z * m + b) (are_equal a c parts.0) ∙ ap (λ (z : ℕ). c * m + z) (are_equal b d parts.1)) ∙ sym same)
      | inr differ ↦
          (unequal (a * m + b) (c * m + d) (λ h. let first = first_told m a b c d b_in d_in h in not_true (a == c && b == d) differ (both_equal a b c d first (second_told m a b c d first h))) ∙ sym differ)
    ]
  where
    same_or_not : (b : Bool) → (b ≡ true) ⊎ (b ≡ false)
    same_or_not true = inl refl
    same_or_not false = inr refl

    two_parts : (b c : Bool) → (b && c) ≡ true → (b ≡ true) × (c ≡ true)
    two_parts true true h = (refl, refl)
    two_parts true false h = absurd cc
    two_parts false c h = absurd cc

    are_equal : (x y : ℕ) → (x == y) ≡ true → x ≡ y
    are_equal x y h = grind (arith, nat_tests)

    not_true : (b : Bool) → b ≡ false → b ≡ true → ⊥
    not_true true h k = absurd cc
    not_true false h k = absurd cc

pub pair_told : (m a b c d : ℕ) → c < m → d < m → (pair_slot m a b == c * m + d) ≡ (a == c && b == d)
pair_told m a b c d c_in d_in =
    let top = mul-add-lt c m d m c_in d_in in
    elim (cases_lt a m) [
      | inl a_in ↦
          (elim (cases_lt b m) [
            | inl b_in ↦ ap (λ (z : ℕ). z == c * m + d) (slot_inside m a b a_in b_in) ∙ both_inside m a b c d a_in b_in c_in d_in
            | inr b_out ↦
                ap (λ (z : ℕ). z == c * m + d) (slot_second_out m a b a_in b_out) ∙
                (unequal (m * m) (c * m + d) (λ h. omega (arith, h, top)) ∙ sym (not_both a b c d (λ x y. omega (arith, y, b_out, d_in))))
          ])
      | inr a_out ↦
          ap (λ (z : ℕ). z == c * m + d) (slot_first_out m a b a_out) ∙
          (unequal (m * m) (c * m + d) (λ h. omega (arith, h, top)) ∙ sym (not_both a b c d (λ x y. omega (arith, x, a_out, c_in))))
    ]

pub pair_by_slot : (p : MpiProgram) (e f : ℕ) → first_place (pair_slot (length (events p)) e f) (map (λ pair. pair_slot (length (events p)) pair.0 pair.1) (used_pairs p)) ≡ place_of_pair p e f
pair_by_slot p e f =
    let m = length (events p) in
    let number : ℕ × ℕ → ℕ = λ pair. pair_slot m pair.0 pair.1 in
    place_by_number (is_pair e f) number (pair_slot m e f) (used_pairs p) (map number (used_pairs p)) refl
    (each_used p (λ q. (pair_slot m e f == number q) ≡ is_pair e f q) (λ d g first below _.
    (let d_in : d < m = omega (arith, first, below) in
    ap (λ (z : ℕ). pair_slot m e f == z) (slot_inside m d g d_in below) ∙ pair_told m e f d g d_in below)))

-- ---- facts

-- the calls and the rank of a fact are in range
abbrev pub IsWithin : ℕ → Fact → Type 0
IsWithin n (issued c) = c < n
IsWithin n (buffered c) = c < n
IsWithin n (matched s t) = (s < n) × (t < n)
IsWithin n (unfinished r) = r < 64

rank_below : (p : MpiProgram) → IsProgram p → (c : ℕ) (x : Option Call) → slice_get p.calls c ≡ x → rank_of_call x < 64
rank_below p is c None e = omega arith
rank_below p is c (Some call) e = let own = (is.in_range c call e).own in omega (arith, own, is.few_ranks)

pairs_within : (p : MpiProgram) (keep : ℕ → ℕ → Bool) → Each (IsWithin (length p.calls)) (map (λ (pair : ℕ × ℕ). matched pair.0 pair.1) (flat_map (λ send. map (λ finder. (send, finder)) (filter (keep send) (places p))) (places p)))
pairs_within p keep =
    let n = length p.calls in
    let inside : Each (λ c. c < n) (places p) = each_range (λ c. c < n) 0 n (λ c _ below. omega (arith, below)) in
    each_map (IsWithin n) (λ (pair : ℕ × ℕ). matched pair.0 pair.1) (flat_map (λ send. map (λ finder. (send, finder)) (filter (keep send) (places p))) (places p))
    (each_flat_map (λ (pair : ℕ × ℕ). (pair.0 < n) × (pair.1 < n)) (λ send. map (λ finder. (send, finder)) (filter (keep send) (places p))) (places p)
    (each_mono (λ c. c < n) (λ send. Each (λ (pair : ℕ × ℕ). (pair.0 < n) × (pair.1 < n)) (map (λ finder. (send, finder)) (filter (keep send) (places p)))) (λ send send_in.
    each_map (λ (pair : ℕ × ℕ). (pair.0 < n) × (pair.1 < n)) (λ finder. (send, finder)) (filter (keep send) (places p))
    (each_filter (λ t. (send < n) × (t < n)) (keep send) (places p) (each_mono (λ c. c < n) (λ t. keep send t ≡ true → (send < n) × (t < n)) (λ t t_in _. (send_in, t_in)) (places p) inside))) (places p) inside))

pub facts_within : (p : MpiProgram) → IsProgram p → Each (IsWithin (length p.calls)) (facts p)
facts_within p is =
    let n = length p.calls in
    let inside : Each (λ c. c < n) (places p) = each_range (λ c. c < n) 0 n (λ c _ below. omega (arith, below)) in
    let front = map issued (places p) ++ map buffered (standard_sends p) in
    let pairs = map (λ pair. matched pair.0 pair.1) (matching_pairs p) in
    let ranks = map (λ c. unfinished (rank_of p c)) (last_calls p) in
    each_append (IsWithin n) (front ++ pairs ++ ranks) (map (λ pair. matched pair.0 pair.1) (seeing_pairs p))
    (each_append (IsWithin n) (front ++ pairs) ranks
    (each_append (IsWithin n) front pairs
    (each_append (IsWithin n) (map issued (places p)) (map buffered (standard_sends p))
    (each_map (IsWithin n) issued (places p) inside)
    (each_map (IsWithin n) buffered (standard_sends p) (each_filter (λ c. c < n) (is_standard p) (places p) (each_mono (λ c. c < n) (λ c. is_standard p c ≡ true → c < n) (λ c h _. h) (places p) inside))))
    (pairs_within p (takes p)))
    (each_map (IsWithin n) (λ c. unfinished (rank_of p c)) (last_calls p)
    (each_from (λ c. rank_of p c < 64) (λ c. rank_below p is c (call_at p c) refl) (last_calls p))))
    (pairs_within p (sees p))

-- where the numbers of a kind of facts begin, and where they end
abbrev low : ℕ → Fact → ℕ
low n (issued c) = 0
low n (buffered c) = n
low n (unfinished r) = n + n
low n (matched s t) = n + n + 64

abbrev high : ℕ → Fact → ℕ
high n (issued c) = n
high n (buffered c) = n + n
high n (unfinished r) = n + n + 64
high n (matched s t) = n + n + 64 + n * n

record IsPlaced (n x : ℕ) (a : Fact) : Type 0 where
  above : low n a ≤ x
  below : x < high n a

abbrev top : ℕ → ℕ
top n = n + n + 64 + n * n

chosen : (a b c d : ℕ) → a < b → (if nat_lt a b then c else d) ≡ c
chosen a b c d h = ap (λ z. if z then c else d) (test_true a b h)

other : (a b c d : ℕ) → b ≤ a → (if nat_lt a b then c else d) ≡ d
other a b c d h = ap (λ z. if z then c else d) (test_false a b h)

placed : (n : ℕ) (a : Fact) → IsWithin n a → IsPlaced n (fact_slot n a) a
placed n (issued c) h = let e = chosen c n c (top n) h in record { above = omega (arith, e); below = omega (arith, e, h) }
placed n (buffered c) h = let e = chosen c n (n + c) (top n) h in record { above = omega (arith, e); below = omega (arith, e, h) }
placed n (unfinished r) h = let e = chosen r 64 (n + n + r) (top n) h in record { above = omega (arith, e); below = omega (arith, e, h) }
placed n (matched s t) h =
    let e = slot_inside n s t h.0 h.1 in
    let b = mul-add-lt s n t n h.0 h.1 in
    record { above = omega (arith, e); below = omega (arith, e, b) }

placed_or_top : (n : ℕ) (a : Fact) → IsPlaced n (fact_slot n a) a ⊎ (fact_slot n a ≡ top n)
placed_or_top n (issued c) =
    elim (cases_lt c n) [ inl h ↦ inl (placed n (issued c) h) | inr h ↦ inr (other c n c (top n) h) ]
placed_or_top n (buffered c) =
    elim (cases_lt c n) [ inl h ↦ inl (placed n (buffered c) h) | inr h ↦ inr (other c n (n + c) (top n) h) ]
placed_or_top n (unfinished r) =
    elim (cases_lt r 64) [ inl h ↦ inl (placed n (unfinished r) h) | inr h ↦ inr (other r 64 (n + n + r) (top n) h) ]
placed_or_top n (matched s t) =
    elim (cases_lt s n) [
      | inl s_in ↦
          (elim (cases_lt t n) [
            | inl t_in ↦ inl (placed n (matched s t) (s_in, t_in))
            | inr t_out ↦ inr (ap (λ (z : ℕ). n + n + 64 + z) (slot_second_out n s t s_in t_out))
          ])
      | inr s_out ↦ inr (ap (λ (z : ℕ). n + n + 64 + z) (slot_first_out n s t s_out))
    ]

-- two facts of different kinds have different numbers
kinds_differ : (n : ℕ) (a b : Fact) → IsWithin n b → ((high n a ≤ low n b) ⊎ (high n b ≤ low n a)) → high n b ≤ top n → (fact_slot n a == fact_slot n b) ≡ false
kinds_differ n a b h apart most =
    let there = placed n b h in
    unequal (fact_slot n a) (fact_slot n b) (λ same. elim (placed_or_top n a) [
      | inl here ↦
          (elim apart [
            | inl first ↦ omega (arith, same, here.below, first, there.above)
            | inr second ↦ omega (arith, same, here.above, second, there.below)
          ])
      | inr past ↦ omega (arith, same, past, there.below, most)
    ])

-- of one kind
one_kind : (n base bound c d : ℕ) → d < bound → base + bound ≤ top n → ((if nat_lt c bound then base + c else top n) == (if nat_lt d bound then base + d else top n)) ≡ (c == d)
one_kind n base bound c d h most =
    ap (λ (z : ℕ). (if nat_lt c bound then base + c else top n) == z) (chosen d bound (base + d) (top n) h) ∙ step (nat_lt c bound) refl
  where
    step : (s : Bool) → nat_lt c bound ≡ s → ((if s then base + c else top n) == base + d) ≡ (c == d)
    step true e = grind (arith, nat_tests)
    step false e = grind (arith, nat_tests)

add_same : (k x y : ℕ) → (k + x == k + y) ≡ (x == y)
add_same k x y = grind (arith, nat_tests)

issue_step : (n c d : ℕ) (s : Bool) → nat_lt c n ≡ s → d < n → ((if s then c else top n) == d) ≡ (c == d)
issue_step n c d true e h = refl
issue_step n c d false e h = grind (arith, nat_tests)

one_issue : (n c d : ℕ) → d < n → ((if nat_lt c n then c else top n) == (if nat_lt d n then d else top n)) ≡ (c == d)
one_issue n c d h =
    ap (λ (z : ℕ). (if nat_lt c n then c else top n) == z) (chosen d n d (top n) h) ∙ issue_step n c d (nat_lt c n) refl h

told_apart : (n : ℕ) (a b : Fact) → IsWithin n b → (fact_slot n a == fact_slot n b) ≡ is_same_fact a b
told_apart n (issued c) (issued d) h = one_issue n c d h
told_apart n (issued c) (buffered d) h = kinds_differ n (issued c) (buffered d) h (inl (omega arith)) (omega arith)
told_apart n (issued c) (matched u v) h = kinds_differ n (issued c) (matched u v) h (inl (omega arith)) (omega arith)
told_apart n (issued c) (unfinished d) h = kinds_differ n (issued c) (unfinished d) h (inl (omega arith)) (omega arith)
told_apart n (buffered c) (issued d) h = kinds_differ n (buffered c) (issued d) h (inr (omega arith)) (omega arith)
told_apart n (buffered c) (buffered d) h = one_kind n n n c d h (omega arith)
told_apart n (buffered c) (matched u v) h = kinds_differ n (buffered c) (matched u v) h (inl (omega arith)) (omega arith)
told_apart n (buffered c) (unfinished d) h = kinds_differ n (buffered c) (unfinished d) h (inl (omega arith)) (omega arith)
told_apart n (matched s t) (issued d) h = kinds_differ n (matched s t) (issued d) h (inr (omega arith)) (omega arith)
told_apart n (matched s t) (buffered d) h = kinds_differ n (matched s t) (buffered d) h (inr (omega arith)) (omega arith)
told_apart n (matched s t) (matched u v) h =
    ap (λ (z : ℕ). n + n + 64 + pair_slot n s t == n + n + 64 + z) (slot_inside n u v h.0 h.1) ∙
    (add_same (n + n + 64) (pair_slot n s t) (u * n + v) ∙ pair_told n s t u v h.0 h.1)
told_apart n (matched s t) (unfinished d) h = kinds_differ n (matched s t) (unfinished d) h (inr (omega arith)) (omega arith)
told_apart n (unfinished c) (issued d) h = kinds_differ n (unfinished c) (issued d) h (inr (omega arith)) (omega arith)
told_apart n (unfinished c) (buffered d) h = kinds_differ n (unfinished c) (buffered d) h (inr (omega arith)) (omega arith)
told_apart n (unfinished c) (matched u v) h = kinds_differ n (unfinished c) (matched u v) h (inl (omega arith)) (omega arith)
told_apart n (unfinished c) (unfinished d) h = one_kind n (n + n) 64 c d h (omega arith)

pub fact_by_slot : (p : MpiProgram) → IsProgram p → (a : Fact) → first_place (fact_slot (length p.calls) a) (map (fact_slot (length p.calls)) (facts p)) ≡ position_or_len (is_same_fact a) (facts p)
fact_by_slot p is a =
    let n = length p.calls in
    place_by_number (is_same_fact a) (fact_slot n) (fact_slot n a) (facts p) (map (fact_slot n) (facts p)) refl
    (each_mono (IsWithin n) (λ b. (fact_slot n a == fact_slot n b) ≡ is_same_fact a b) (λ b h. told_apart n a b h) (facts p) (facts_within p is))

pub slot_below : (n : ℕ) (a : Fact) → IsWithin n a → fact_slot n a < n + n + 64 + n * n
slot_below n a h = let there = placed n a h in below_top n a (fact_slot n a) there.below
  where
    below_top : (n : ℕ) (a : Fact) (x : ℕ) → x < high n a → x < top n
    below_top n (issued c) x h = omega (arith, h)
    below_top n (buffered c) x h = omega (arith, h)
    below_top n (unfinished c) x h = omega (arith, h)
    below_top n (matched s t) x h = omega (arith, h)

-- ---- all numbers are below their bounds

pub fact_slots_below : (p : MpiProgram) → IsProgram p → (n bound : ℕ) (slots : List ℕ) → n ≡ length p.calls → bound ≡ n + n + 64 + n * n → slots ≡ map (fact_slot n) (facts p) → All (λ s. s < bound) slots
fact_slots_below p is n bound slots calls_are bound_is slots_are =
    let within : Each (IsWithin n) (facts p) = subst (λ (z : ℕ). Each (IsWithin z) (facts p)) (sym calls_are) (facts_within p is) in
    subst (All (λ s. s < bound)) (sym slots_are)
    (all_from_each (λ s. s < bound) (map (fact_slot n) (facts p)) (each_map (λ s. s < bound) (fact_slot n) (facts p)
    (each_mono (IsWithin n) (λ a. fact_slot n a < bound) (λ a h. subst (λ (z : ℕ). fact_slot n a < z) (sym bound_is) (slot_below n a h)) (facts p) within)))

pub pair_slots_below : (p : MpiProgram) (m bound : ℕ) (slots : List ℕ) → m ≡ length (events p) → bound ≡ m * m → slots ≡ map (λ pair. pair_slot m pair.0 pair.1) (used_pairs p) → All (λ s. s < bound) slots
pair_slots_below p m bound slots events_are bound_is slots_are =
    let number : ℕ × ℕ → ℕ = λ pair. pair_slot m pair.0 pair.1 in
    subst (All (λ s. s < bound)) (sym slots_are)
    (all_from_each (λ s. s < bound) (map number (used_pairs p)) (each_map (λ s. s < bound) number (used_pairs p)
    (each_used p (λ q. number q < bound) (λ e f first below _.
    (let f_in : f < m = omega (arith, below, events_are) in
    let e_in : e < m = omega (arith, first, f_in) in
    let slot = slot_inside m e f e_in f_in in
    let inside = mul-add-lt e m f m e_in f_in in
    omega (arith, slot, inside, bound_is))))))

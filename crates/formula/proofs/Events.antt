-- The list of events: where each stands in it.
use Rattle.std.proofs.Common.{◌≡◌, ℕ, zero, suc, ◌+◌, ◌-◌, ◌<◌, ◌≤◌, inl, inr, Bool, true, false, cond, ◌∷◌, map, length, get_or, refl, ◌∙◌, arith}
use Rattle.std.proofs.lemmas.Bool.{cases_lt}
use Rattle.std.proofs.lemmas.Bool.Decides.{nat_tests}
use Rattle.std.proofs.lemmas.List.{get_or_append_left, get_or-append_right, get_or-map, length-append, length-map}
use Rattle.std.proofs.lemmas.List.FromFn.{get_or-map-range_with_len, length-map-range_with_len}
use Rattle.std.proofs.lemmas.List.Sums.{position_or_len_is}
use Rattle.std.specs.List.{filter, range_with_len}
use Rattle.callorder.specs.Programs.{MpiProgram}
use Rattle.candidates.specs.Pairs.{places}
use Rattle.formula.specs.Facts.{RunEvent, issue_of, match_of, is_same_event}
use Rattle.formula.specs.Families.{events, event_at, finds_message}
use Rattle.formula.specs.Laws.{EventsStandOnce}

issues_size : (p : MpiProgram) → length (map issue_of (places p)) ≡ length p.calls
issues_size p = length-map-range_with_len issue_of 0 (length p.calls)

-- the issues stand first, in call order
pub issue_at : (p : MpiProgram) (k : ℕ) → k < length p.calls → event_at p k ≡ issue_of k
issue_at p k below =
    get_or_append_left (map issue_of (places p)) (map match_of (filter (finds_message p) (places p))) (issue_of 0) k (omega (arith, issues_size p, below)) ∙
    get_or-map-range_with_len issue_of 0 (length p.calls) k k (issue_of 0) below (omega arith)

-- ---- each event stands in the list once

-- what passes a test in a range, from its lower end on, and rising
kept_from_step : (keep : ℕ → Bool) (low n : ℕ) (b : Bool) → ((j : ℕ) → j < length (filter keep (range_with_len (low + 1) n)) → low + 1 ≤ get_or (filter keep (range_with_len (low + 1) n)) j 0) → (j : ℕ) → j < length (cond b (low ∷ filter keep (range_with_len (low + 1) n)) (filter keep (range_with_len (low + 1) n))) → low ≤ get_or (cond b (low ∷ filter keep (range_with_len (low + 1) n)) (filter keep (range_with_len (low + 1) n))) j 0
kept_from_step keep low n true rest zero below = omega arith
kept_from_step keep low n true rest (suc j) below = omega (arith, rest j (omega arith))
kept_from_step keep low n false rest j below = omega (arith, rest j below)

kept_from : (keep : ℕ → Bool) (low n j : ℕ) → j < length (filter keep (range_with_len low n)) → low ≤ get_or (filter keep (range_with_len low n)) j 0
kept_from keep low zero j below = absurd (omega arith)
kept_from keep low (suc n) j below = kept_from_step keep low n (keep low) (λ j. kept_from keep (low + 1) n j) j below

kept_rise_step : (keep : ℕ → Bool) (low n : ℕ) (b : Bool) → ((k j : ℕ) → k < j → j < length (filter keep (range_with_len (low + 1) n)) → get_or (filter keep (range_with_len (low + 1) n)) k 0 < get_or (filter keep (range_with_len (low + 1) n)) j 0) → (k j : ℕ) → k < j → j < length (cond b (low ∷ filter keep (range_with_len (low + 1) n)) (filter keep (range_with_len (low + 1) n))) → get_or (cond b (low ∷ filter keep (range_with_len (low + 1) n)) (filter keep (range_with_len (low + 1) n))) k 0 < get_or (cond b (low ∷ filter keep (range_with_len (low + 1) n)) (filter keep (range_with_len (low + 1) n))) j 0
kept_rise_step keep low n true rest k zero first below = absurd (omega arith)
kept_rise_step keep low n true rest zero (suc j) first below = omega (arith, kept_from keep (low + 1) n j (omega arith))
kept_rise_step keep low n true rest (suc k) (suc j) first below = rest k j (omega arith) (omega arith)
kept_rise_step keep low n false rest k j first below = rest k j first below

kept_rise : (keep : ℕ → Bool) (low n k j : ℕ) → k < j → j < length (filter keep (range_with_len low n)) → get_or (filter keep (range_with_len low n)) k 0 < get_or (filter keep (range_with_len low n)) j 0
kept_rise keep low zero k j first below = absurd (omega arith)
kept_rise keep low (suc n) k j first below = kept_rise_step keep low n (keep low) (λ k j. kept_rise keep (low + 1) n k j) k j first below

pub events_size : (p : MpiProgram) → length (events p) ≡ length p.calls + length (filter (finds_message p) (places p))
events_size p =
    omega (arith, length-append (map issue_of (places p)) (map match_of (filter (finds_message p) (places p))), issues_size p, length-map (filter (finds_message p) (places p)) match_of)

-- behind the issues stand the matches, in call order
match_at : (p : MpiProgram) (k : ℕ) → length p.calls ≤ k → k < length (events p) → event_at p k ≡ match_of (get_or (filter (finds_message p) (places p)) (k - length p.calls) 0)
match_at p k from below =
    get_or-append_right (map issue_of (places p)) (map match_of (filter (finds_message p) (places p))) (length p.calls) k (issue_of 0) (issues_size p) from ∙
    get_or-map match_of (filter (finds_message p) (places p)) (k - length p.calls) 0 (issue_of 0) (omega (arith, events_size p, from, below))

same_as_itself : (e : RunEvent) → is_same_event e e ≡ true
same_as_itself (issue_of c) = grind (arith, nat_tests)
same_as_itself (match_of c) = grind (arith, nat_tests)

unlike_earlier : (p : MpiProgram) (k i : ℕ) → k < i → i < length (events p) → is_same_event (event_at p i) (event_at p k) ≡ false
unlike_earlier p k i first below =
    elim (cases_lt i (length p.calls)) [
      | inl early ↦ rw (issue_at p i early, issue_at p k (omega arith)) (grind (arith, nat_tests))
      | inr late ↦
          elim (cases_lt k (length p.calls)) [
            | inl early ↦ rw (match_at p i (omega (arith, late)) below, issue_at p k early) refl
            | inr also_late ↦
                let rise = kept_rise (finds_message p) 0 (length p.calls) (k - length p.calls) (i - length p.calls) (omega (arith, also_late)) (omega (arith, events_size p, late, below)) in
                rw (match_at p i (omega (arith, late)) below, match_at p k (omega (arith, also_late)) (omega (arith, below))) (grind (arith, nat_tests))
          ]
    ]

pub events_stand_once : EventsStandOnce
events_stand_once p i below =
    position_or_len_is (is_same_event (event_at p i)) (events p) i (issue_of 0) (omega (arith, below)) (λ k first. unlike_earlier p k i first below) (λ _. same_as_itself (event_at p i))

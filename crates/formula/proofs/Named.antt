-- What the clauses of a program speak of: facts that the formula has a variable for, and events of
-- the program.
use Rattle.std.proofs.Common.{◌≡◌, ℕ, zero, suc, ◌+◌, ◌<◌, Bool, true, false, not, ◌&&◌, ◌==◌, nat_lt, if◌then◌else◌, List, [], ◌∷◌, ◌++◌, map, length, Option, Some, None, refl, ap, ◌∙◌, arith}
use Rattle.std.specs.Prelude.{is_some}
use Rattle.std.specs.List.{filter, flat_map, range_with_len, list_any}
use Rattle.std.proofs.lemmas.Bool.{and_parts}
use Rattle.std.proofs.lemmas.Bool.Decides.{nat_tests}
use Rattle.std.proofs.lemmas.Option.{slice_get_within}
use Rattle.calltext.specs.declared.call.Mode.TheVariants.{Standard, Synchronous, Buffered}
use Rattle.calltext.specs.declared.call.Policy.{Policy}
use Rattle.calltext.specs.declared.call.Policy.TheVariants.{Any, Never, Always}
use Rattle.callorder.specs.declared.calls.Call.{Call}
use Rattle.callorder.specs.declared.calls.Kind.{Kind}
use Rattle.callorder.specs.declared.calls.Kind.TheVariants.{Send, Receive, MatchedProbe, Probe, MatchedReceive, Wait}
use Rattle.callorder.specs.declared.calls.Message.{Message}
use Rattle.callorder.specs.declared.calls.Pattern.{Pattern}
use Rattle.callorder.specs.Calls.{message_of, pattern_of, fits_between, both_hold, fits}
use Rattle.callorder.specs.ProgramRules.{IsProgram}
use Rattle.callorder.specs.Programs.{is_probe, takes, sees, MpiProgram, call_at, are_of_one_rank, are_fit}
use Rattle.candidates.specs.Pairs.{places, takers_of, probes_of, matching_pairs, seeing_pairs}
use Rattle.nonovertake.specs.Earlier.{earlier_sends, earlier_takers}
use Rattle.formula.specs.Facts.{RunEvent, issue_of, match_of, Fact, issued, buffered, matched, unfinished, Meaning, fact, Statement, is_true, is_false, is_earlier, is_same_event}
use Rattle.formula.specs.Families.{without_later_sends, seen_before_taken, see_clauses, families_with_orders, sends_of, call_finds_message, finds_message, is_standard_kind, is_standard_call, is_standard, standard_sends, receive_of_call, receive_on_handle, previous_of_rank, last_calls, rank_of, events, event_of_fetch, fetch_of, Condition, at_once, if_matched, if_fetched, if_buffered_or_fetched, when_done_kind, when_done_call, when_done, if_blocking, when_returned_kind, when_returned_call, when_returned, SymbolicClause, unless_issued, where_fetched, where_returned_under, where_returned, issued_after, handle_is_received_on, is_fetched_before, is_returned_before, issued_after_return_of, issued_before_match, without_later_pairs, send_is_matched_before, taker_is_matched_before, pair_does_not_wait, issue_does_not_wait, buffered_under, said, first_families, family_of, probes_see_messages, calls_are_issued_in_order, calls_are_issued_after_returns, matches_come_after_issues, calls_are_matched_once, sends_do_not_overtake, takers_do_not_overtake, no_pair_waits, no_issue_waits, some_rank_is_unfinished, sends_are_buffered_as_allowed}
use Rattle.formula.specs.Orders.{order_meanings}
use Rattle.formula.specs.Numbering.{facts, meanings, is_same_fact, is_same_meaning}
use Rattle.formula.proofs.Elements.{each_mono, and_both, Each, each_append, each_map, each_flat_map, each_filter, each_range, any_append_left, any_append_right, any_map, any_flat_map, any_filter, any_range}

-- ---- what the formula has a variable for

abbrev pub IsVariable : MpiProgram → Meaning → Type 0
IsVariable p m = list_any (is_same_meaning m) (meanings p) ≡ true

abbrev pub IsEvent : MpiProgram → RunEvent → Type 0
IsEvent p e = list_any (is_same_event e) (events p) ≡ true

abbrev pub Named : MpiProgram → Statement → Type 0
Named p (is_true a) = IsVariable p (fact a)
Named p (is_false a) = IsVariable p (fact a)
Named p (is_earlier e f) = IsEvent p e × IsEvent p f

-- the same, where no order of events may be stated
abbrev pub NamesFact : MpiProgram → Statement → Type 0
NamesFact p (is_true a) = IsVariable p (fact a)
NamesFact p (is_false a) = IsVariable p (fact a)
NamesFact p (is_earlier e f) = ⊥

abbrev pub Clauses : (Statement → Type 0) → List SymbolicClause → Type 0
Clauses P = Each (Each P)

pub equal_self : (n : ℕ) → (n == n) ≡ true
equal_self n = grind (arith, nat_tests)

each_place : (p : MpiProgram) (P : ℕ → Type 0) → ((c : ℕ) → c < length p.calls → P c) → Each P (places p)
each_place p P h = each_range P 0 (length p.calls) (λ k above below. h k (omega arith))

any_place : (p : MpiProgram) (test : ℕ → Bool) (c : ℕ) → c < length p.calls → test c ≡ true → list_any test (places p) ≡ true
any_place p test c below e = any_range test 0 (length p.calls) c (omega arith) (omega arith) e

pub fact_named : (p : MpiProgram) (a : Fact) → list_any (is_same_fact a) (facts p) ≡ true → IsVariable p (fact a)
fact_named p a h =
    any_append_left (is_same_meaning (fact a)) (map fact (facts p)) (order_meanings p)
    (any_map (is_same_meaning (fact a)) fact (facts p) ∙ h)

-- the facts of the formula by kind, in their order
abbrev call_facts : MpiProgram → List Fact
call_facts p = map issued (places p)

abbrev send_facts : MpiProgram → List Fact
send_facts p = map buffered (standard_sends p)

abbrev pair_facts : MpiProgram → List Fact
pair_facts p = map (λ q. matched q.0 q.1) (matching_pairs p)

abbrev see_facts : MpiProgram → List Fact
see_facts p = map (λ q. matched q.0 q.1) (seeing_pairs p)

abbrev rank_facts : MpiProgram → List Fact
rank_facts p = map (λ c. unfinished (rank_of p c)) (last_calls p)

pub issued_named : (p : MpiProgram) (c : ℕ) → c < length p.calls → IsVariable p (fact (issued c))
issued_named p c below =
    let test : Fact → Bool = is_same_fact (issued c) in
    fact_named p (issued c)
    (any_append_left test (call_facts p ++ send_facts p ++ pair_facts p ++ rank_facts p) (see_facts p)
    (any_append_left test (call_facts p ++ send_facts p ++ pair_facts p) (rank_facts p)
    (any_append_left test (call_facts p ++ send_facts p) (pair_facts p)
    (any_append_left test (call_facts p) (send_facts p)
    (any_map test issued (places p) ∙ any_place p (λ d. c == d) c below (equal_self c))))))

buffered_named : (p : MpiProgram) (c : ℕ) → c < length p.calls → is_standard p c ≡ true → IsVariable p (fact (buffered c))
buffered_named p c below standard =
    let test : Fact → Bool = is_same_fact (buffered c) in
    fact_named p (buffered c)
    (any_append_left test (call_facts p ++ send_facts p ++ pair_facts p ++ rank_facts p) (see_facts p)
    (any_append_left test (call_facts p ++ send_facts p ++ pair_facts p) (rank_facts p)
    (any_append_left test (call_facts p ++ send_facts p) (pair_facts p)
    (any_append_right test (call_facts p) (send_facts p)
    (any_map test buffered (standard_sends p) ∙
    (any_filter (λ d. c == d) (is_standard p) (places p) ∙
    any_place p (λ d. is_standard p d && c == d) c below (and_both (is_standard p c) (c == c) standard (equal_self c))))))))

-- both calls are the program's, and they fit
abbrev IsPair : MpiProgram → ℕ → ℕ → Type 0
IsPair p s t = (s < length p.calls) × (t < length p.calls) × (are_fit p s t ≡ true)

fit_of_takes : (p : MpiProgram) (s t : ℕ) → takes p s t ≡ true → are_fit p s t ≡ true
fit_of_takes p s t h = (and_parts (are_fit p s t) (not (is_probe p t)) h).0

among_pairs : (p : MpiProgram) (kind : ℕ → ℕ → Bool) (s t : ℕ) → s < length p.calls → t < length p.calls → kind s t ≡ true → list_any (is_same_fact (matched s t)) (map (λ (q : ℕ × ℕ). matched q.0 q.1) (flat_map (λ u. map (λ v. (u, v)) (filter (kind u) (places p))) (places p))) ≡ true
among_pairs p kind s t s_below t_below h =
    let test : Fact → Bool = is_same_fact (matched s t) in
    let same : ℕ × ℕ → Bool = λ q. s == q.0 && t == q.1 in
    any_map test (λ q. matched q.0 q.1) (flat_map (λ u. map (λ v. (u, v)) (filter (kind u) (places p))) (places p)) ∙
    (any_flat_map same (λ u. map (λ v. (u, v)) (filter (kind u) (places p))) (places p) ∙
    any_place p (λ u. list_any same (map (λ v. (u, v)) (filter (kind u) (places p)))) s s_below
    (any_map same (λ v. (s, v)) (filter (kind s) (places p)) ∙
    (any_filter (λ v. s == s && t == v) (kind s) (places p) ∙
    any_place p (λ v. kind s v && (s == s && t == v)) t t_below
    (and_both (kind s t) (s == s && t == t) h (and_both (s == s) (t == t) (equal_self s) (equal_self t))))))

matched_named : (p : MpiProgram) (s t : ℕ) → IsPair p s t → IsVariable p (fact (matched s t))
matched_named p s t pair = by (is_probe p t) refl
  where
    test : Fact → Bool
    test = is_same_fact (matched s t)

    by : (b : Bool) → is_probe p t ≡ b → IsVariable p (fact (matched s t))
    by false e =
        fact_named p (matched s t)
        (any_append_left test (call_facts p ++ send_facts p ++ pair_facts p ++ rank_facts p) (see_facts p)
        (any_append_left test (call_facts p ++ send_facts p ++ pair_facts p) (rank_facts p)
        (any_append_right test (call_facts p ++ send_facts p) (pair_facts p)
        (among_pairs p (takes p) s t pair.0 pair.1 (and_both (are_fit p s t) (not (is_probe p t)) pair.2 (ap not e))))))
    by true e =
        fact_named p (matched s t)
        (any_append_right test (call_facts p ++ send_facts p ++ pair_facts p ++ rank_facts p) (see_facts p)
        (among_pairs p (sees p) s t pair.0 pair.1 (and_both (are_fit p s t) (is_probe p t) pair.2 e)))

unfinished_named : (p : MpiProgram) (c : ℕ) → c < length p.calls → not (are_of_one_rank p c (c + 1)) ≡ true → IsVariable p (fact (unfinished (rank_of p c)))
unfinished_named p c below is_last =
    let test : Fact → Bool = is_same_fact (unfinished (rank_of p c)) in
    fact_named p (unfinished (rank_of p c))
    (any_append_left test (call_facts p ++ send_facts p ++ pair_facts p ++ rank_facts p) (see_facts p)
    (any_append_right test (call_facts p ++ send_facts p ++ pair_facts p) (rank_facts p)
    (any_map test (λ d. unfinished (rank_of p d)) (last_calls p) ∙
    (any_filter (λ d. rank_of p c == rank_of p d) (λ d. not (are_of_one_rank p d (d + 1))) (places p) ∙
    any_place p (λ d. not (are_of_one_rank p d (d + 1)) && rank_of p c == rank_of p d) c below
    (and_both (not (are_of_one_rank p c (c + 1))) (rank_of p c == rank_of p c) is_last (equal_self (rank_of p c)))))))

issue_named : (p : MpiProgram) (c : ℕ) → c < length p.calls → IsEvent p (issue_of c)
issue_named p c below =
    let test : RunEvent → Bool = is_same_event (issue_of c) in
    any_append_left test (map issue_of (places p)) _
    (any_map test issue_of (places p) ∙ any_place p (λ d. c == d) c below (equal_self c))

match_named : (p : MpiProgram) (t : ℕ) → t < length p.calls → finds_message p t ≡ true → IsEvent p (match_of t)
match_named p t below taker =
    let test : RunEvent → Bool = is_same_event (match_of t) in
    any_append_right test (map issue_of (places p)) _
    (any_map test match_of (filter (finds_message p) (places p)) ∙
    (any_filter (λ d. t == d) (finds_message p) (places p) ∙
    any_place p (λ d. finds_message p d && t == d) t below (and_both (finds_message p t) (t == t) taker (equal_self t))))

event_is_itself : (e : RunEvent) → is_same_event e e ≡ true
event_is_itself (issue_of c) = equal_self c
event_is_itself (match_of t) = equal_self t

-- ---- pairs, handles and conditions

taker_between : (sender taker : ℕ) (message : Option Message) (pattern : Option Pattern) → fits_between sender message taker pattern ≡ true → is_some pattern ≡ true
taker_between sender taker None pattern h = absurd cc
taker_between sender taker (Some message) None h = absurd cc
taker_between sender taker (Some message) (Some pattern) h = refl

taker_of_fit : (send taker : Option Call) → both_hold fits send taker ≡ true → call_finds_message taker ≡ true
taker_of_fit None taker h = absurd cc
taker_of_fit (Some send) None h = absurd cc
taker_of_fit (Some send) (Some taker) h = taker_between send.rank taker.rank (message_of send.kind) (pattern_of taker.kind) h

pair_taker : (p : MpiProgram) (s t : ℕ) → IsPair p s t → finds_message p t ≡ true
pair_taker p s t pair = taker_of_fit (call_at p s) (call_at p t) pair.2

each_taker : (p : MpiProgram) (P : ℕ → Type 0) (s : ℕ) → s < length p.calls → ((t : ℕ) → IsPair p s t → P t) → Each P (takers_of p s)
each_taker p P s below h =
    each_filter P (takes p s) (places p) (each_place p (λ t. takes p s t ≡ true → P t) (λ t inside taken. h t (below, inside, fit_of_takes p s t taken)))

each_sender : (p : MpiProgram) (P : ℕ → Type 0) (t : ℕ) → t < length p.calls → ((s : ℕ) → IsPair p s t → P s) → Each P (sends_of p t)
each_sender p P t below h =
    each_filter P (λ s. are_fit p s t) (places p) (each_place p (λ s. are_fit p s t ≡ true → P s) (λ s inside fit. h s (inside, below, fit)))

abbrev OfPair : (Statement → Type 0) → (ℕ → ℕ → List SymbolicClause) → ℕ × ℕ → Type 0
OfPair P f q = Clauses P (f q.0 q.1)

each_pair : (p : MpiProgram) (P : Statement → Type 0) (f : ℕ → ℕ → List SymbolicClause) → ((s t : ℕ) → IsPair p s t → Clauses P (f s t)) → Clauses P (flat_map (λ pair. f pair.0 pair.1) (matching_pairs p))
each_pair p P f h =
    each_flat_map (Each P) (λ q. f q.0 q.1) (matching_pairs p)
    (each_flat_map (OfPair P f) (λ s. map (λ t. (s, t)) (takers_of p s)) (places p)
    (each_place p (λ s. Each (OfPair P f) (map (λ t. (s, t)) (takers_of p s))) (λ s below.
    each_map (OfPair P f) (λ t. (s, t)) (takers_of p s) (each_taker p (λ t. OfPair P f (s, t)) s below (h s)))))

each_probe : (p : MpiProgram) (P : ℕ → Type 0) (s : ℕ) → s < length p.calls → ((t : ℕ) → IsPair p s t → P t) → Each P (probes_of p s)
each_probe p P s below h =
    each_filter P (sees p s) (places p) (each_place p (λ t. sees p s t ≡ true → P t) (λ t inside seen. h t (below, inside, (and_parts (are_fit p s t) (is_probe p t) seen).0)))

each_seeing_pair : (p : MpiProgram) (P : Statement → Type 0) (f : ℕ → ℕ → List SymbolicClause) → ((s t : ℕ) → IsPair p s t → Clauses P (f s t)) → Clauses P (flat_map (λ pair. f pair.0 pair.1) (seeing_pairs p))
each_seeing_pair p P f h =
    each_flat_map (Each P) (λ q. f q.0 q.1) (seeing_pairs p)
    (each_flat_map (OfPair P f) (λ s. map (λ t. (s, t)) (probes_of p s)) (places p)
    (each_place p (λ s. Each (OfPair P f) (map (λ t. (s, t)) (probes_of p s))) (λ s below.
    each_map (OfPair P f) (λ t. (s, t)) (probes_of p s) (each_probe p (λ t. OfPair P f (s, t)) s below (h s)))))

each_call : (p : MpiProgram) (P : Statement → Type 0) (f : ℕ → List SymbolicClause) → ((c : ℕ) → c < length p.calls → Clauses P (f c)) → Clauses P (flat_map f (places p))
each_call p P f h = each_flat_map (Each P) f (places p) (each_place p (λ c. Clauses P (f c)) h)

-- where there is a call, it is the program's
abbrev IsCallIfAny : MpiProgram → Option ℕ → Type 0
IsCallIfAny p None = Unit {0}
IsCallIfAny p (Some c) = c < length p.calls

handle_within : (p : MpiProgram) → IsProgram p → (t r : ℕ) (found : Option Call) → call_at p t ≡ found → receive_of_call found ≡ Some r → r < length p.calls
handle_within p is t r None e h = absurd cc
handle_within p is t r (Some call) e h = let other = is.probes.named t r call e h in slice_get_within p.calls r other.0 other.1

handle_step : (p : MpiProgram) → IsProgram p → (t : ℕ) (o : Option ℕ) → receive_on_handle p t ≡ o → IsCallIfAny p o
handle_step p is t None e = tt
handle_step p is t (Some r) e = handle_within p is t r (call_at p t) refl e

handle_named : (p : MpiProgram) → IsProgram p → (t : ℕ) → IsCallIfAny p (receive_on_handle p t)
handle_named p is t = handle_step p is t (receive_on_handle p t) refl

fetch_named : (p : MpiProgram) (t : ℕ) (o : Option ℕ) → t < length p.calls → finds_message p t ≡ true → IsCallIfAny p o → IsEvent p (event_of_fetch o t)
fetch_named p t None below taker h = match_named p t below taker
fetch_named p t (Some r) below taker h = issue_named p r h

unless_named : (p : MpiProgram) (o : Option ℕ) → IsCallIfAny p o → Each (NamesFact p) (unless_issued o)
unless_named p None h = tt
unless_named p (Some r) h = (issued_named p r h, tt)

previous_step : (p : MpiProgram) (c : ℕ) (b : Bool) → c < length p.calls → IsCallIfAny p (if b then Some c else None)
previous_step p c true h = h
previous_step p c false h = tt

previous_within : (p : MpiProgram) (c : ℕ) → c < length p.calls → IsCallIfAny p (previous_of_rank p c)
previous_within p zero below = tt
previous_within p (suc c) below = previous_step p c (are_of_one_rank p c (suc c)) (omega (arith, below))

-- the condition names calls of the right kind
abbrev IsRight : MpiProgram → Condition → Type 0
IsRight p at_once = Unit {0}
IsRight p (if_matched t) = (t < length p.calls) × (finds_message p t ≡ true)
IsRight p (if_fetched s) = s < length p.calls
IsRight p (if_buffered_or_fetched s) = (s < length p.calls) × (is_standard p s ≡ true)

done_kind_right : (p : MpiProgram) (o : ℕ) (call : Call) (kind : Kind ℕ) → call_at p o ≡ Some call → call.kind ≡ kind → IsRight p (when_done_kind kind o)
done_kind_right p o call (Send Standard blocking message) e f = (slice_get_within p.calls o call e, ap is_standard_call e ∙ ap is_standard_kind f)
done_kind_right p o call (Send Synchronous blocking message) e f = slice_get_within p.calls o call e
done_kind_right p o call (Send Buffered blocking message) e f = tt
done_kind_right p o call (Receive blocking pattern) e f = (slice_get_within p.calls o call e, ap call_finds_message e ∙ ap (λ k. is_some (pattern_of k)) f)
done_kind_right p o call (MatchedProbe pattern receive) e f = (slice_get_within p.calls o call e, ap call_finds_message e ∙ ap (λ k. is_some (pattern_of k)) f)
done_kind_right p o call (Probe pattern) e f = (slice_get_within p.calls o call e, ap call_finds_message e ∙ ap (λ k. is_some (pattern_of k)) f)
done_kind_right p o call (MatchedReceive blocking) e f = tt
done_kind_right p o call (Wait operation) e f = tt

done_call_right : (p : MpiProgram) (o : ℕ) (found : Option Call) → call_at p o ≡ found → IsRight p (when_done_call found o)
done_call_right p o None e = tt
done_call_right p o (Some call) e = done_kind_right p o call call.kind e refl

done_right : (p : MpiProgram) (o : ℕ) → IsRight p (when_done p o)
done_right p o = done_call_right p o (call_at p o) refl

blocking_right : (p : MpiProgram) (b : Bool) (condition : Condition) → IsRight p condition → IsRight p (if_blocking b condition)
blocking_right p true condition h = h
blocking_right p false condition h = tt

returned_kind_right : (p : MpiProgram) (kind : Kind ℕ) (c : ℕ) → IsRight p (when_returned_kind p kind c)
returned_kind_right p (Send mode blocking message) c = blocking_right p blocking (when_done p c) (done_right p c)
returned_kind_right p (Receive blocking pattern) c = blocking_right p blocking (when_done p c) (done_right p c)
returned_kind_right p (MatchedProbe pattern receive) c = done_right p c
returned_kind_right p (Probe pattern) c = done_right p c
returned_kind_right p (MatchedReceive blocking) c = tt
returned_kind_right p (Wait operation) c = done_right p operation

returned_call_right : (p : MpiProgram) (found : Option Call) (c : ℕ) → IsRight p (when_returned_call p found c)
returned_call_right p None c = tt
returned_call_right p (Some call) c = returned_kind_right p call.kind c

returned_right : (p : MpiProgram) (c : ℕ) → IsRight p (when_returned p c)
returned_right p c = returned_call_right p (call_at p c) c

where_fetched_named : (p : MpiProgram) → IsProgram p → (c s : ℕ) (x : Statement) → c < length p.calls → s < length p.calls → NamesFact p x → Clauses (NamesFact p) (where_fetched p c s x)
where_fetched_named p is c s x c_below s_below h =
    each_map (Each (NamesFact p)) (λ t. is_false (issued c) ∷ is_false (matched s t) ∷ x ∷ unless_issued (receive_on_handle p t)) (takers_of p s)
    (each_taker p (λ t. Each (NamesFact p) (is_false (issued c) ∷ is_false (matched s t) ∷ x ∷ unless_issued (receive_on_handle p t))) s s_below (λ t pair.
    (issued_named p c c_below, (matched_named p s t pair, (h, unless_named p (receive_on_handle p t) (handle_named p is t))))))

where_under_named : (p : MpiProgram) → IsProgram p → (c : ℕ) (x : Statement) (condition : Condition) → c < length p.calls → NamesFact p x → IsRight p condition → Clauses (NamesFact p) (where_returned_under p c x condition)
where_under_named p is c x at_once below h right = ((issued_named p c below, (h, tt)), tt)
where_under_named p is c x (if_matched t) below h right =
    each_map (Each (NamesFact p)) (λ s. is_false (issued c) ∷ is_false (matched s t) ∷ x ∷ []) (sends_of p t)
    (each_sender p (λ s. Each (NamesFact p) (is_false (issued c) ∷ is_false (matched s t) ∷ x ∷ [])) t right.0 (λ s pair.
    (issued_named p c below, (matched_named p s t pair, (h, tt)))))
where_under_named p is c x (if_fetched s) below h right = where_fetched_named p is c s x below right h
where_under_named p is c x (if_buffered_or_fetched s) below h right =
    ((issued_named p c below, (buffered_named p s right.0 right.1, (h, tt))), where_fetched_named p is c s x below right.0 h)

where_returned_named : (p : MpiProgram) → IsProgram p → (c : ℕ) (x : Statement) → c < length p.calls → NamesFact p x → Clauses (NamesFact p) (where_returned p c x)
where_returned_named p is c x below h = where_under_named p is c x (when_returned p c) below h (returned_right p c)

-- ---- the families

issued_after_named : (p : MpiProgram) (c : ℕ) (o : Option ℕ) → c < length p.calls → IsCallIfAny p o → Clauses (Named p) (issued_after c o)
issued_after_named p c None below h = tt
issued_after_named p c (Some e) below h =
    ((issued_named p c below, (issued_named p e h, tt)), (((issue_named p e h, issue_named p c below), tt), tt))

issue_order_named : (p : MpiProgram) → Clauses (Named p) (calls_are_issued_in_order p)
issue_order_named p =
    each_call p (Named p) (λ c. issued_after c (previous_of_rank p c)) (λ c below. issued_after_named p c (previous_of_rank p c) below (previous_within p c below))

received_named : (p : MpiProgram) (c s t : ℕ) (otherwise : SymbolicClause) (o : Option ℕ) → c < length p.calls → IsPair p s t → Each (Named p) otherwise → IsCallIfAny p o → Clauses (Named p) (handle_is_received_on c s t otherwise o)
received_named p c s t otherwise None below pair rest h = tt
received_named p c s t otherwise (Some r) below pair rest h =
    ((issued_named p c below, (matched_named p s t pair, (issued_named p r h, rest))), tt)

-- what is said of each taker that the send fits
abbrev fetch_clauses : MpiProgram → ℕ → ℕ → SymbolicClause → ℕ → List SymbolicClause
fetch_clauses p c s otherwise t =
    ((is_false (issued c) ∷ is_false (matched s t) ∷ is_earlier (fetch_of p t) (issue_of c) ∷ []) ++ otherwise) ∷ handle_is_received_on c s t otherwise (receive_on_handle p t)

fetched_before_named : (p : MpiProgram) → IsProgram p → (c s : ℕ) (otherwise : SymbolicClause) → c < length p.calls → s < length p.calls → Each (Named p) otherwise → Clauses (Named p) (is_fetched_before p c s otherwise)
fetched_before_named p is c s otherwise c_below s_below rest = (
  (
    issued_named p c c_below,
    each_append (Named p) (map (λ t. is_true (matched s t)) (takers_of p s)) otherwise
        (each_map (Named p) (λ t. is_true (matched s t)) (takers_of p s) (each_taker p (λ t. Named p (is_true (matched s t))) s s_below (matched_named p s))) rest,
  ),
  each_flat_map (Each (Named p)) (fetch_clauses p c s otherwise) (takers_of p s) (each_taker p (λ t. Clauses (Named p) (fetch_clauses p c s otherwise t)) s s_below (λ t pair. (
    (issued_named p c c_below, (matched_named p s t pair, ((fetch_named p t (receive_on_handle p t) pair.1 (pair_taker p s t pair) (handle_named p is t), issue_named p c c_below), rest))),
    received_named p c s t otherwise (receive_on_handle p t) c_below pair rest (handle_named p is t),
  ))),
)

returned_before_named : (p : MpiProgram) → IsProgram p → (c : ℕ) (condition : Condition) → c < length p.calls → IsRight p condition → Clauses (Named p) (is_returned_before p c condition)
returned_before_named p is c at_once below right = tt
returned_before_named p is c (if_matched t) below right = (
  (issued_named p c below, each_map (Named p) (λ s. is_true (matched s t)) (sends_of p t) (each_sender p (λ s. Named p (is_true (matched s t))) t right.0 (λ s pair. matched_named p s t pair))),
  ((issued_named p c below, ((match_named p t right.0 right.1, issue_named p c below), tt)), tt),
)
returned_before_named p is c (if_fetched s) below right = fetched_before_named p is c s [] below right tt
returned_before_named p is c (if_buffered_or_fetched s) below right =
    fetched_before_named p is c s (is_true (buffered s) ∷ []) below right.0 (buffered_named p s right.0 right.1, tt)

return_order_step : (p : MpiProgram) → IsProgram p → (c : ℕ) (o : Option ℕ) → c < length p.calls → Clauses (Named p) (issued_after_return_of p c o)
return_order_step p is c None below = tt
return_order_step p is c (Some e) below = returned_before_named p is c (when_returned p e) below (returned_right p e)

return_order_named : (p : MpiProgram) → IsProgram p → Clauses (Named p) (calls_are_issued_after_returns p)
return_order_named p is = each_call p (Named p) (λ c. issued_after_return_of p c (previous_of_rank p c)) (λ c below. return_order_step p is c (previous_of_rank p c) below)

issued_before_named : (p : MpiProgram) (s t : ℕ) → IsPair p s t → Clauses (Named p) (issued_before_match s t)
issued_before_named p s t pair =
    let x = matched_named p s t pair in
    let y = match_named p t pair.1 (pair_taker p s t pair) in
    ((x, (issued_named p s pair.0, tt)), ((x, (issued_named p t pair.1, tt)), ((x, ((issue_named p s pair.0, y), tt)), ((x, ((issue_named p t pair.1, y), tt)), tt))))

match_order_named : (p : MpiProgram) → Clauses (Named p) (matches_come_after_issues p)
match_order_named p = each_pair p (Named p) issued_before_match (issued_before_named p)

later_sends_named : (p : MpiProgram) (s t : ℕ) → IsPair p s t → Clauses (Named p) (without_later_sends p s t)
later_sends_named p s t pair =
    let x = matched_named p s t pair in
    each_map (Each (Named p)) (λ u. is_false (matched s t) ∷ is_false (matched u t) ∷ []) (filter (nat_lt s) (sends_of p t))
    (each_filter (λ u. Each (Named p) (is_false (matched s t) ∷ is_false (matched u t) ∷ [])) (nat_lt s) (sends_of p t)
    (each_sender p (λ u. nat_lt s u ≡ true → Each (Named p) (is_false (matched s t) ∷ is_false (matched u t) ∷ [])) t pair.1 (λ u other passes. (x, (matched_named p u t other, tt)))))

match_once_named : (p : MpiProgram) → Clauses (Named p) (calls_are_matched_once p)
match_once_named p =
    each_pair p (Named p) (without_later_pairs p) (λ s t pair.
    let x = matched_named p s t pair in
    each_append (Each (Named p)) (map (λ u. is_false (matched s t) ∷ is_false (matched s u) ∷ []) (filter (nat_lt t) (takers_of p s))) _
    (each_map (Each (Named p)) (λ u. is_false (matched s t) ∷ is_false (matched s u) ∷ []) (filter (nat_lt t) (takers_of p s))
    (each_filter (λ u. Each (Named p) (is_false (matched s t) ∷ is_false (matched s u) ∷ [])) (nat_lt t) (takers_of p s)
    (each_taker p (λ u. nat_lt t u ≡ true → Each (Named p) (is_false (matched s t) ∷ is_false (matched s u) ∷ [])) s pair.0 (λ u other passes. (x, (matched_named p s u other, tt))))))
    (later_sends_named p s t pair))

each_earlier_send : (p : MpiProgram) (P : ℕ → Type 0) (s t : ℕ) → IsPair p s t → ((e : ℕ) → IsPair p e t → P e) → Each P (earlier_sends p s t)
each_earlier_send p P s t pair h =
    each_filter P (λ e. are_of_one_rank p e s && are_fit p e t) (range_with_len 0 s)
    (each_range (λ e. (are_of_one_rank p e s && are_fit p e t) ≡ true → P e) 0 s (λ e above below passes.
    let in_calls : e < length p.calls = omega (arith, below, pair.0) in
    h e (in_calls, pair.1, (and_parts (are_of_one_rank p e s) (are_fit p e t) passes).1)))

each_earlier_taker : (p : MpiProgram) (P : ℕ → Type 0) (s t : ℕ) → IsPair p s t → ((e : ℕ) → IsPair p s e → P e) → Each P (earlier_takers p s t)
each_earlier_taker p P s t pair h =
    each_filter P (λ e. are_of_one_rank p e t && takes p s e) (range_with_len 0 t)
    (each_range (λ e. (are_of_one_rank p e t && takes p s e) ≡ true → P e) 0 t (λ e above below passes.
    let in_calls : e < length p.calls = omega (arith, below, pair.1) in
    h e (pair.0, in_calls, fit_of_takes p s e (and_parts (are_of_one_rank p e t) (takes p s e) passes).1)))

send_before_named : (p : MpiProgram) (s t e : ℕ) → IsPair p s t → IsPair p e t → Clauses (Named p) (send_is_matched_before p s t e)
send_before_named p s t e pair earlier =
    let x = matched_named p s t pair in (
      (
        x,
        each_map (Named p) (λ u. is_true (matched e u)) (filter (λ u. not (u == t)) (takers_of p e))
            (each_filter (λ u. Named p (is_true (matched e u))) (λ u. not (u == t)) (takers_of p e)
            (each_taker p (λ u. not (u == t) ≡ true → Named p (is_true (matched e u))) e earlier.0 (λ u other passes. matched_named p e u other))),
      ),
      each_map (Each (Named p)) (λ u. is_false (matched s t) ∷ is_false (matched e u) ∷ is_earlier (match_of u) (match_of t) ∷ []) (filter (λ u. not (u == t)) (takers_of p e))
          (each_filter (λ u. Each (Named p) (is_false (matched s t) ∷ is_false (matched e u) ∷ is_earlier (match_of u) (match_of t) ∷ [])) (λ u. not (u == t)) (takers_of p e)
          (each_taker p (λ u. not (u == t) ≡ true → Each (Named p) (is_false (matched s t) ∷ is_false (matched e u) ∷ is_earlier (match_of u) (match_of t) ∷ [])) e earlier.0 (λ u other passes.
          (x, (matched_named p e u other, ((match_named p u other.1 (pair_taker p e u other), match_named p t pair.1 (pair_taker p s t pair)), tt)))))),
    )

send_order_named : (p : MpiProgram) → Clauses (Named p) (sends_do_not_overtake p)
send_order_named p =
    each_pair p (Named p) (λ s t. flat_map (send_is_matched_before p s t) (earlier_sends p s t)) (λ s t pair.
    each_flat_map (Each (Named p)) (send_is_matched_before p s t) (earlier_sends p s t)
    (each_earlier_send p (λ e. Clauses (Named p) (send_is_matched_before p s t e)) s t pair (λ e earlier. send_before_named p s t e pair earlier)))

taker_before_named : (p : MpiProgram) (s t e : ℕ) → IsPair p s t → IsPair p s e → Clauses (Named p) (taker_is_matched_before p s t e)
taker_before_named p s t e pair earlier =
    let x = matched_named p s t pair in (
      (
        x,
        each_map (Named p) (λ u. is_true (matched u e)) (filter (λ u. not (u == s)) (sends_of p e))
            (each_filter (λ u. Named p (is_true (matched u e))) (λ u. not (u == s)) (sends_of p e)
            (each_sender p (λ u. not (u == s) ≡ true → Named p (is_true (matched u e))) e earlier.1 (λ u other passes. matched_named p u e other))),
      ),
      ((x, ((match_named p e earlier.1 (pair_taker p s e earlier), match_named p t pair.1 (pair_taker p s t pair)), tt)), tt),
    )

taker_order_named : (p : MpiProgram) → Clauses (Named p) (takers_do_not_overtake p)
taker_order_named p =
    each_pair p (Named p) (λ s t. flat_map (taker_is_matched_before p s t) (earlier_takers p s t)) (λ s t pair.
    each_flat_map (Each (Named p)) (taker_is_matched_before p s t) (earlier_takers p s t)
    (each_earlier_taker p (λ e. Clauses (Named p) (taker_is_matched_before p s t e)) s t pair (λ e earlier. taker_before_named p s t e pair earlier)))

pair_waits_named : (p : MpiProgram) (s t : ℕ) → IsPair p s t → Clauses (NamesFact p) (pair_does_not_wait p s t)
pair_waits_named p s t pair = (
  (
    issued_named p s pair.0,
    (
      issued_named p t pair.1,
      each_append (NamesFact p) (map (λ u. is_true (matched s u)) (takers_of p s)) (map (λ u. is_true (matched u t)) (sends_of p t))
          (each_map (NamesFact p) (λ u. is_true (matched s u)) (takers_of p s) (each_taker p (λ u. NamesFact p (is_true (matched s u))) s pair.0 (matched_named p s)))
          (each_map (NamesFact p) (λ u. is_true (matched u t)) (sends_of p t) (each_sender p (λ u. NamesFact p (is_true (matched u t))) t pair.1 (λ u other. matched_named p u t other))),
    ),
  ),
  tt,
)

no_pair_waits_named : (p : MpiProgram) → Clauses (NamesFact p) (no_pair_waits p)
no_pair_waits_named p = each_pair p (NamesFact p) (pair_does_not_wait p) (pair_waits_named p)

no_issue_step : (p : MpiProgram) → IsProgram p → (c : ℕ) (o : Option ℕ) → c < length p.calls → IsCallIfAny p o → Clauses (NamesFact p) (issue_does_not_wait p c o)
no_issue_step p is c None below h = ((issued_named p c below, tt), tt)
no_issue_step p is c (Some e) below h = where_returned_named p is e (is_true (issued c)) h (issued_named p c below)

no_issue_waits_named : (p : MpiProgram) → IsProgram p → Clauses (NamesFact p) (no_issue_waits p)
no_issue_waits_named p is =
    each_call p (NamesFact p) (λ c. issue_does_not_wait p c (previous_of_rank p c)) (λ c below. no_issue_step p is c (previous_of_rank p c) below (previous_within p c below))

each_last : (p : MpiProgram) (P : ℕ → Type 0) → ((c : ℕ) → c < length p.calls → not (are_of_one_rank p c (c + 1)) ≡ true → P c) → Each P (last_calls p)
each_last p P h =
    each_filter P (λ c. not (are_of_one_rank p c (c + 1))) (places p) (each_place p (λ c. not (are_of_one_rank p c (c + 1)) ≡ true → P c) h)

unfinished_family_named : (p : MpiProgram) → IsProgram p → Clauses (NamesFact p) (some_rank_is_unfinished p)
unfinished_family_named p is =
    each_append (Each (NamesFact p)) (flat_map (λ c. where_returned p c (is_false (unfinished (rank_of p c)))) (last_calls p)) _
    (each_flat_map (Each (NamesFact p)) (λ c. where_returned p c (is_false (unfinished (rank_of p c)))) (last_calls p)
    (each_last p (λ c. Clauses (NamesFact p) (where_returned p c (is_false (unfinished (rank_of p c))))) (λ c below is_last.
    where_returned_named p is c (is_false (unfinished (rank_of p c))) below (unfinished_named p c below is_last)))) (
      each_map (NamesFact p) (λ c. is_true (unfinished (rank_of p c))) (last_calls p)
          (each_last p (λ c. NamesFact p (is_true (unfinished (rank_of p c)))) (unfinished_named p)),
      tt,
    )

policy_step : (p : MpiProgram) (policy : Policy) (s : ℕ) → s < length p.calls → is_standard p s ≡ true → Clauses (NamesFact p) (buffered_under policy s)
policy_step p Any s below standard = tt
policy_step p Never s below standard = ((buffered_named p s below standard, tt), tt)
policy_step p Always s below standard = ((buffered_named p s below standard, tt), tt)

policy_named : (p : MpiProgram) → Clauses (NamesFact p) (sends_are_buffered_as_allowed p)
policy_named p =
    each_flat_map (Each (NamesFact p)) (buffered_under p.policy) (standard_sends p)
    (each_filter (λ s. Clauses (NamesFact p) (buffered_under p.policy s)) (is_standard p) (places p)
    (each_place p (λ s. is_standard p s ≡ true → Clauses (NamesFact p) (buffered_under p.policy s)) (policy_step p p.policy)))

pub fact_is_named : (p : MpiProgram) (x : Statement) → NamesFact p x → Named p x
fact_is_named p (is_true y) h = h
fact_is_named p (is_false y) h = h
fact_is_named p (is_earlier e f) h = absurd h

seen_before_named : (p : MpiProgram) (s f : ℕ) → IsPair p s f → Clauses (Named p) (seen_before_taken p s f)
seen_before_named p s f pair =
    each_map (Each (Named p)) (λ t. is_false (matched s f) ∷ is_false (matched s t) ∷ is_earlier (match_of f) (match_of t) ∷ []) (takers_of p s)
    (each_taker p (λ t. Each (Named p) (is_false (matched s f) ∷ is_false (matched s t) ∷ is_earlier (match_of f) (match_of t) ∷ [])) s pair.0 (λ t other.
    (matched_named p s f pair, (matched_named p s t other, ((match_named p f pair.1 (pair_taker p s f pair), match_named p t other.1 (pair_taker p s t other)), tt)))))

see_named : (p : MpiProgram) (s f : ℕ) → IsPair p s f → Clauses (Named p) (see_clauses p s f)
see_named p s f pair =
    let N = Each (Named p) in
    each_append N (issued_before_match s f) _ (issued_before_named p s f pair)
    (each_append N (seen_before_taken p s f) _ (seen_before_named p s f pair)
    (each_append N (without_later_sends p s f) _ (later_sends_named p s f pair)
    (each_append N (flat_map (send_is_matched_before p s f) (earlier_sends p s f)) _
    (each_flat_map N (send_is_matched_before p s f) (earlier_sends p s f)
    (each_earlier_send p (λ e. Clauses (Named p) (send_is_matched_before p s f e)) s f pair (λ e earlier. send_before_named p s f e pair earlier)))
    (each_append N (flat_map (taker_is_matched_before p s f) (earlier_takers p s f)) (pair_does_not_wait p s f)
    (each_flat_map N (taker_is_matched_before p s f) (earlier_takers p s f)
    (each_earlier_taker p (λ e. Clauses (Named p) (taker_is_matched_before p s f e)) s f pair (λ e earlier. taker_before_named p s f e pair earlier)))
    (each_mono (Each (NamesFact p)) N (each_mono (NamesFact p) (Named p) (fact_is_named p)) (pair_does_not_wait p s f) (pair_waits_named p s f pair))))))

pub sees_named : (p : MpiProgram) → Clauses (Named p) (probes_see_messages p)
sees_named p = each_seeing_pair p (Named p) (see_clauses p) (see_named p)

-- the families before the clauses on the order of events that state an order, and the others
abbrev pub families_of_order : MpiProgram → List (List SymbolicClause)
families_of_order p = map (said p) (filter (λ family. (family_of family).states_order) first_families)

abbrev pub families_of_end : MpiProgram → List (List SymbolicClause)
families_of_end p = map (said p) (filter (λ family. not (family_of family).states_order) first_families)

-- each event of which an order is stated is the program's
pub order_named : (p : MpiProgram) → IsProgram p → Each (Clauses (Named p)) (families_of_order p)
order_named p is = (
  issue_order_named p,
  (return_order_named p is, (match_order_named p, (match_once_named p, (send_order_named p, (taker_order_named p, tt))))),
)

-- the other families speak of facts alone
pub end_named : (p : MpiProgram) → IsProgram p → Each (Clauses (NamesFact p)) (families_of_end p)
end_named p is = (no_pair_waits_named p, (no_issue_waits_named p is, (unfinished_family_named p is, tt)))

pub policy_names : (p : MpiProgram) → Clauses (NamesFact p) (sends_are_buffered_as_allowed p)
policy_names p = policy_named p

pub with_orders_named : (p : MpiProgram) → IsProgram p → Each (Clauses (Named p)) (families_with_orders p)
with_orders_named p is = each_append (Clauses (Named p)) (families_of_order p) (probes_see_messages p ∷ []) (order_named p is) (sees_named p, tt)

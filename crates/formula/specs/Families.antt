-- The clauses of a program, family by family, before their variables are numbered. Together they
-- say of the end of a run, and of the order of its events, that the run follows the program and is
-- stuck.
use Rattle.std.specs.Prelude.{ℕ, zero, suc, ◌+◌, Bool, true, false, not, ◌==◌, nat_lt, if◌then◌else◌, is_some, List, [], ◌∷◌, ◌++◌, map, filter, get_or, Option, Some, None}
use Rattle.std.specs.List.{flat_map, position_or_len}
use Rattle.calltext.specs.declared.call.Mode.TheVariants.{Standard, Synchronous, Buffered}
use Rattle.calltext.specs.declared.call.Policy.{Policy}
use Rattle.calltext.specs.declared.call.Policy.TheVariants.{Any, Never, Always}
use Rattle.callorder.specs.declared.calls.Call.{Call}
use Rattle.callorder.specs.declared.calls.Kind.{Kind}
use Rattle.callorder.specs.declared.calls.Kind.TheVariants.{Send, Receive, MatchedProbe, Probe, MatchedReceive, Wait}
use Rattle.callorder.specs.Calls.{pattern_of, receive_of}
use Rattle.callorder.specs.Programs.{MpiProgram, call_at, are_of_one_rank, are_fit}
use Rattle.candidates.specs.Pairs.{places, takers_of, matching_pairs, seeing_pairs}
use Rattle.nonovertake.specs.Earlier.{earlier_sends, earlier_takers}
pub use Rattle.formula.specs.declared.facts.Condition.{Condition}
pub use Rattle.formula.specs.declared.facts.Condition.TheVariants.{AtOnce as at_once, IfMatched as if_matched, IfFetched as if_fetched, IfBufferedOrFetched as if_buffered_or_fetched}
pub use Rattle.formula.specs.declared.families.Family.{Family}
pub use Rattle.formula.specs.declared.families.Family.TheVariants.{IssueOrder, ReturnOrder, MatchOrder, MatchedOnce, SendOrder, TakerOrder, NoPairWaits, NoIssueWaits, SomeUnfinished, Buffering, Sees}
use Rattle.formula.specs.Facts.{RunEvent, issue_of, match_of, issued, buffered, matched, unfinished, Statement, is_true, is_false, is_earlier, is_same_event}

-- ---- calls

-- the sends that fit a taker, rising
abbrev pub sends_of : MpiProgram → ℕ → List ℕ
sends_of p taker = filter (λ send. are_fit p send taker) (places p)

-- the call exists and is a receive, a matched probe or a probe
abbrev pub call_finds_message : Option Call → Bool
call_finds_message None = false
call_finds_message (Some call) = is_some (pattern_of call.kind)

-- the call is a receive, a matched probe or a probe
abbrev pub finds_message : MpiProgram → ℕ → Bool
finds_message p c = call_finds_message (call_at p c)

-- a send in standard mode
abbrev pub is_standard_kind : Kind ℕ → Bool
is_standard_kind (Send Standard blocking message) = true
is_standard_kind other = false

-- the call exists and is a send in standard mode
abbrev pub is_standard_call : Option Call → Bool
is_standard_call None = false
is_standard_call (Some call) = is_standard_kind call.kind

-- the call is a send in standard mode
abbrev pub is_standard : MpiProgram → ℕ → Bool
is_standard p c = is_standard_call (call_at p c)

-- the sends in standard mode, rising
abbrev pub standard_sends : MpiProgram → List ℕ
standard_sends p = filter (is_standard p) (places p)

-- the receive on the handle of a call that exists and is a matched probe
abbrev pub receive_of_call : Option Call → Option ℕ
receive_of_call None = None
receive_of_call (Some call) = receive_of call.kind

-- the receive on the handle of a call that is a matched probe
abbrev pub receive_on_handle : MpiProgram → ℕ → Option ℕ
receive_on_handle p c = receive_of_call (call_at p c)

-- the call directly before this one, if it is of the same rank
abbrev pub previous_of_rank : MpiProgram → ℕ → Option ℕ
previous_of_rank p zero = None
previous_of_rank p (suc c) = if are_of_one_rank p c (suc c) then Some c else None

-- the last calls of the ranks that have a call, rising: those with no call of their rank directly
-- after them
abbrev pub last_calls : MpiProgram → List ℕ
last_calls p = filter (λ c. not (are_of_one_rank p c (c + 1))) (places p)

-- the rank of a call that exists
abbrev pub rank_of_call : Option Call → ℕ
rank_of_call None = 0
rank_of_call (Some call) = call.rank

-- the rank of a call
abbrev pub rank_of : MpiProgram → ℕ → ℕ
rank_of p c = rank_of_call (call_at p c)

-- ---- events

-- the events that a run may have: the issue of each call, and then the match of each taker
abbrev pub events : MpiProgram → List RunEvent
events p = map issue_of (places p) ++ map match_of (filter (finds_message p) (places p))

-- the event at a place of the list
abbrev pub event_at : MpiProgram → ℕ → RunEvent
event_at p place = get_or (events p) place (issue_of 0)

-- the place of an event in the list
abbrev pub place_of_event : MpiProgram → RunEvent → ℕ
place_of_event p e = position_or_len (is_same_event e) (events p)

-- the event by which a taker with this receive on its handle, or with none, fetches its message
abbrev pub event_of_fetch : Option ℕ → ℕ → RunEvent
event_of_fetch None taker = match_of taker
event_of_fetch (Some receive) taker = issue_of receive

-- the event by which a taker fetches its message: its match, and for a matched probe the issue of
-- the receive on its handle
abbrev pub fetch_of : MpiProgram → ℕ → RunEvent
fetch_of p taker = event_of_fetch (receive_on_handle p taker) taker

-- ---- when an issued call has returned

-- the condition under which the operation of a call of this kind is done
abbrev pub when_done_kind : Kind ℕ → ℕ → Condition
when_done_kind (Send Standard blocking message) o = if_buffered_or_fetched o
when_done_kind (Send Synchronous blocking message) o = if_fetched o
when_done_kind (Send Buffered blocking message) o = at_once
when_done_kind (Receive blocking pattern) o = if_matched o
when_done_kind (MatchedProbe pattern receive) o = if_matched o
when_done_kind (Probe pattern) o = if_matched o
when_done_kind (MatchedReceive blocking) o = at_once
when_done_kind (Wait operation) o = at_once

-- the condition under which the operation of a call that exists is done
abbrev pub when_done_call : Option Call → ℕ → Condition
when_done_call None o = at_once
when_done_call (Some call) o = when_done_kind call.kind o

-- the condition under which the operation of a call is done
abbrev pub when_done : MpiProgram → ℕ → Condition
when_done p o = when_done_call (call_at p o) o

-- a nonblocking call returns at once
abbrev pub if_blocking : Bool → Condition → Condition
if_blocking true condition = condition
if_blocking false condition = at_once

-- the condition under which an issued call of this kind has returned
abbrev pub when_returned_kind : MpiProgram → Kind ℕ → ℕ → Condition
when_returned_kind p (Send mode blocking message) c = if_blocking blocking (when_done p c)
when_returned_kind p (Receive blocking pattern) c = if_blocking blocking (when_done p c)
when_returned_kind p (MatchedProbe pattern receive) c = when_done p c
when_returned_kind p (Probe pattern) c = when_done p c
when_returned_kind p (MatchedReceive blocking) c = at_once
when_returned_kind p (Wait operation) c = when_done p operation

-- the condition under which an issued call that exists has returned
abbrev pub when_returned_call : MpiProgram → Option Call → ℕ → Condition
when_returned_call p None c = at_once
when_returned_call p (Some call) c = when_returned_kind p call.kind c

-- the condition under which an issued call has returned
abbrev pub when_returned : MpiProgram → ℕ → Condition
when_returned p c = when_returned_call p (call_at p c) c

-- ---- what follows where a call has returned

-- a clause says that one of its statements is right
abbrev pub SymbolicClause : Type 0
SymbolicClause = List Statement

-- where there is a receive on a handle, it isn't issued
abbrev pub unless_issued : Option ℕ → SymbolicClause
unless_issued None = []
unless_issued (Some receive) = is_false (issued receive) ∷ []

-- where the call is issued and the send is fetched, the statement is right
abbrev pub where_fetched : MpiProgram → ℕ → ℕ → Statement → List SymbolicClause
where_fetched p c send x =
    map (λ taker. is_false (issued c) ∷ is_false (matched send taker) ∷ x ∷ unless_issued (receive_on_handle p taker)) (takers_of p send)

-- where the call is issued and the condition holds, the statement is right
abbrev pub where_returned_under : MpiProgram → ℕ → Statement → Condition → List SymbolicClause
where_returned_under p c x at_once = (is_false (issued c) ∷ x ∷ []) ∷ []
where_returned_under p c x (if_matched taker) =
    map (λ send. is_false (issued c) ∷ is_false (matched send taker) ∷ x ∷ []) (sends_of p taker)
where_returned_under p c x (if_fetched send) = where_fetched p c send x
where_returned_under p c x (if_buffered_or_fetched send) =
    (is_false (issued c) ∷ is_false (buffered send) ∷ x ∷ []) ∷ where_fetched p c send x

-- where the call is issued and has returned, the statement is right
abbrev pub where_returned : MpiProgram → ℕ → Statement → List SymbolicClause
where_returned p c x = where_returned_under p c x (when_returned p c)

-- ---- what is said of a call or of a pair

-- where the call is issued, the one before it is, and earlier
abbrev pub issued_after : ℕ → Option ℕ → List SymbolicClause
issued_after c None = []
issued_after c (Some earlier) =
    (is_false (issued c) ∷ is_true (issued earlier) ∷ []) ∷ (is_earlier (issue_of earlier) (issue_of c) ∷ []) ∷ []

-- where the call is issued and the send matched with a matched probe, the receive on its handle is
-- issued, or the rest of the clause is right
abbrev pub handle_is_received_on : ℕ → ℕ → ℕ → SymbolicClause → Option ℕ → List SymbolicClause
handle_is_received_on c send taker otherwise None = []
handle_is_received_on c send taker otherwise (Some receive) =
    ((is_false (issued c) ∷ is_false (matched send taker) ∷ is_true (issued receive) ∷ []) ++ otherwise) ∷ []

-- where the call is issued, the send is fetched before, or the rest of the clause is right
abbrev pub is_fetched_before : MpiProgram → ℕ → ℕ → SymbolicClause → List SymbolicClause
is_fetched_before p c send otherwise =
    ((is_false (issued c) ∷ map (λ taker. is_true (matched send taker)) (takers_of p send)) ++ otherwise) ∷
    flat_map
    (λ taker.
    ((is_false (issued c) ∷ is_false (matched send taker) ∷ is_earlier (fetch_of p taker) (issue_of c) ∷ []) ++ otherwise) ∷
    handle_is_received_on c send taker otherwise (receive_on_handle p taker))
    (takers_of p send)

-- where the call is issued, the condition holds before
abbrev pub is_returned_before : MpiProgram → ℕ → Condition → List SymbolicClause
is_returned_before p c at_once = []
is_returned_before p c (if_matched taker) =
    (is_false (issued c) ∷ map (λ send. is_true (matched send taker)) (sends_of p taker)) ∷
    (is_false (issued c) ∷ is_earlier (match_of taker) (issue_of c) ∷ []) ∷
    []
is_returned_before p c (if_fetched send) = is_fetched_before p c send []
is_returned_before p c (if_buffered_or_fetched send) = is_fetched_before p c send (is_true (buffered send) ∷ [])

-- where the call is issued, the one before it has returned before
abbrev pub issued_after_return_of : MpiProgram → ℕ → Option ℕ → List SymbolicClause
issued_after_return_of p c None = []
issued_after_return_of p c (Some earlier) = is_returned_before p c (when_returned p earlier)

-- where the pair is matched, both calls are issued, and before
abbrev pub issued_before_match : ℕ → ℕ → List SymbolicClause
issued_before_match send taker =
    (is_false (matched send taker) ∷ is_true (issued send) ∷ []) ∷
    (is_false (matched send taker) ∷ is_true (issued taker) ∷ []) ∷
    (is_false (matched send taker) ∷ is_earlier (issue_of send) (match_of taker) ∷ []) ∷
    (is_false (matched send taker) ∷ is_earlier (issue_of taker) (match_of taker) ∷ []) ∷
    []

-- the finder doesn't find a later send too
abbrev pub without_later_sends : MpiProgram → ℕ → ℕ → List SymbolicClause
without_later_sends p send finder =
    map (λ other. is_false (matched send finder) ∷ is_false (matched other finder) ∷ []) (filter (nat_lt send) (sends_of p finder))

-- the pair isn't matched together with a later pair of the same send or taker
abbrev pub without_later_pairs : MpiProgram → ℕ → ℕ → List SymbolicClause
without_later_pairs p send taker =
    map (λ other. is_false (matched send taker) ∷ is_false (matched send other) ∷ []) (filter (nat_lt taker) (takers_of p send)) ++
    without_later_sends p send taker

-- where the pair is matched, the earlier send is matched with another taker, and earlier
abbrev pub send_is_matched_before : MpiProgram → ℕ → ℕ → ℕ → List SymbolicClause
send_is_matched_before p send taker earlier =
    let others = filter (λ other. not (other == taker)) (takers_of p earlier) in
    (is_false (matched send taker) ∷ map (λ other. is_true (matched earlier other)) others) ∷
    map (λ other. is_false (matched send taker) ∷ is_false (matched earlier other) ∷ is_earlier (match_of other) (match_of taker) ∷ []) others

-- where the pair is matched, the earlier taker is matched with another send, and earlier
abbrev pub taker_is_matched_before : MpiProgram → ℕ → ℕ → ℕ → List SymbolicClause
taker_is_matched_before p send taker earlier =
    (is_false (matched send taker) ∷ map (λ other. is_true (matched other earlier)) (filter (λ other. not (other == send)) (sends_of p earlier))) ∷
    (is_false (matched send taker) ∷ is_earlier (match_of earlier) (match_of taker) ∷ []) ∷
    []

-- where both calls are issued, the send or the taker is matched
abbrev pub pair_does_not_wait : MpiProgram → ℕ → ℕ → List SymbolicClause
pair_does_not_wait p send taker =
    (is_false (issued send) ∷ is_false (issued taker) ∷
    (map (λ other. is_true (matched send other)) (takers_of p send) ++ map (λ other. is_true (matched other taker)) (sends_of p taker))) ∷
    []

-- the call is issued where there is none before it, or where the one before it has returned
abbrev pub issue_does_not_wait : MpiProgram → ℕ → Option ℕ → List SymbolicClause
issue_does_not_wait p c None = (is_true (issued c) ∷ []) ∷ []
issue_does_not_wait p c (Some earlier) = where_returned p earlier (is_true (issued c))

-- what the policy says of a standard send
abbrev pub buffered_under : Policy → ℕ → List SymbolicClause
buffered_under Any send = []
buffered_under Never send = (is_false (buffered send) ∷ []) ∷ []
buffered_under Always send = (is_true (buffered send) ∷ []) ∷ []

-- where the probe has seen the send and the send is matched with a taker, the probe saw it before
abbrev pub seen_before_taken : MpiProgram → ℕ → ℕ → List SymbolicClause
seen_before_taken p send probe =
    map (λ taker. is_false (matched send probe) ∷ is_false (matched send taker) ∷ is_earlier (match_of probe) (match_of taker) ∷ []) (takers_of p send)

-- What is said of a send and a probe that fits it (`matched`: the probe has seen it). Where it has,
-- both are issued, and before; the send is matched with no taker before; no later send is seen too;
-- each earlier send that fits the probe, and each earlier taker that the send fits, is matched
-- before. And where both are issued, the send is matched, or the probe has seen one.
abbrev pub see_clauses : MpiProgram → ℕ → ℕ → List SymbolicClause
see_clauses p send probe =
    issued_before_match send probe ++
    (seen_before_taken p send probe ++
    (without_later_sends p send probe ++
    (flat_map (send_is_matched_before p send probe) (earlier_sends p send probe) ++
    (flat_map (taker_is_matched_before p send probe) (earlier_takers p send probe) ++
    pair_does_not_wait p send probe))))

-- ---- the families

-- Of what a family speaks, and what it says: of each call, of each standard send, of the last call
-- of each rank and then once of the whole program, of each pair of a send and a taker, or of each
-- pair of a send and a probe.
pub data SymbolicBlocks : Type 0 where
  by_call : (MpiProgram → ℕ → List SymbolicClause) → SymbolicBlocks
  by_standard_send : (MpiProgram → ℕ → List SymbolicClause) → SymbolicBlocks
  by_last_call : (MpiProgram → ℕ → List SymbolicClause) → (MpiProgram → SymbolicClause) → SymbolicBlocks
  by_pair : (MpiProgram → ℕ → ℕ → List SymbolicClause) → SymbolicBlocks
  by_see : (MpiProgram → ℕ → ℕ → List SymbolicClause) → SymbolicBlocks

-- the clauses of all calls in call order, or of all pairs by send, then by taker or probe
abbrev pub clauses_in : MpiProgram → SymbolicBlocks → List SymbolicClause
clauses_in p (by_call clauses) = flat_map (clauses p) (places p)
clauses_in p (by_standard_send clauses) = flat_map (clauses p) (standard_sends p)
clauses_in p (by_last_call clauses clause) = flat_map (clauses p) (last_calls p) ++ (clause p ∷ [])
clauses_in p (by_pair clauses) = flat_map (λ pair. clauses p pair.0 pair.1) (matching_pairs p)
clauses_in p (by_see clauses) = flat_map (λ pair. clauses p pair.0 pair.1) (seeing_pairs p)

-- a family of clauses: what it says, and whether a clause may state which of two events is earlier
pub record ClauseFamily : Type 0 where
  pub says : SymbolicBlocks
  pub states_order : Bool

-- a family that may state an order
abbrev with_order : SymbolicBlocks → ClauseFamily
with_order blocks = record { says = blocks; states_order = true }

-- a family that states none
abbrev without_order : SymbolicBlocks → ClauseFamily
without_order blocks = record { says = blocks; states_order = false }

-- what each family is
abbrev pub family_of : Family → ClauseFamily
family_of IssueOrder = with_order (by_call (λ p c. issued_after c (previous_of_rank p c)))
family_of ReturnOrder = with_order (by_call (λ p c. issued_after_return_of p c (previous_of_rank p c)))
family_of MatchOrder = with_order (by_pair (λ p send taker. issued_before_match send taker))
family_of MatchedOnce = with_order (by_pair without_later_pairs)
family_of SendOrder =
    with_order (by_pair (λ p send taker. flat_map (send_is_matched_before p send taker) (earlier_sends p send taker)))
family_of TakerOrder =
    with_order (by_pair (λ p send taker. flat_map (taker_is_matched_before p send taker) (earlier_takers p send taker)))
family_of NoPairWaits = without_order (by_pair pair_does_not_wait)
family_of NoIssueWaits = without_order (by_call (λ p c. issue_does_not_wait p c (previous_of_rank p c)))
family_of SomeUnfinished =
    without_order (by_last_call (λ p c. where_returned p c (is_false (unfinished (rank_of p c)))) (λ p. map (λ c. is_true (unfinished (rank_of p c))) (last_calls p)))
family_of Buffering = without_order (by_standard_send (λ p send. buffered_under p.policy send))
family_of Sees = with_order (by_see see_clauses)

-- the clauses of a family
abbrev pub said : MpiProgram → Family → List SymbolicClause
said p family = clauses_in p (family_of family).says

-- Calls are issued in order: where a call is issued, the one before it is issued. The issue of the
-- one before it is earlier.
abbrev pub calls_are_issued_in_order : MpiProgram → List SymbolicClause
calls_are_issued_in_order p = said p IssueOrder

-- Calls are issued after returns: where a call is issued, the one before it has returned, and what
-- made it return is earlier.
abbrev pub calls_are_issued_after_returns : MpiProgram → List SymbolicClause
calls_are_issued_after_returns p = said p ReturnOrder

-- Matches come after issues: what is matched is issued, and earlier than the match.
abbrev pub matches_come_after_issues : MpiProgram → List SymbolicClause
matches_come_after_issues p = said p MatchOrder

-- Calls are matched once: of two pairs that share a send or a taker, one isn't matched.
abbrev pub calls_are_matched_once : MpiProgram → List SymbolicClause
calls_are_matched_once p = said p MatchedOnce

-- Sends don't overtake: where a pair is matched, each earlier send of the send's rank that fits the
-- taker is matched with another taker, and earlier.
abbrev pub sends_do_not_overtake : MpiProgram → List SymbolicClause
sends_do_not_overtake p = said p SendOrder

-- Takers don't overtake: where a pair is matched, each earlier taker of the taker's rank that the
-- send fits is matched with another send, and earlier.
abbrev pub takers_do_not_overtake : MpiProgram → List SymbolicClause
takers_do_not_overtake p = said p TakerOrder

-- No pair waits: of a send and a taker that fit and are issued, one is matched.
abbrev pub no_pair_waits : MpiProgram → List SymbolicClause
no_pair_waits p = said p NoPairWaits

-- No issue waits: the first call of each rank is issued, and each call that stands after one that
-- has returned.
abbrev pub no_issue_waits : MpiProgram → List SymbolicClause
no_issue_waits p = said p NoIssueWaits

-- Some rank is unfinished, and none whose last call has returned.
abbrev pub some_rank_is_unfinished : MpiProgram → List SymbolicClause
some_rank_is_unfinished p = said p SomeUnfinished

-- Standard sends are buffered as the policy says: never, always, or freely.
abbrev pub sends_are_buffered_as_allowed : MpiProgram → List SymbolicClause
sends_are_buffered_as_allowed p = said p Buffering

-- Probes see messages: each sees one that waits and doesn't overtake, and none waits where such a
-- message is there.
abbrev pub probes_see_messages : MpiProgram → List SymbolicClause
probes_see_messages p = said p Sees

-- ---- all families

-- the families before the clauses on the order of events
abbrev pub first_families : List Family
first_families =
    IssueOrder ∷ ReturnOrder ∷ MatchOrder ∷ MatchedOnce ∷ SendOrder ∷ TakerOrder ∷ NoPairWaits ∷ NoIssueWaits ∷ SomeUnfinished ∷ []

-- the families behind them
abbrev pub last_families : List Family
last_families = Buffering ∷ Sees ∷ []

-- all families, in the order of the formula
abbrev pub all_families : List Family
all_families = first_families ++ last_families

-- the clauses of all families
abbrev pub families : MpiProgram → List (List SymbolicClause)
families p = map (said p) all_families

-- the clauses of the families of which some clause states an order
abbrev pub families_with_orders : MpiProgram → List (List SymbolicClause)
families_with_orders p = map (said p) (filter (λ family. (family_of family).states_order) all_families)

-- Of the formula of stuck runs all families but the one that some rank is unfinished are kept in
-- the formula of the runs that finish: each of their clauses says something else.
use Rattle.std.proofs.Common.{◌≡◌, ℕ, zero, suc, ◌<◌, Bool, true, false, not, ◌==◌, nat_lt, if◌then◌else◌, List, [], ◌∷◌, ◌++◌, map, length, Option, Some, None, refl, arith}
use Rattle.std.specs.List.{filter, flat_map, list_all}
use Rattle.std.proofs.lemmas.Bool.Decides.{nat_tests}
use Rattle.calltext.specs.declared.call.Policy.{Policy}
use Rattle.calltext.specs.declared.call.Policy.TheVariants.{Any, Never, Always}
use Rattle.callorder.specs.Programs.{MpiProgram, are_of_one_rank, are_fit, takes}
use Rattle.candidates.specs.Pairs.{places, takers_of}
use Rattle.nonovertake.specs.Earlier.{earlier_sends, earlier_takers}
use Rattle.formula.specs.declared.facts.RunEvent.TheVariants.{Issue as issue_of, Match as match_of}
use Rattle.formula.specs.declared.facts.Fact.TheVariants.{Issued as issued, Buffered as buffered, Matched as matched}
use Rattle.formula.specs.declared.facts.Statement.TheVariants.{Holds as is_true, Fails as is_false, Earlier as is_earlier}
use Rattle.formula.specs.declared.facts.Condition.{Condition}
use Rattle.formula.specs.declared.facts.Condition.TheVariants.{AtOnce as at_once, IfMatched as if_matched, IfFetched as if_fetched, IfBufferedOrFetched as if_buffered_or_fetched}
use Rattle.formula.specs.Families.{SymbolicClause, sends_of, standard_sends, previous_of_rank, place_of_event, when_returned, receive_on_handle, unless_issued, where_fetched, where_returned_under, issued_after, handle_is_received_on, fetch_of, is_fetched_before, is_returned_before, issued_after_return_of, issued_before_match, without_later_sends, without_later_pairs, send_is_matched_before, taker_is_matched_before, pair_does_not_wait, issue_does_not_wait, buffered_under, seen_before_taken, see_clauses}
use Rattle.formula.specs.Numbering.{numbered}
use Rattle.formula.proofs.Elements.{Each, each_mono, and_both, all_append}
use Rattle.formula_from_run.proofs.Events.{place_of_issue}
use Rattle.formula_from_run.proofs.Lists.{all_made, all_made_range, all_mapped_where, pairs_hold, seeing_pairs_hold, or_last}
use Rattle.run_from_formula.proofs.Consequences.{families_of_ended_runs}
use Rattle.finishing.proofs.Kept.{has_else, AreKept, clauses_kept}

-- each of the clauses says something else
abbrev SayElse : MpiProgram → List SymbolicClause → Type 0
SayElse p clauses = list_all (has_else p) clauses ≡ true

-- ---- clauses of a call

order_step : (p : MpiProgram) (c : ℕ) (b : Bool) → suc c < length p.calls → SayElse p (issued_after (suc c) (if b then Some c else None))
order_step p c false below = refl
order_step p c true below =
    let first = place_of_issue p c (omega (arith, below)) in
    let next = place_of_issue p (suc c) below in
    let rises : nat_lt (place_of_event p (issue_of c)) (place_of_event p (issue_of (suc c))) ≡ true = rw (first, next) (grind (arith, nat_tests)) in
    and_both _ true (or_last _ rises) refl

in_order : (p : MpiProgram) (c : ℕ) → c < length p.calls → SayElse p (issued_after c (previous_of_rank p c))
in_order p zero below = refl
in_order p (suc c) below = order_step p c (are_of_one_rank p c (suc c)) below

on_handle : (p : MpiProgram) (c send taker : ℕ) (otherwise : SymbolicClause) (o : Option ℕ) → SayElse p (handle_is_received_on c send taker otherwise o)
on_handle p c send taker otherwise None = refl
on_handle p c send taker otherwise (Some receive) = refl

fetched_before : (p : MpiProgram) (c send : ℕ) (otherwise : SymbolicClause) → SayElse p (is_fetched_before p c send otherwise)
fetched_before p c send otherwise =
    all_made (has_else p)
    (λ taker. ((is_false (issued c) ∷ is_false (matched send taker) ∷ is_earlier (fetch_of p taker) (issue_of c) ∷ []) ++ otherwise) ∷ handle_is_received_on c send taker otherwise (receive_on_handle p taker))
    (takers_of p send) (λ taker. on_handle p c send taker otherwise (receive_on_handle p taker))

before : (p : MpiProgram) (c : ℕ) (k : Condition) → SayElse p (is_returned_before p c k)
before p c at_once = refl
before p c (if_matched taker) = refl
before p c (if_fetched send) = fetched_before p c send []
before p c (if_buffered_or_fetched send) = fetched_before p c send (is_true (buffered send) ∷ [])

after_return : (p : MpiProgram) (c : ℕ) (o : Option ℕ) → SayElse p (issued_after_return_of p c o)
after_return p c None = refl
after_return p c (Some earlier) = before p c (when_returned p earlier)

fetched : (p : MpiProgram) (c d send : ℕ) → SayElse p (where_fetched p c send (is_true (issued d)))
fetched p c d send =
    all_mapped_where (has_else p) (λ taker. is_false (issued c) ∷ is_false (matched send taker) ∷ is_true (issued d) ∷ unless_issued (receive_on_handle p taker)) (takes p send) (places p) (λ taker taken. refl)

returned : (p : MpiProgram) (c d : ℕ) (k : Condition) → SayElse p (where_returned_under p c (is_true (issued d)) k)
returned p c d at_once = refl
returned p c d (if_matched taker) =
    all_mapped_where (has_else p) (λ send. is_false (issued c) ∷ is_false (matched send taker) ∷ is_true (issued d) ∷ []) (λ send. are_fit p send taker) (places p) (λ send fit. refl)
returned p c d (if_fetched send) = fetched p c d send
returned p c d (if_buffered_or_fetched send) = fetched p c d send

issue_waits : (p : MpiProgram) (c : ℕ) (o : Option ℕ) → SayElse p (issue_does_not_wait p c o)
issue_waits p c None = refl
issue_waits p c (Some earlier) = returned p earlier c (when_returned p earlier)

policy : (p : MpiProgram) (kind : Policy) (send : ℕ) → SayElse p (buffered_under kind send)
policy p Any send = refl
policy p Never send = refl
policy p Always send = refl

-- ---- clauses of a pair

later_sends : (p : MpiProgram) (s f : ℕ) → SayElse p (without_later_sends p s f)
later_sends p s f = all_mapped_where (has_else p) (λ other. is_false (matched s f) ∷ is_false (matched other f) ∷ []) (nat_lt s) (sends_of p f) (λ other late. refl)

later_pairs : (p : MpiProgram) (s t : ℕ) → SayElse p (without_later_pairs p s t)
later_pairs p s t =
    let clause : ℕ → SymbolicClause = λ other. is_false (matched s t) ∷ is_false (matched s other) ∷ [] in
    all_append (has_else p) (map clause (filter (nat_lt t) (takers_of p s))) (without_later_sends p s t)
    (all_mapped_where (has_else p) clause (nat_lt t) (takers_of p s) (λ other late. refl)) (later_sends p s t)

send_before : (p : MpiProgram) (s t e : ℕ) → SayElse p (send_is_matched_before p s t e)
send_before p s t e =
    all_mapped_where (has_else p) (λ other. is_false (matched s t) ∷ is_false (matched e other) ∷ is_earlier (match_of other) (match_of t) ∷ []) (λ other. not (other == t)) (takers_of p e) (λ other apart. refl)

sends : (p : MpiProgram) (s t : ℕ) → SayElse p (flat_map (send_is_matched_before p s t) (earlier_sends p s t))
sends p s t = all_made (has_else p) (send_is_matched_before p s t) (earlier_sends p s t) (send_before p s t)

takers : (p : MpiProgram) (s t : ℕ) → SayElse p (flat_map (taker_is_matched_before p s t) (earlier_takers p s t))
takers p s t = all_made (has_else p) (taker_is_matched_before p s t) (earlier_takers p s t) (λ e. refl)

seen : (p : MpiProgram) (s f : ℕ) → SayElse p (seen_before_taken p s f)
seen p s f =
    all_mapped_where (has_else p) (λ taker. is_false (matched s f) ∷ is_false (matched s taker) ∷ is_earlier (match_of f) (match_of taker) ∷ []) (takes p s) (places p) (λ taker taken. refl)

see : (p : MpiProgram) (s f : ℕ) → SayElse p (see_clauses p s f)
see p s f =
    let test : SymbolicClause → Bool = has_else p in
    let five = flat_map (taker_is_matched_before p s f) (earlier_takers p s f) in
    let four = flat_map (send_is_matched_before p s f) (earlier_sends p s f) in
    let six = pair_does_not_wait p s f in
    let three = without_later_sends p s f in
    let two = seen_before_taken p s f in
    all_append test (issued_before_match s f) (two ++ (three ++ (four ++ (five ++ six)))) refl
    (all_append test two (three ++ (four ++ (five ++ six))) (seen p s f)
    (all_append test three (four ++ (five ++ six)) (later_sends p s f)
    (all_append test four (five ++ six) (sends p s f)
    (all_append test five six (takers p s f) refl))))

-- ---- families

pub others_kept : (p : MpiProgram) → Each (λ clauses. AreKept p (numbered p clauses)) (families_of_ended_runs p)
others_kept p =
    each_mono (SayElse p) (λ clauses. AreKept p (numbered p clauses)) (clauses_kept p) (families_of_ended_runs p) (
      all_made_range test (λ c. issued_after c (previous_of_rank p c)) 0 (length p.calls) (length p.calls) (omega arith) (λ c above below. in_order p c below),
      (
        all_made test (λ c. issued_after_return_of p c (previous_of_rank p c)) (places p) (λ c. after_return p c (previous_of_rank p c)),
        (
          pairs_hold p test issued_before_match (λ s t taken. refl),
          (
            pairs_hold p test (without_later_pairs p) (λ s t taken. later_pairs p s t),
            (
              pairs_hold p test (λ s t. flat_map (send_is_matched_before p s t) (earlier_sends p s t)) (λ s t taken. sends p s t),
              (
                pairs_hold p test (λ s t. flat_map (taker_is_matched_before p s t) (earlier_takers p s t)) (λ s t taken. takers p s t),
                (
                  pairs_hold p test (pair_does_not_wait p) (λ s t taken. refl),
                  (
                    all_made test (λ c. issue_does_not_wait p c (previous_of_rank p c)) (places p) (λ c. issue_waits p c (previous_of_rank p c)),
                    (all_made test (buffered_under p.policy) (standard_sends p) (policy p p.policy), (seeing_pairs_hold p test (see_clauses p) (λ s f seen. see p s f), tt)),
                  ),
                ),
              ),
            ),
          ),
        ),
      ),
    )
  where
    test : SymbolicClause → Bool
    test = has_else p

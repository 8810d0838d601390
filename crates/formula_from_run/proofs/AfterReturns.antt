-- Calls are issued after what made the call before them return.
use Rattle.std.proofs.Common.{◌≡◌, ℕ, zero, suc, ◌+◌, ◌<◌, ◌⊎◌, inl, inr, Bool, true, false, ◌||◌, nat_lt, if◌then◌else◌, List, [], ◌∷◌, ◌++◌, Option, Some, None, is_some, map, length, take, refl, sym, ap, ◌∙◌, subst, arith}
use Rattle.std.specs.List.{list_any}
use Rattle.std.proofs.lemmas.Bool.Decides.{nat_tests}
use Rattle.std.proofs.lemmas.Option.{same_Some}
use Rattle.callorder.specs.declared.calls.Call.{Call}
use Rattle.callorder.specs.declared.calls.Kind.{Kind}
use Rattle.callorder.specs.declared.calls.Kind.TheVariants.{Send, Receive, MatchedProbe, Probe, MatchedReceive, Wait}
use Rattle.callorder.specs.Calls.{receive_of, both_hold, holds_of}
use Rattle.callorder.specs.ProgramRules.{IsProgram}
use Rattle.callorder.specs.Programs.{MpiProgram, call_at, are_fit, takes, are_of_one_rank, kind_holds, have_one_rank}
use Rattle.semantics.specs.declared.state.Step.{Step}
use Rattle.semantics.specs.Machine.{Configuration, opening, after_all, IsRun, is_issued, is_buffered, is_fetched, partner_of, fetches, fetches_partner, is_returned}
use Rattle.run_laws.specs.Laws.{IsInRankOrder}
use Rattle.run_laws.proofs.Issued.{issued_before, call_before_has_returned}
use Rattle.run_laws.proofs.Matched.{send_before, found_before}
use Rattle.candidates.specs.Pairs.{places, takers_of}
use Rattle.formula.specs.declared.facts.RunEvent.TheVariants.{Issue as issue_of, Match as match_of}
use Rattle.formula.specs.declared.facts.Fact.TheVariants.{Issued as issued, Buffered as buffered, Matched as matched}
use Rattle.formula.specs.declared.facts.Statement.TheVariants.{Holds as is_true, Fails as is_false, Earlier as is_earlier}
use Rattle.formula.specs.declared.facts.Condition.{Condition}
use Rattle.formula.specs.declared.facts.Condition.TheVariants.{AtOnce as at_once, IfMatched as if_matched, IfFetched as if_fetched, IfBufferedOrFetched as if_buffered_or_fetched}
use Rattle.formula.specs.Families.{SymbolicClause, when_returned, sends_of, previous_of_rank, receive_on_handle, receive_of_call, fetch_of, event_of_fetch, handle_is_received_on, is_fetched_before, is_returned_before, issued_after_return_of}
use Rattle.formula_from_run.specs.Worlds.{is_right, clause_holds, clauses_hold, clock_from, world_of}
use Rattle.formula_from_run.specs.Laws.{CallsAreIssuedAfterReturns}
use Rattle.formula.proofs.Elements.{and_both, or_left, or_right, any_append_left, any_append_right}
use Rattle.formula_from_run.proofs.Lists.{or_not, or_not_not, or_last, all_made, all_made_where, any_mapped}
use Rattle.formula_from_run.proofs.Clocks.{happens, clock_before, issued_clock}
use Rattle.formula_from_run.proofs.Stays.{issued_later}
use Rattle.formula_from_run.proofs.Pairings.{Pairing, pairing, finding, partner_later, take_all}
use Rattle.formula_from_run.proofs.Matches.{has_send, has_taker, paired, is_that-from}
use Rattle.formula_from_run.proofs.IssueOrder.{issue_happens}
use Rattle.formula_from_run.proofs.Flags.{buffered_later}
use Rattle.formula_from_run.proofs.Returns.{condition_holds, returned_is, NamesRightly, names_rightly}

less : (a b : ℕ) → a < b → nat_lt a b ≡ true
less a b h = grind (arith, nat_tests)

-- ---- what is fetched before some place

-- the send is fetched before this place
pub record Fetched (p : MpiProgram) (steps : List Step) (send i : ℕ) : Type 0 where
  pub taker : ℕ
  pub place : ℕ
  pub before : place < i
  pub pair : Pairing p steps send taker place
  pub fetches : kind_holds (fetches p (after_all (opening p) (take i steps))) (call_at p taker) ≡ true

pub fetch_there : (p : MpiProgram) (m : Configuration) (o : Option ℕ) → holds_of (fetches_partner p m) o ≡ true → (t : ℕ) × (o ≡ Some t) × (kind_holds (fetches p m) (call_at p t) ≡ true)
fetch_there p m None h = absurd (cc)
fetch_there p m (Some t) h = (t, refl, h)

pub fetched : (p : MpiProgram) (steps : List Step) (send i : ℕ) → IsRun p (opening p) steps → ((s : ℕ) → are_fit p s send ≡ true → ⊥) → is_fetched p (after_all (opening p) (take i steps)) send ≡ true → Fetched p steps send i
fetched p steps send i run never h =
    let m = after_all (opening p) (take i steps) in
    let f = fetch_there p m (partner_of m send) h in
    let w = send_before p steps i send run (ap is_some f.1) never in
    let v = pairing p steps send w.taker w.earlier run w.there in
    let same : w.taker ≡ f.0 = same_Some _ _ (sym v.send_kept ∙ partner_later p (opening p) steps i send f.0 run f.1) in
    record {
      taker = w.taker;
      place = w.earlier;
      before = w.before;
      pair = v;
      fetches = subst (λ (z : ℕ). kind_holds (fetches p m) (call_at p z) ≡ true) (sym same) f.2;
    }

fetch_earlier : (p : MpiProgram) (steps : List Step) (send i : ℕ) → IsInRankOrder p → IsRun p (opening p) steps → (f : Fetched p steps send i) → clock_from p (opening p) steps (fetch_of p f.taker) < i
fetch_earlier p steps send i order run f = by_call (call_at p f.taker) f.fetches
  where
    by_kind : (k : Kind ℕ) → fetches p (after_all (opening p) (take i steps)) k ≡ true → clock_from p (opening p) steps (event_of_fetch (receive_of k) f.taker) < i
    by_kind (Receive blocking pattern) h = omega (arith, f.pair.clock, f.before)
    by_kind (MatchedProbe pattern receive) h = issued_clock p steps receive i order run h
    by_kind kind h = absurd (cc)

    by_call : (x : Option Call) → kind_holds (fetches p (after_all (opening p) (take i steps))) x ≡ true → clock_from p (opening p) steps (event_of_fetch (receive_of_call x) f.taker) < i
    by_call None h = absurd (cc)
    by_call (Some x) h = by_kind x.kind h

pub handle_issued : (p : MpiProgram) (m : Configuration) (t receive : ℕ) → kind_holds (fetches p m) (call_at p t) ≡ true → receive_on_handle p t ≡ Some receive → is_issued p m receive ≡ true
handle_issued p m t receive h e = by_call (call_at p t) h e
  where
    by_kind : (k : Kind ℕ) → fetches p m k ≡ true → receive_of k ≡ Some receive → is_issued p m receive ≡ true
    by_kind (Receive blocking pattern) h e = absurd (cc)
    by_kind (Probe pattern) h e = absurd (cc)
    by_kind (MatchedProbe pattern other) h e =
        let same : other ≡ receive = same_Some _ _ e in
        subst (λ (z : ℕ). is_issued p m z ≡ true) same h
    by_kind (Send mode blocking message) h e = absurd (cc)
    by_kind (MatchedReceive blocking) h e = absurd (cc)
    by_kind (Wait operation) h e = absurd (cc)

    by_call : (x : Option Call) → kind_holds (fetches p m) x ≡ true → receive_of_call x ≡ Some receive → is_issued p m receive ≡ true
    by_call None h e = absurd (cc)
    by_call (Some x) h e = by_kind x.kind h e

-- ---- the clauses of a send that is fetched, or of which the rest is right

module _ (p : MpiProgram) (steps : List Step) (c send : ℕ) (otherwise : SymbolicClause) (order : IsInRankOrder p) (run : IsRun p (opening p) steps) (held : (world_of p steps).has (issued c) ≡ true → (list_any (is_right (world_of p steps)) otherwise ≡ true) ⊎ Fetched p steps send (clock_from p (opening p) steps (issue_of c))) where
  same_taker : (t : ℕ) → takes p send t ≡ true → (f : Fetched p steps send (clock_from p (opening p) steps (issue_of c))) → (world_of p steps).has (matched send t) ≡ true → f.taker ≡ t
  same_taker t taken f g = same_Some _ _ (sym f.pair.send_kept ∙ (paired p steps send t run taken g).pair.send_kept)

  some_taker : (world_of p steps).has (issued c) ≡ true → list_any (is_right (world_of p steps)) (map (λ t. is_true (matched send t)) (takers_of p send) ++ otherwise) ≡ true
  some_taker h =
      elim (held h) [
        | inl rest ↦ any_append_right (is_right (world_of p steps)) (map (λ t. is_true (matched send t)) (takers_of p send)) otherwise rest
        | inr f ↦ any_append_left (is_right (world_of p steps)) (map (λ t. is_true (matched send t)) (takers_of p send)) otherwise (any_mapped (is_right (world_of p steps)) (λ t. is_true (matched send t)) (takers_of p send) f.taker (has_taker p send f.taker f.pair.taken) (is_that-from _ send f.pair.taker_kept))
      ]

  fetched_then : (t : ℕ) → takes p send t ≡ true → (world_of p steps).has (issued c) ≡ true → (world_of p steps).has (matched send t) ≡ true → (nat_lt (clock_from p (opening p) steps (fetch_of p t)) (clock_from p (opening p) steps (issue_of c)) || list_any (is_right (world_of p steps)) otherwise) ≡ true
  fetched_then t taken h g =
      elim (held h) [
        | inl rest ↦ or_right (nat_lt (clock_from p (opening p) steps (fetch_of p t)) (clock_from p (opening p) steps (issue_of c))) _ rest
        | inr f ↦ or_left _ (list_any (is_right (world_of p steps)) otherwise) (subst (λ (z : ℕ). nat_lt (clock_from p (opening p) steps (fetch_of p z)) (clock_from p (opening p) steps (issue_of c)) ≡ true) (same_taker t taken f g) (less _ _ (fetch_earlier p steps send _ order run f)))
      ]

  received_then : (t receive : ℕ) → takes p send t ≡ true → receive_on_handle p t ≡ Some receive → (world_of p steps).has (issued c) ≡ true → (world_of p steps).has (matched send t) ≡ true → ((world_of p steps).has (issued receive) || list_any (is_right (world_of p steps)) otherwise) ≡ true
  received_then t receive taken e h g =
      elim (held h) [
        | inl rest ↦ or_right ((world_of p steps).has (issued receive)) _ rest
        | inr f ↦ or_left _ (list_any (is_right (world_of p steps)) otherwise) (issued_later p (opening p) steps _ receive (handle_issued p (after_all (opening p) (take (clock_from p (opening p) steps (issue_of c)) steps)) f.taker receive f.fetches (ap (receive_on_handle p) (same_taker t taken f g) ∙ e)))
      ]

  handle_holds : (t : ℕ) (o : Option ℕ) → takes p send t ≡ true → receive_on_handle p t ≡ o → clauses_hold (world_of p steps) (handle_is_received_on c send t otherwise o) ≡ true
  handle_holds t None taken e = refl
  handle_holds t (Some receive) taken e = and_both _ _ (or_not_not _ _ _ (received_then t receive taken e)) refl

  fetched_before_holds : clauses_hold (world_of p steps) (is_fetched_before p c send otherwise) ≡ true
  fetched_before_holds =
      and_both _ _ (or_not _ _ some_taker)
      (all_made_where (clause_holds (world_of p steps)) (λ t. ((is_false (issued c) ∷ is_false (matched send t) ∷ is_earlier (fetch_of p t) (issue_of c) ∷ []) ++ otherwise) ∷ handle_is_received_on c send t otherwise (receive_on_handle p t)) (takes p send) (places p)
      (λ t taken. and_both _ _ (or_not_not _ _ _ (fetched_then t taken)) (handle_holds t (receive_on_handle p t) taken refl)))

-- ---- the family

before_holds : (p : MpiProgram) (steps : List Step) (c : ℕ) (k : Condition) → IsInRankOrder p → IsRun p (opening p) steps → NamesRightly p k → ((world_of p steps).has (issued c) ≡ true → condition_holds p (after_all (opening p) (take (clock_from p (opening p) steps (issue_of c)) steps)) k ≡ true) → clauses_hold (world_of p steps) (is_returned_before p c k) ≡ true
before_holds p steps c at_once order run names held = refl
before_holds p steps c (if_matched taker) order run names held =
    and_both _ _ (or_not _ _ some) (and_both _ _ (or_not _ _ (λ h. or_last _ (earlier h))) refl)
  where
    some : (world_of p steps).has (issued c) ≡ true → list_any (is_right (world_of p steps)) (map (λ s. is_true (matched s taker)) (sends_of p taker)) ≡ true
    some h =
        let w = (found_before p steps _ taker run (held h) names).0 in
        let v = finding p steps w.send taker w.earlier w.sees run w.there in
        any_mapped (is_right (world_of p steps)) (λ s. is_true (matched s taker)) (sends_of p taker) w.send (has_send p w.send taker v.can.fit) (is_that-from _ w.send v.taker_kept)

    earlier : (world_of p steps).has (issued c) ≡ true → nat_lt (clock_from p (opening p) steps (match_of taker)) (clock_from p (opening p) steps (issue_of c)) ≡ true
    earlier h =
        let w = (found_before p steps _ taker run (held h) names).0 in
        let v = finding p steps w.send taker w.earlier w.sees run w.there in
        less _ _ (omega (arith, v.clock, w.before))
before_holds p steps c (if_fetched send) order run names held =
    fetched_before_holds p steps c send [] order run (λ h. inr (fetched p steps send _ run names (held h)))
before_holds p steps c (if_buffered_or_fetched send) order run names held =
    fetched_before_holds p steps c send (is_true (buffered send) ∷ []) order run (λ h. split (is_buffered (after_all (opening p) (take (clock_from p (opening p) steps (issue_of c)) steps)) send) refl (held h))
  where
    split : (b : Bool) → is_buffered (after_all (opening p) (take (clock_from p (opening p) steps (issue_of c)) steps)) send ≡ b → (b || is_fetched p (after_all (opening p) (take (clock_from p (opening p) steps (issue_of c)) steps)) send) ≡ true → (((world_of p steps).has (buffered send) || false) ≡ true) ⊎ Fetched p steps send (clock_from p (opening p) steps (issue_of c))
    split true e h = inl (or_last _ (or_left (is_buffered (after_all (opening p) steps) send) _ (buffered_later p steps _ send run e)))
    split false e h = inr (fetched p steps send _ run names h)

call_there : (p : MpiProgram) (c d : ℕ) → are_of_one_rank p c d ≡ true → (call : Call) × (call_at p c ≡ Some call)
call_there p c d same = by_call (call_at p c) refl same
  where
    by_call : (x : Option Call) → call_at p c ≡ x → both_hold have_one_rank x (call_at p d) ≡ true → (call : Call) × (call_at p c ≡ Some call)
    by_call None e h = absurd (cc)
    by_call (Some x) e h = (x, e)

returned_then : (p : MpiProgram) (steps : List Step) (c : ℕ) → IsInRankOrder p → IsRun p (opening p) steps → are_of_one_rank p c (c + 1) ≡ true → (world_of p steps).has (issued (c + 1)) ≡ true → is_returned p (after_all (opening p) (take (clock_from p (opening p) steps (issue_of (c + 1))) steps)) c ≡ true
returned_then p steps c order run same h =
    let last = issued_before p steps (length steps) (c + 1) order run (rw (take_all steps) h) in
    let soon = clock_before p steps (c + 1) (length steps) last in
    let at = issue_happens (opening p) steps (c + 1) _ (happens p (opening p) steps (issue_of (c + 1)) soon) in
    call_before_has_returned p steps _ c run at same

one_holds : (p : MpiProgram) (steps : List Step) (c : ℕ) → IsProgram p → IsRun p (opening p) steps → are_of_one_rank p c (c + 1) ≡ true → clauses_hold (world_of p steps) (issued_after_return_of p (c + 1) (Some c)) ≡ true
one_holds p steps c program run same =
    let there = call_there p c (c + 1) same in
    before_holds p steps (c + 1) (when_returned p c) program.rank_order run (names_rightly p c there.0 program there.1)
    (λ h. sym (returned_is p _ c there.0 program there.1) ∙ returned_then p steps c program.rank_order run same h)

previous_holds : (p : MpiProgram) (steps : List Step) (c : ℕ) (b : Bool) → IsProgram p → IsRun p (opening p) steps → are_of_one_rank p c (suc c) ≡ b → clauses_hold (world_of p steps) (issued_after_return_of p (suc c) (if b then Some c else None)) ≡ true
previous_holds p steps c true program run same =
    let next : c + 1 ≡ suc c = omega arith in
    subst (λ (z : ℕ). are_of_one_rank p c z ≡ true → clauses_hold (world_of p steps) (issued_after_return_of p z (Some c)) ≡ true) next (one_holds p steps c program run) same
previous_holds p steps c false program run same = refl

after_return_holds : (p : MpiProgram) (steps : List Step) (c : ℕ) → IsProgram p → IsRun p (opening p) steps → clauses_hold (world_of p steps) (issued_after_return_of p c (previous_of_rank p c)) ≡ true
after_return_holds p steps zero program run = refl
after_return_holds p steps (suc c) program run = previous_holds p steps c (are_of_one_rank p c (suc c)) program run refl

pub calls_are_issued_after_returns : CallsAreIssuedAfterReturns
calls_are_issued_after_returns p steps program run =
    all_made (clause_holds (world_of p steps)) (λ c. issued_after_return_of p c (previous_of_rank p c)) (places p) (λ c. after_return_holds p steps c program run)

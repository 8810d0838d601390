-- No issue waits: what follows where a call has returned, and that the next call of a rank is
-- issued then.
use Rattle.std.proofs.Common.{◌≡◌, ℕ, ◌⊎◌, inl, inr, Bool, true, false, not, ◌||◌, List, [], ◌∷◌, Option, Some, None, is_some, refl, sym, ap, ◌∙◌, subst}
use Rattle.std.specs.List.{list_any}
use Rattle.std.proofs.lemmas.Bool.{eq-eqb}
use Rattle.calltext.specs.declared.call.Mode.TheVariants.{Standard, Synchronous, Buffered}
use Rattle.callorder.specs.declared.calls.Call.{Call}
use Rattle.callorder.specs.declared.calls.Kind.{Kind}
use Rattle.callorder.specs.declared.calls.Kind.TheVariants.{Send, Receive, MatchedProbe, Probe, MatchedReceive, Wait}
use Rattle.callorder.specs.Calls.{receive_of, operation_of, is_probe_kind, both_hold, holds_of, fits}
use Rattle.callorder.specs.ProgramRules.{IsProgram}
use Rattle.callorder.specs.Programs.{MpiProgram, call_at, are_fit, takes, kind_holds, have_one_rank}
use Rattle.semantics.specs.declared.state.Step.{Step}
use Rattle.semantics.specs.Machine.{Configuration, opening, after_all, IsRun, is_issued, is_buffered, is_fetched, fetches, fetches_partner, is_returned}
use Rattle.candidates.specs.Pairs.{places}
use Rattle.formula.specs.declared.facts.Fact.TheVariants.{Issued as issued, Buffered as buffered, Matched as matched}
use Rattle.formula.specs.declared.facts.Statement.{Statement}
use Rattle.formula.specs.declared.facts.Statement.TheVariants.{Fails as is_false}
use Rattle.formula.specs.declared.facts.Condition.{Condition}
use Rattle.formula.specs.declared.facts.Condition.TheVariants.{AtOnce as at_once, IfMatched as if_matched, IfFetched as if_fetched, IfBufferedOrFetched as if_buffered_or_fetched}
use Rattle.formula.specs.Families.{when_done, when_done_call, when_done_kind, if_blocking, when_returned, when_returned_call, when_returned_kind, where_fetched, where_returned_under, where_returned, unless_issued, receive_of_call, receive_on_handle}
use Rattle.formula_from_run.specs.Worlds.{is_right, clause_holds, clauses_hold, world_of}
use Rattle.formula.proofs.Elements.{and_both, or_left, or_right}
use Rattle.formula_from_run.proofs.Lists.{or_not, or_not_not, or_last, all_mapped_where}
use Rattle.formula_from_run.proofs.Matches.{paired, no_probe, is_that-some}
use Rattle.run_laws.proofs.Descent.{takes_fit}
use Rattle.formula_from_run.proofs.IssueOrder.{one_rank_issued}
use Rattle.formula_from_run.proofs.Always.{buffered_if_issued}
use Rattle.formula_from_run.proofs.Returns.{condition_holds, returned_is, no_pattern}

-- ---- where a call has returned

fetches_unless : (p : MpiProgram) (steps : List Step) (s : Option Call) (x : Option Call) → both_hold fits s x ≡ true → kind_holds is_probe_kind x ≡ false → (kind_holds (fetches p (after_all (opening p) steps)) x ≡ true) ⊎ (list_any (is_right (world_of p steps)) (unless_issued (receive_of_call x)) ≡ true)
fetches_unless p steps None x fit taker = absurd (cc)
fetches_unless p steps (Some y) None fit taker = absurd (cc)
fetches_unless p steps (Some y) (Some x) fit taker = by_kind x.kind refl
  where
    issued_or_not : (receive : ℕ) (b : Bool) → is_issued p (after_all (opening p) steps) receive ≡ b → (is_issued p (after_all (opening p) steps) receive ≡ true) ⊎ ((not (is_issued p (after_all (opening p) steps) receive) || false) ≡ true)
    issued_or_not receive true e = inl e
    issued_or_not receive false e = inr (rw e refl)

    by_kind : (k : Kind ℕ) → x.kind ≡ k → (fetches p (after_all (opening p) steps) k ≡ true) ⊎ (list_any (is_right (world_of p steps)) (unless_issued (receive_of k)) ≡ true)
    by_kind (Receive blocking pattern) e = inl refl
    by_kind (MatchedProbe pattern receive) e = issued_or_not receive (is_issued p (after_all (opening p) steps) receive) refl
    by_kind (Probe pattern) e = absurd (let yes : is_probe_kind x.kind ≡ true = ap is_probe_kind e in cc)
    by_kind kind e = absurd (no_pattern x (Some y) (rw e refl) fit)

module _ (p : MpiProgram) (steps : List Step) (c : ℕ) (x : Statement) (run : IsRun p (opening p) steps) where
  fetched_holds : (send : ℕ) → ((world_of p steps).has (issued c) ≡ true → is_fetched p (after_all (opening p) steps) send ≡ true → is_right (world_of p steps) x ≡ true) → clauses_hold (world_of p steps) (where_fetched p c send x) ≡ true
  fetched_holds send right =
      all_mapped_where (clause_holds (world_of p steps)) (λ taker. is_false (issued c) ∷ is_false (matched send taker) ∷ x ∷ unless_issued (receive_on_handle p taker)) (takes p send) (places p)
      (λ taker taken. or_not_not _ _ _ (one taker taken))
    where
      one : (taker : ℕ) → takes p send taker ≡ true → (world_of p steps).has (issued c) ≡ true → (world_of p steps).has (matched send taker) ≡ true → (is_right (world_of p steps) x || list_any (is_right (world_of p steps)) (unless_issued (receive_on_handle p taker))) ≡ true
      one taker taken h g =
          elim (fetches_unless p steps (call_at p send) (call_at p taker) (takes_fit p send taker taken) (no_probe p send taker taken)) [
            | inl done ↦ or_left (is_right (world_of p steps) x) _ (right h (ap (holds_of (fetches_partner p (after_all (opening p) steps))) (paired p steps send taker run taken g).pair.send_kept ∙ done))
            | inr not_yet ↦ or_right (is_right (world_of p steps) x) _ not_yet
          ]

  under_holds : (k : Condition) → ((world_of p steps).has (issued c) ≡ true → condition_holds p (after_all (opening p) steps) k ≡ true → is_right (world_of p steps) x ≡ true) → ((s : ℕ) → k ≡ if_buffered_or_fetched s → (world_of p steps).has (issued c) ≡ true → (world_of p steps).has (buffered s) ≡ true → is_buffered (after_all (opening p) steps) s ≡ true) → clauses_hold (world_of p steps) (where_returned_under p c x k) ≡ true
  under_holds at_once right flagged = and_both _ _ (or_not _ _ (λ h. or_last _ (right h refl))) refl
  under_holds (if_matched taker) right flagged =
      all_mapped_where (clause_holds (world_of p steps)) (λ send. is_false (issued c) ∷ is_false (matched send taker) ∷ x ∷ []) (λ send. are_fit p send taker) (places p)
      (λ send fit. or_not_not _ _ _ (λ h g. or_last _ (right h (ap is_some (is_that-some _ send g)))))
  under_holds (if_fetched send) right flagged = fetched_holds send right
  under_holds (if_buffered_or_fetched send) right flagged =
      and_both _ _ (or_not_not _ _ _ (λ h g. or_last _ (right h (or_left _ _ (flagged send refl h g)))))
      (fetched_holds send (λ h f. right h (or_right (is_buffered (after_all (opening p) steps) send) _ f)))

-- ---- the send that a condition names is issued where the call is

done_names_kind : (k : Kind ℕ) (o s : ℕ) → when_done_kind k o ≡ if_buffered_or_fetched s → o ≡ s
done_names_kind (Send Standard blocking message) o s e = cc
done_names_kind (Send Synchronous blocking message) o s e = absurd (cc)
done_names_kind (Send Buffered blocking message) o s e = absurd (cc)
done_names_kind (Receive blocking pattern) o s e = absurd (cc)
done_names_kind (MatchedProbe pattern receive) o s e = absurd (cc)
done_names_kind (Probe pattern) o s e = absurd (cc)
done_names_kind (MatchedReceive blocking) o s e = absurd (cc)
done_names_kind (Wait operation) o s e = absurd (cc)

pub done_names : (x : Option Call) (o s : ℕ) → when_done_call x o ≡ if_buffered_or_fetched s → o ≡ s
done_names None o s e = absurd (cc)
done_names (Some x) o s e = done_names_kind x.kind o s e

pub blocking_names : (b : Bool) (k : Condition) (s : ℕ) → if_blocking b k ≡ if_buffered_or_fetched s → k ≡ if_buffered_or_fetched s
blocking_names true k s e = e
blocking_names false k s e = absurd (cc)

returned_names : (p : MpiProgram) (c s : ℕ) (k : Kind ℕ) → when_returned_kind p k c ≡ if_buffered_or_fetched s → (c ≡ s) ⊎ (k ≡ Wait s)
returned_names p c s (Send mode blocking message) e = inl (done_names (call_at p c) c s (blocking_names blocking (when_done p c) s e))
returned_names p c s (Receive blocking pattern) e = inl (done_names (call_at p c) c s (blocking_names blocking (when_done p c) s e))
returned_names p c s (MatchedProbe pattern receive) e = inl (done_names (call_at p c) c s e)
returned_names p c s (Probe pattern) e = inl (done_names (call_at p c) c s e)
returned_names p c s (MatchedReceive blocking) e = absurd (cc)
returned_names p c s (Wait operation) e = inr (ap Wait (done_names (call_at p operation) operation s e))

pub names_issued : (p : MpiProgram) (m : Configuration) (c s : ℕ) (call : Call) → IsProgram p → call_at p c ≡ Some call → when_returned p c ≡ if_buffered_or_fetched s → is_issued p m c ≡ true → is_issued p m s ≡ true
names_issued p m c s call program there e h =
    elim (returned_names p c s call.kind (subst (λ (z : Option Call). when_returned_call p z c ≡ if_buffered_or_fetched s) there e)) [
      | inl same ↦ ap (is_issued p m) (sym same) ∙ h
      | inr waits ↦
          let named : operation_of call.kind ≡ Some s = rw waits refl in
          let other = program.waits.named c s call there named in
          let below = program.waits_later c s call there named in
          let rank : both_hold have_one_rank (Some other.0) (Some call) ≡ true = eq-eqb call.rank other.0.rank (sym other.2) in
          let both_there : both_hold have_one_rank (call_at p s) (call_at p c) ≡ true = rw (other.1, there) rank in
          one_rank_issued m s c (call_at p s) (call_at p c) below both_there h
    ]

-- where the call is issued and has returned at the end of the run, the statement is right
pub returned_holds : (p : MpiProgram) (steps : List Step) (c : ℕ) (call : Call) (x : Statement) → IsProgram p → IsRun p (opening p) steps → call_at p c ≡ Some call → (is_issued p (after_all (opening p) steps) c ≡ true → is_returned p (after_all (opening p) steps) c ≡ true → is_right (world_of p steps) x ≡ true) → clauses_hold (world_of p steps) (where_returned p c x) ≡ true
returned_holds p steps c call x program run there right =
    under_holds p steps c x run (when_returned p c)
    (λ h k. right h (returned_is p (after_all (opening p) steps) c call program there ∙ k))
    (λ s e h g. buffered_if_issued p steps s program.rank_order run (names_issued p (after_all (opening p) steps) c s call program there e h) g)

-- Where no event of a world is left, and all ranks finish in it, the configuration is finished.
use Rattle.std.proofs.Common.{◌≡◌, ℕ, zero, suc, ◌+◌, ◌<◌, inl, inr, Bool, true, false, not, ◌||◌, ◌==◌, nat_lt, [], ◌∷◌, ◌++◌, map, Option, Some, None, is_some, length, slice_index, refl, sym, ap, ◌∙◌, subst, arith}
use Rattle.std.specs.List.{list_any}
use Rattle.std.proofs.lemmas.Bool.{and_parts, eqb-true}
use Rattle.std.proofs.lemmas.Bool.Decides.{nat_tests}
use Rattle.std.proofs.lemmas.List.Folds.{list_any-append}
use Rattle.std.proofs.lemmas.Option.{slice_get_within}
use Rattle.callorder.specs.declared.calls.Call.{Call}
use Rattle.callorder.specs.declared.calls.Kind.{Kind}
use Rattle.callorder.specs.declared.calls.Kind.TheVariants.{Send, Receive, MatchedProbe, Probe, MatchedReceive, Wait}
use Rattle.callorder.specs.Calls.{receive_of, pattern_of, is_probe_kind, both_hold, holds_of, fits}
use Rattle.callorder.specs.ProgramRules.{IsProgram}
use Rattle.callorder.specs.Programs.{MpiProgram, call_at, is_of_rank, are_of_one_rank, are_fit, takes, is_probe, kind_holds, have_one_rank}
use Rattle.candidates.specs.Pairs.{places, takers_of}
use Rattle.semantics.specs.RunEnds.{IsFinished}
use Rattle.semantics.specs.Machine.{Configuration, is_issued, is_issued_call, is_buffered, is_fetched, is_returned, has_returned_before, fetches, fetches_partner}
use Rattle.run_laws.proofs.Descent.{takes_fit}
use Rattle.formula.specs.declared.facts.Fact.TheVariants.{Issued as issued, Buffered as buffered, Matched as matched}
use Rattle.formula.specs.declared.facts.Statement.TheVariants.{Holds as is_true}
use Rattle.formula.specs.declared.facts.Condition.{Condition}
use Rattle.formula.specs.declared.facts.Condition.TheVariants.{AtOnce as at_once, IfMatched as if_matched, IfFetched as if_fetched, IfBufferedOrFetched as if_buffered_or_fetched}
use Rattle.formula.specs.Families.{SymbolicClause, sends_of, is_standard, last_calls, when_returned}
use Rattle.formula.proofs.Elements.{and_both, or_left, or_right, each_from_all, each_range_at}
use Rattle.formula_from_run.specs.Worlds.{World, is_right, clause_holds}
use Rattle.formula_from_run.proofs.Matches.{fit_within, no_probe}
use Rattle.formula_from_run.proofs.Ranks.{not_false}
use Rattle.formula_from_run.proofs.Returns.{condition_holds, returned_is, no_pattern}
use Rattle.formula_from_run.proofs.Starts.{there_within}
use Rattle.formula_from_run.proofs.Waits.{names_issued}
use Rattle.run_from_formula.proofs.Along.{or_only, each_passes, kept_at, found_mapped, takers_take, sends_fit}
use Rattle.run_from_formula.proofs.Consequences.{Hold, Consequences, split_hold, either_of}
use Rattle.run_from_formula.proofs.Ends.{issued_said, sent_said, received_said}
use Rattle.run_from_formula.proofs.Returning.{names_standard}
use Rattle.run_from_formula.proofs.Stages.{IsStage}
use Rattle.finishing.specs.Formula.{is_met, all_calls_are_issued, last_calls_have_returned, all_ranks_finish}
use Rattle.formula.proofs.Times.{each_of_map}

module _ (p : MpiProgram) (world : World) (is : IsProgram p) (says : Consequences p world) (m : Configuration) (stage : IsStage p world m []) (finish : Hold world (all_ranks_finish p)) where
  parts : Hold world (all_calls_are_issued p) × Hold world (last_calls_have_returned p)
  parts = split_hold world (all_calls_are_issued p) (last_calls_have_returned p) finish

  all_issued : (c : ℕ) → c < length p.calls → is_issued p m c ≡ true
  all_issued c below =
      let clause : ℕ → SymbolicClause = λ c. is_true (issued c) ∷ [] in
      let each = each_of_map (λ x. clause_holds world x ≡ true) clause (places p) (each_passes (clause_holds world) (map clause (places p)) parts.0) in
      let said = each_range_at (λ c. clause_holds world (clause c) ≡ true) 0 (length p.calls) each c (omega arith) (omega (arith, below)) in
      issued_said p world is says m stage c below (or_only (world.has (issued c)) said)

  -- ---- each message that is taken is fetched

  taker_fetches : (s t : ℕ) (call : Call) (k : Kind ℕ) → takes p s t ≡ true → call_at p t ≡ Some call → call.kind ≡ k → fetches p m k ≡ true
  taker_fetches s t call (Receive blocking pattern) taken there kind = refl
  taker_fetches s t call (MatchedProbe pattern receive) taken there kind =
      let other = is.probes.named t receive call there (ap receive_of kind) in
      all_issued receive (slice_get_within p.calls receive other.0 other.1)
  taker_fetches s t call (Probe pattern) taken there kind =
      let it_is : is_probe p t ≡ true = ap (kind_holds is_probe_kind) there ∙ ap is_probe_kind kind in
      let it_is_not = no_probe p s t taken in
      absurd (cc)
  taker_fetches s t call (Send mode blocking message) taken there kind = absurd (no_pattern call (call_at p s) (ap pattern_of kind) (subst (λ (z : Option Call). both_hold fits (call_at p s) z ≡ true) there (takes_fit p s t taken)))
  taker_fetches s t call (MatchedReceive blocking) taken there kind = absurd (no_pattern call (call_at p s) (ap pattern_of kind) (subst (λ (z : Option Call). both_hold fits (call_at p s) z ≡ true) there (takes_fit p s t taken)))
  taker_fetches s t call (Wait operation) taken there kind = absurd (no_pattern call (call_at p s) (ap pattern_of kind) (subst (λ (z : Option Call). both_hold fits (call_at p s) z ≡ true) there (takes_fit p s t taken)))

  fetched : (s : ℕ) → list_any (is_right world) (map (λ taker. is_true (matched s taker)) (takers_of p s)) ≡ true → is_fetched p m s ≡ true
  fetched s h =
      let w = found_mapped (λ taker. takes p s taker ≡ true) (is_right world) (λ taker. is_true (matched s taker)) (takers_of p s) (takers_take p s) h in
      let call = there_within p.calls w.0 (fit_within p s w.0 (takes_fit p s w.0 w.2)).1 in
      ap (holds_of (fetches_partner p m)) (sent_said p world is says m stage s w.0 w.2 w.1) ∙ ap (kind_holds (fetches p m)) call.1 ∙ taker_fetches s w.0 call.0 call.0.kind w.2 call.1 refl

  -- ---- the last calls have returned

  met : (k : Condition) → ((s : ℕ) → k ≡ if_buffered_or_fetched s → (is_issued p m s ≡ true) × (is_standard p s ≡ true)) → Hold world (is_met p k) → condition_holds p m k ≡ true
  met at_once names h = refl
  met (if_matched t) names h =
      let w = found_mapped (λ send. are_fit p send t ≡ true) (is_right world) (λ send. is_true (matched send t)) (sends_of p t) (sends_fit p t) (and_parts (clause_holds world (map (λ send. is_true (matched send t)) (sends_of p t))) true h).0 in
      ap is_some (received_said p world is says m stage w.0 t w.2 w.1)
  met (if_fetched s) names h = fetched s (and_parts (clause_holds world (map (λ taker. is_true (matched s taker)) (takers_of p s))) true h).0
  met (if_buffered_or_fetched s) names h =
      let taken = map (λ taker. is_true (matched s taker)) (takers_of p s) in
      elim (either_of (list_any (is_right world) taken) (world.has (buffered s) || false) (sym (list_any-append (is_right world) taken (is_true (buffered s) ∷ [])) ∙ (and_parts (clause_holds world (taken ++ is_true (buffered s) ∷ [])) true h).0)) [
        | inl a ↦ or_right (is_buffered m s) (is_fetched p m s) (fetched s a)
        | inr b ↦ or_left (is_buffered m s) (is_fetched p m s) (stage.flags s (names s refl).0 (names s refl).1 ∙ or_only (world.has (buffered s)) b)
      ]

  last_returned : (c : ℕ) (call : Call) → call_at p c ≡ Some call → are_of_one_rank p c (c + 1) ≡ false → is_returned p m c ≡ true
  last_returned c call there last =
      let below = slice_get_within p.calls c call there in
      let each = each_from_all (clause_holds world) (λ c. is_met p (when_returned p c)) (last_calls p) parts.1 in
      let here = kept_at (λ c. Hold world (is_met p (when_returned p c))) (λ c. not (are_of_one_rank p c (c + 1))) (length p.calls) each c below (not_false _ last) in
      returned_is p m c call is there ∙
      met (when_returned p c) (λ s e. (names_issued p m c s call is there e (all_issued c below), names_standard p c s call there e)) here

  -- ---- each rank is finished

  not_below_itself : (n : ℕ) → nat_lt n n ≡ true → ⊥
  not_below_itself n h = absurd (grind (arith, nat_tests))

  no_next : (rank : ℕ) → is_of_rank (call_at p (slice_index m.next rank)) rank ≡ false
  no_next rank = by (call_at p (slice_index m.next rank)) refl
    where
      off : (call : Call) (b : Bool) → (call.rank == rank) ≡ b → call_at p (slice_index m.next rank) ≡ Some call → b ≡ false
      off call false e there = refl
      off call true e there =
          let n = slice_index m.next rank in
          let past : nat_lt n (slice_index m.next call.rank) ≡ true = subst (λ (z : Option Call). holds_of (is_issued_call m n) z ≡ true) there (all_issued n (slice_get_within p.calls n call there)) in
          absurd (not_below_itself n (subst (λ (z : ℕ). nat_lt n (slice_index m.next z) ≡ true) (eqb-true call.rank rank e) past))

      by : (x : Option Call) → call_at p (slice_index m.next rank) ≡ x → is_of_rank x rank ≡ false
      by None there = refl
      by (Some call) there = off call (call.rank == rank) refl there

  all_back : (rank n : ℕ) → slice_index m.next rank ≡ n → has_returned_before p m rank n ≡ true
  all_back rank zero at = refl
  all_back rank (suc c) at = by (call_at p c) refl
    where
      own : (call : Call) (b : Bool) → (call.rank == rank) ≡ b → call_at p c ≡ Some call → (not b || is_returned p m c) ≡ true
      own call false e there = refl
      own call true e there =
          let next : suc c ≡ c + 1 = omega arith in
          let none : is_of_rank (call_at p (c + 1)) rank ≡ false = subst (λ (z : ℕ). is_of_rank (call_at p z) rank ≡ false) (at ∙ next) (no_next rank) in
          let last : are_of_one_rank p c (c + 1) ≡ false =
          ap (λ (z : Option Call). both_hold have_one_rank z (call_at p (c + 1))) there ∙
          subst (λ (z : ℕ). is_of_rank (call_at p (c + 1)) z ≡ false) (sym (eqb-true call.rank rank e)) none
          in
          last_returned c call there last

      by : (x : Option Call) → call_at p c ≡ x → (not (is_of_rank x rank) || is_returned p m c) ≡ true
      by None there = refl
      by (Some call) there = own call (call.rank == rank) refl there

  pub end_finished : IsFinished p m
  end_finished rank below = and_both _ _ (not_false _ (no_next rank)) (all_back rank (slice_index m.next rank) refl)

-- In the world of a run that finishes, and that nothing can follow, all ranks finish: each call is
-- issued, and the last call of each rank has returned.
use Rattle.std.proofs.Common.{◌≡◌, ℕ, ◌+◌, Bool, true, false, not, ◌||◌, List, [], ◌∷◌, ◌++◌, map, length, refl, sym, ◌∙◌, arith}
use Rattle.std.specs.List.{list_any}
use Rattle.callorder.specs.ProgramRules.{IsProgram}
use Rattle.callorder.specs.Programs.{MpiProgram, are_of_one_rank}
use Rattle.candidates.specs.Pairs.{places, takers_of}
use Rattle.semantics.specs.declared.state.Step.{Step}
use Rattle.semantics.specs.RunEnds.{IsFinishedRun}
use Rattle.semantics.specs.Machine.{opening, after_all, IsRun, is_buffered, is_matched, is_fetched}
use Rattle.run_laws.proofs.Matched.{found_before}
use Rattle.formula.specs.declared.facts.Fact.TheVariants.{Issued as issued, Buffered as buffered, Matched as matched}
use Rattle.formula.specs.declared.facts.Statement.TheVariants.{Holds as is_true}
use Rattle.formula.specs.declared.facts.Condition.{Condition}
use Rattle.formula.specs.declared.facts.Condition.TheVariants.{AtOnce as at_once, IfMatched as if_matched, IfFetched as if_fetched, IfBufferedOrFetched as if_buffered_or_fetched}
use Rattle.formula.specs.Families.{SymbolicClause, sends_of, when_returned}
use Rattle.formula.proofs.Elements.{and_both, or_left, all_append, any_append_left, any_append_right, each_map, each_range}
use Rattle.always.specs.Always.{IsEndedRun}
use Rattle.formula_from_run.specs.Worlds.{is_right, clause_holds, clauses_hold, world_of}
use Rattle.formula_from_run.proofs.Lists.{or_last, any_mapped, all_made_within}
use Rattle.formula_from_run.proofs.Pairings.{finding, take_all}
use Rattle.formula_from_run.proofs.Matches.{has_send, has_taker, is_that-from}
use Rattle.formula_from_run.proofs.Returns.{condition_holds, returned_is, NamesRightly, names_rightly}
use Rattle.formula_from_run.proofs.Starts.{there_within}
use Rattle.formula_from_run.proofs.AfterReturns.{fetched}
use Rattle.run_from_formula.proofs.Along.{all_pass}
use Rattle.finishing.specs.Formula.{is_met, all_calls_are_issued, last_calls_have_returned, all_ranks_finish}
use Rattle.finishing.proofs.Ends.{all_issued, all_returned}

-- ---- a condition that holds at the end of a run is met in its world

a_send_is_found : (p : MpiProgram) (steps : List Step) (taker : ℕ) → IsRun p (opening p) steps → NamesRightly p (if_matched taker) → is_matched (after_all (opening p) steps) taker ≡ true → list_any (is_right (world_of p steps)) (map (λ send. is_true (matched send taker)) (sends_of p taker)) ≡ true
a_send_is_found p steps taker run names held =
    let w = (found_before p steps (length steps) taker run (rw (take_all steps) held) names).0 in
    let v = finding p steps w.send taker w.earlier w.sees run w.there in
    any_mapped (is_right (world_of p steps)) (λ send. is_true (matched send taker)) (sends_of p taker) w.send (has_send p w.send taker v.can.fit) (is_that-from _ w.send v.taker_kept)

a_taker_is_matched : (p : MpiProgram) (steps : List Step) (send : ℕ) → IsRun p (opening p) steps → NamesRightly p (if_fetched send) → is_fetched p (after_all (opening p) steps) send ≡ true → list_any (is_right (world_of p steps)) (map (λ taker. is_true (matched send taker)) (takers_of p send)) ≡ true
a_taker_is_matched p steps send run names held =
    let f = fetched p steps send (length steps) run names (rw (take_all steps) held) in
    any_mapped (is_right (world_of p steps)) (λ taker. is_true (matched send taker)) (takers_of p send) f.taker (has_taker p send f.taker f.pair.taken) (is_that-from _ send f.pair.taker_kept)

met_holds : (p : MpiProgram) (steps : List Step) (k : Condition) → IsRun p (opening p) steps → NamesRightly p k → condition_holds p (after_all (opening p) steps) k ≡ true → clauses_hold (world_of p steps) (is_met p k) ≡ true
met_holds p steps at_once run names held = refl
met_holds p steps (if_matched taker) run names held = and_both _ _ (a_send_is_found p steps taker run names held) refl
met_holds p steps (if_fetched send) run names held = and_both _ _ (a_taker_is_matched p steps send run names held) refl
met_holds p steps (if_buffered_or_fetched send) run names held = and_both _ _ (split (is_buffered (after_all (opening p) steps) send) refl held) refl
  where
    split : (b : Bool) → is_buffered (after_all (opening p) steps) send ≡ b → (b || is_fetched p (after_all (opening p) steps) send) ≡ true → list_any (is_right (world_of p steps)) (map (λ taker. is_true (matched send taker)) (takers_of p send) ++ is_true (buffered send) ∷ []) ≡ true
    split true e h =
        any_append_right (is_right (world_of p steps)) (map (λ taker. is_true (matched send taker)) (takers_of p send)) (is_true (buffered send) ∷ [])
        (or_last _ (or_left (is_buffered (after_all (opening p) steps) send) _ e))
    split false e h =
        any_append_left (is_right (world_of p steps)) (map (λ taker. is_true (matched send taker)) (takers_of p send)) (is_true (buffered send) ∷ [])
        (a_taker_is_matched p steps send run names h)

-- ---- all ranks finish

calls_issued : (p : MpiProgram) (steps : List Step) → IsProgram p → IsFinishedRun p steps → IsEndedRun p steps → clauses_hold (world_of p steps) (all_calls_are_issued p) ≡ true
calls_issued p steps program finished ended =
    let test : SymbolicClause → Bool = clause_holds (world_of p steps) in
    let clause : ℕ → SymbolicClause = λ c. is_true (issued c) ∷ [] in
    all_pass test (map clause (places p))
    (each_map (λ x. test x ≡ true) clause (places p)
    (each_range (λ c. test (clause c) ≡ true) 0 (length p.calls) (λ c above below. or_last _ (all_issued p steps c program finished ended (omega (arith, below))))))

last_returned : (p : MpiProgram) (steps : List Step) → IsProgram p → IsFinishedRun p steps → IsEndedRun p steps → clauses_hold (world_of p steps) (last_calls_have_returned p) ≡ true
last_returned p steps program finished ended =
    all_made_within (clause_holds (world_of p steps)) (λ c. is_met p (when_returned p c)) (λ c. not (are_of_one_rank p c (c + 1))) 0 (length p.calls) (length p.calls) (omega arith)
    (λ c below last.
    let call = there_within p.calls c below in
    met_holds p steps (when_returned p c) finished.run (names_rightly p c call.0 program call.1)
    (sym (returned_is p (after_all (opening p) steps) c call.0 program call.1) ∙ all_returned p steps c call.0 program finished ended call.1 below))

pub all_finish : (p : MpiProgram) (steps : List Step) → IsProgram p → IsFinishedRun p steps → IsEndedRun p steps → clauses_hold (world_of p steps) (all_ranks_finish p) ≡ true
all_finish p steps program finished ended =
    all_append (clause_holds (world_of p steps)) (all_calls_are_issued p) (last_calls_have_returned p) (calls_issued p steps program finished ended)
    (last_returned p steps program finished ended)

-- A run that finishes, and that nothing can follow, gives an assignment that satisfies the formula
-- of the runs that finish.
use Rattle.std.proofs.Common.{◌≡◌, Bool, true, List, [], ◌∷◌, ◌++◌, map, sym, ◌∙◌, subst}
use Rattle.std.specs.Prelude.{All}
use Rattle.std.specs.List.{filter, flat_map}
use Rattle.std.proofs.lemmas.List.Concat.{flat_map-append}
use Rattle.callorder.specs.ProgramRules.{IsProgram}
use Rattle.callorder.specs.Programs.{MpiProgram}
use Rattle.semantics.specs.declared.state.Step.{Step}
use Rattle.semantics.specs.RunEnds.{IsFinishedRun}
use Rattle.clauses.specs.Clauses.{Literal, TruthAssignment, satisfies, satisfies_clause}
use Rattle.formula.specs.declared.facts.Fact.TheVariants.{Unfinished as unfinished}
use Rattle.formula.specs.declared.facts.Statement.TheVariants.{Holds as is_true, Fails as is_false}
use Rattle.formula.specs.Families.{SymbolicClause, last_calls, rank_of, where_returned, said, first_families, last_families, families, some_rank_is_unfinished}
use Rattle.formula.specs.Numbering.{normal_form, numbered, numbered_order, formula_of}
use Rattle.formula.specs.Laws.{Agrees}
use Rattle.formula.proofs.Elements.{Each, each_append, each_parts, each_mono, each_both, each_flat_map, each_filter, each_of_all, all_from_each, all_append}
use Rattle.formula.proofs.NormalForms.{numbered_clauses_mean_symbolic}
use Rattle.always.specs.Always.{IsEndedRun}
use Rattle.formula_from_run.specs.Worlds.{is_right, clauses_hold, world_of}
use Rattle.formula_from_run.specs.Laws.{assignment_of}
use Rattle.formula_from_run.proofs.IssueOrder.{calls_are_issued_in_order}
use Rattle.formula_from_run.proofs.AfterReturns.{calls_are_issued_after_returns}
use Rattle.formula_from_run.proofs.Matches.{matches_come_after_issues, sends_do_not_overtake, no_pair_waits}
use Rattle.formula_from_run.proofs.Takers.{calls_are_matched_once, takers_do_not_overtake}
use Rattle.formula_from_run.proofs.Starts.{no_issue_waits}
use Rattle.formula_from_run.proofs.Ranks.{last_calls_hold}
use Rattle.formula_from_run.proofs.Buffers.{sends_are_buffered_as_allowed as policy_holds}
use Rattle.formula_from_run.proofs.Sees.{probes_see_messages}
use Rattle.formula_from_run.proofs.Assignments.{statements_agree, order_satisfied}
use Rattle.run_from_formula.proofs.Along.{all_pass, each_passes}
use Rattle.finishing.specs.Formula.{says_more, all_ranks_finish}
use Rattle.finishing.specs.Laws.{FinishedRunsSatisfyFormula}
use Rattle.finishing.proofs.Returned.{all_finish}
use Rattle.finishing.proofs.Named.{finish_satisfied}
use Rattle.finishing.proofs.Unfinished.{nothing_wanted}

-- ---- clauses that say more are satisfied

-- where the clause says more than that one of some ranks is unfinished, it is satisfied
abbrev pub IsMetIfKept : MpiProgram → TruthAssignment → List Literal → Type 0
IsMetIfKept p a clause = says_more p clause ≡ true → satisfies_clause a clause ≡ true

abbrev pub AreMetIfKept : MpiProgram → TruthAssignment → List SymbolicClause → Type 0
AreMetIfKept p a clauses = Each (IsMetIfKept p a) (numbered p clauses)

met_if_satisfied : (p : MpiProgram) (a : TruthAssignment) (clauses : List (List Literal)) → satisfies a clauses ≡ true → Each (IsMetIfKept p a) clauses
met_if_satisfied p a clauses h =
    each_mono (λ clause. satisfies_clause a clause ≡ true) (IsMetIfKept p a) (λ clause met more. met) clauses (each_passes (satisfies_clause a) clauses h)

-- the assignment of the run agrees with its world on the clauses
abbrev AreAgreed : MpiProgram → List Step → List SymbolicClause → Type 0
AreAgreed p steps clauses = All (All (Agrees p (assignment_of p steps) (is_right (world_of p steps)))) clauses

met_if_held : (p : MpiProgram) (steps : List Step) (clauses : List SymbolicClause) → clauses_hold (world_of p steps) clauses ≡ true → AreAgreed p steps clauses → AreMetIfKept p (assignment_of p steps) clauses
met_if_held p steps clauses hold agree =
    met_if_satisfied p (assignment_of p steps) (numbered p clauses) (numbered_clauses_mean_symbolic p (assignment_of p steps) (is_right (world_of p steps)) clauses agree ∙ hold)

ends_met : (p : MpiProgram) (steps : List Step) → IsProgram p → IsFinishedRun p steps → AreAgreed p steps (some_rank_is_unfinished p) → AreMetIfKept p (assignment_of p steps) (some_rank_is_unfinished p)
ends_met p steps is finished agree =
    let K : List Literal → Type 0 = IsMetIfKept p (assignment_of p steps) in
    let A : SymbolicClause → Type 0 = All (Agrees p (assignment_of p steps) (is_right (world_of p steps))) in
    let first : List SymbolicClause = flat_map (λ c. where_returned p c (is_false (unfinished (rank_of p c)))) (last_calls p) in
    let last : SymbolicClause = map (λ c. is_true (unfinished (rank_of p c))) (last_calls p) in
    let agreed = each_parts A first (last ∷ []) (each_of_all A (first ++ last ∷ []) agree) in
    subst (Each K) (sym (flat_map-append (normal_form p) first (last ∷ [])))
    (each_append K (numbered p first) (numbered p (last ∷ [])) (met_if_held p steps first (last_calls_hold p steps is finished.run) (all_from_each A first agreed.0))
    (each_append K (normal_form p last) [] (nothing_wanted p (λ clause. satisfies_clause (assignment_of p steps) clause ≡ true) is) tt))

-- ---- family by family

abbrev IsMetIfAgreed : MpiProgram → List Step → List SymbolicClause → Type 0
IsMetIfAgreed p steps clauses = AreAgreed p steps clauses → AreMetIfKept p (assignment_of p steps) clauses

each_family : (p : MpiProgram) (steps : List Step) → IsProgram p → IsFinishedRun p steps → IsEndedRun p steps → Each (IsMetIfAgreed p steps) (families p)
each_family p steps is finished over =
    let run = over.run in
    let ended = over.ended in (
      met_if_held p steps _ (calls_are_issued_in_order p steps is run),
      (
        met_if_held p steps _ (calls_are_issued_after_returns p steps is run),
        (
          met_if_held p steps _ (matches_come_after_issues p steps is run),
          (
            met_if_held p steps _ (calls_are_matched_once p steps is run),
            (
              met_if_held p steps _ (sends_do_not_overtake p steps is run),
              (
                met_if_held p steps _ (takers_do_not_overtake p steps is run),
                (
                  met_if_held p steps _ (no_pair_waits p steps is run ended),
                  (
                    met_if_held p steps _ (no_issue_waits p steps is run ended),
                    (ends_met p steps is finished, (met_if_held p steps _ (policy_holds p steps is run), (met_if_held p steps _ (probes_see_messages p steps is run ended), tt))),
                  ),
                ),
              ),
            ),
          ),
        ),
      ),
    )

families_met : (p : MpiProgram) (steps : List Step) → IsProgram p → IsFinishedRun p steps → IsEndedRun p steps → Each (AreMetIfKept p (assignment_of p steps)) (families p)
families_met p steps is finished over =
    each_mono (λ clauses. AreAgreed p steps clauses × IsMetIfAgreed p steps clauses) (AreMetIfKept p (assignment_of p steps)) (λ clauses both. both.1 both.0) (families p)
    (each_both (AreAgreed p steps) (IsMetIfAgreed p steps) (families p) (each_of_all (AreAgreed p steps) (families p) (statements_agree p steps is)) (each_family p steps is finished over))

clauses_met : (p : MpiProgram) (steps : List Step) → Each (AreMetIfKept p (assignment_of p steps)) (families p) → Each (IsMetIfKept p (assignment_of p steps)) (formula_of p).clauses
clauses_met p steps met =
    let K : List Literal → Type 0 = IsMetIfKept p (assignment_of p steps) in
    let others = map (said p) first_families in
    let last = map (said p) last_families in
    let parts = each_parts (AreMetIfKept p (assignment_of p steps)) others last met in
    each_append K (flat_map (numbered p) others ++ numbered_order p) (flat_map (numbered p) last)
    (each_append K (flat_map (numbered p) others) (numbered_order p) (each_flat_map K (numbered p) others parts.0) (met_if_satisfied p (assignment_of p steps) (numbered_order p) (order_satisfied p steps)))
    (each_flat_map K (numbered p) last parts.1)

pub finished_runs_satisfy_formula : FinishedRunsSatisfyFormula
finished_runs_satisfy_formula p steps is finished over =
    let test : List Literal → Bool = satisfies_clause (assignment_of p steps) in
    let clauses = (formula_of p).clauses in
    all_append test (filter (says_more p) clauses) (numbered p (all_ranks_finish p))
    (all_pass test (filter (says_more p) clauses) (each_filter (λ clause. test clause ≡ true) (says_more p) clauses (clauses_met p steps (families_met p steps is finished over))))
    (finish_satisfied p steps is (all_finish p steps is finished over))

-- Every assignment that satisfies the formula of the runs that finish gives a run that finishes,
-- and the other way round.
use Rattle.std.proofs.Common.{◌≡◌, Bool, true, List, ◌++◌, map, refl, sym, ◌∙◌}
use Rattle.std.specs.List.{filter, flat_map, list_all}
use Rattle.std.proofs.lemmas.Bool.{and_parts}
use Rattle.std.proofs.lemmas.List.Folds.{list_all-append}
use Rattle.callorder.specs.ProgramRules.{IsProgram}
use Rattle.callorder.specs.Programs.{MpiProgram}
use Rattle.semantics.specs.Machine.{opening, after_all}
use Rattle.clauses.specs.Clauses.{Literal, TruthAssignment, satisfies, satisfies_clause}
use Rattle.formula.specs.declared.facts.Statement.{Statement}
use Rattle.formula.specs.declared.facts.Statement.TheVariants.{Holds as is_true, Fails as is_false, Earlier as is_earlier}
use Rattle.formula.specs.Families.{SymbolicClause, said, first_families, last_families, families}
use Rattle.formula.specs.Numbering.{numbered, numbered_order, formula_of}
use Rattle.formula.specs.Laws.{Agrees}
use Rattle.formula.proofs.Elements.{Each, each_append, each_parts, each_mono, each_both}
use Rattle.formula.proofs.Named.{NamesFact}
use Rattle.formula.proofs.NormalForms.{numbered_clauses_mean_symbolic}
use Rattle.always.proofs.Ending.{each_run_ends}
use Rattle.formula_from_run.specs.Worlds.{is_right}
use Rattle.formula_from_run.specs.Laws.{assignment_of}
use Rattle.run_from_formula.specs.Schedules.{schedule_of, world_in}
use Rattle.run_from_formula.proofs.Along.{all_pass, each_passes, each_of_kept, each_of_made}
use Rattle.run_from_formula.proofs.Consequences.{Hold, families_of_ended_runs, without_unfinished, consequences}
use Rattle.run_from_formula.proofs.Schedules.{schedule_runs}
use Rattle.run_from_formula.proofs.Assignments.{Satisfied, satisfied_families_hold, each_made_so}
use Rattle.finishing.specs.Formula.{says_more, all_ranks_finish, finishing_formula_of}
use Rattle.finishing.specs.Laws.{SatisfyingGiveFinishedRuns, SatisfiableWhereFinished}
use Rattle.finishing.proofs.Named.{facts_agree, finish_named}
use Rattle.finishing.proofs.Kept.{AreKept, order_kept}
use Rattle.finishing.proofs.Others.{others_kept}
use Rattle.finishing.proofs.Finishing.{end_finished}
use Rattle.finishing.proofs.Satisfied.{IsMetIfKept, AreMetIfKept, finished_runs_satisfy_formula}
use Rattle.finishing.proofs.Sticking.{still_finished}

-- ---- what is kept is satisfied

satisfied_if_kept : (p : MpiProgram) (a : TruthAssignment) (clauses : List (List Literal)) → AreKept p clauses → Each (IsMetIfKept p a) clauses → satisfies a clauses ≡ true
satisfied_if_kept p a clauses kept met =
    all_pass (satisfies_clause a) clauses (each_made_so (λ clause. says_more p clause ≡ true) (λ clause. satisfies_clause a clause ≡ true) clauses met kept)

-- what an assignment that satisfies the formula satisfies
record Parts (p : MpiProgram) (a : TruthAssignment) : Type 0 where
  others : Each (Satisfied p a) (families_of_ended_runs p)
  order : satisfies a (numbered_order p) ≡ true
  finish : satisfies a (numbered p (all_ranks_finish p)) ≡ true

parts : (p : MpiProgram) (a : TruthAssignment) → satisfies a (finishing_formula_of p).clauses ≡ true → Parts p a
parts p a h =
    let test : List Literal → Bool = satisfies_clause a in
    let K : List Literal → Type 0 = IsMetIfKept p a in
    let M : List SymbolicClause → Type 0 = AreMetIfKept p a in
    let all = (formula_of p).clauses in
    let front = map (said p) first_families in
    let last = map (said p) last_families in
    let halves = and_parts (list_all test (filter (says_more p) all)) (list_all test (numbered p (all_ranks_finish p))) (sym (list_all-append test (filter (says_more p) all) (numbered p (all_ranks_finish p))) ∙ h) in
    let met : Each K all = each_of_kept (λ clause. test clause ≡ true) (says_more p) all (each_passes test (filter (says_more p) all) halves.0) in
    let outer = each_parts K (flat_map (numbered p) front ++ numbered_order p) (flat_map (numbered p) last) met in
    let inner = each_parts K (flat_map (numbered p) front) (numbered_order p) outer.0 in
    let each : Each M (families p) = each_append M front last (each_of_made K (numbered p) front inner.0) (each_of_made K (numbered p) last outer.1) in
    record {
      others =
          each_mono (λ clauses. AreKept p (numbered p clauses) × M clauses) (Satisfied p a) (λ clauses both. satisfied_if_kept p a (numbered p clauses) both.0 both.1) (families_of_ended_runs p)
          (each_both (λ clauses. AreKept p (numbered p clauses)) M (families_of_ended_runs p) (others_kept p) (without_unfinished p M each).0);
      order = satisfied_if_kept p a (numbered_order p) (order_kept p) inner.1;
      finish = halves.1;
    }

-- ---- all ranks finish

-- of a fact the world has what the assignment tells
told : (p : MpiProgram) (a : TruthAssignment) (x : Statement) → NamesFact p x → Agrees p a (is_right (world_in p a)) x
told p a (is_true y) named = refl
told p a (is_false y) named = refl
told p a (is_earlier e f) named = absurd named

ranks_finish : (p : MpiProgram) (a : TruthAssignment) → IsProgram p → satisfies a (numbered p (all_ranks_finish p)) ≡ true → Hold (world_in p a) (all_ranks_finish p)
ranks_finish p a is h =
    let right : Statement → Bool = is_right (world_in p a) in
    sym (numbered_clauses_mean_symbolic p a right (all_ranks_finish p) (facts_agree p a right (told p a) (all_ranks_finish p) (finish_named p is))) ∙ h

pub satisfying_give_finished_runs : SatisfyingGiveFinishedRuns
satisfying_give_finished_runs p a is satisfied =
    let world = world_in p a in
    let known = parts p a satisfied in
    let S : List SymbolicClause → Type 0 = λ clauses. Satisfied p a clauses → Hold world clauses in
    let hold = each_made_so (Satisfied p a) (Hold world) (families_of_ended_runs p) (without_unfinished p S (satisfied_families_hold p a is known.order)).0 known.others in
    let says = consequences p world hold in
    let run = schedule_runs p world is says in
    record { run = run.0; finished = end_finished p world is says (after_all (opening p) (schedule_of p world)) run.1 (ranks_finish p a is known.finish) }

pub satisfiable_where_finished : SatisfiableWhereFinished
satisfiable_where_finished p is = (
  λ model. record { steps = schedule_of p (world_in p model.assignment); finished = satisfying_give_finished_runs p model.assignment is model.satisfied },
  λ run.
      let goes_on = each_run_ends p run.steps is.rank_order run.finished.run in
      let steps = run.steps ++ goes_on.0 in
      record { assignment = assignment_of p steps; satisfied = finished_runs_satisfy_formula p steps is (still_finished p run.steps goes_on.0 is run.finished goes_on.1.run) goes_on.1 },
)

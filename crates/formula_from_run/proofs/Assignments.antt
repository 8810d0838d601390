-- A stuck run gives an assignment that satisfies the formula of its program.
use Rattle.std.proofs.Common.{◌≡◌, ℕ, Bool, true, nat_lt, List, ◌++◌, map, get_or, ap, ◌∙◌}
use Rattle.std.specs.Prelude.{All}
use Rattle.std.specs.List.{flat_map}
use Rattle.callorder.specs.ProgramRules.{IsProgram}
use Rattle.callorder.specs.Programs.{MpiProgram}
use Rattle.semantics.specs.declared.state.Step.{Step}
use Rattle.semantics.specs.Machine.{IsStuckRun}
use Rattle.clauses.specs.Clauses.{Literal, TruthAssignment, satisfies, satisfies_clause}
use Rattle.formula.specs.declared.facts.RunEvent.{RunEvent}
use Rattle.formula.specs.declared.facts.Statement.{Statement}
use Rattle.formula.specs.declared.facts.Statement.TheVariants.{Holds as is_true, Fails as is_false, Earlier as is_earlier}
use Rattle.formula.specs.Families.{SymbolicClause, event_at, place_of_event, families, said, first_families, last_families}
use Rattle.formula.specs.Numbering.{numbered, numbered_order, formula_of}
use Rattle.formula.specs.Laws.{Agrees, AgreesByFact, AgreesByClock, EventsAreListed}
use Rattle.formula.proofs.Elements.{Each, each_both, each_mono, each_parts, each_of_all, all_append, all_flat_map}
use Rattle.formula.proofs.Agreement.{used_pairs_suffice, facts_suffice, stated_events_are_listed}
use Rattle.formula.proofs.NormalForms.{numbered_clauses_mean_symbolic}
use Rattle.formula.proofs.Times.{times_have_assignments}
use Rattle.formula_from_run.specs.Worlds.{World, is_right, clauses_hold, world_of}
use Rattle.formula_from_run.specs.Laws.{assignment_of, StuckRunsSatisfyFormula, UnsatisfiableHaveNoStuckRun}
use Rattle.formula_from_run.proofs.IssueOrder.{calls_are_issued_in_order}
use Rattle.formula_from_run.proofs.AfterReturns.{calls_are_issued_after_returns}
use Rattle.formula_from_run.proofs.Matches.{matches_come_after_issues, sends_do_not_overtake, no_pair_waits}
use Rattle.formula_from_run.proofs.Takers.{calls_are_matched_once, takers_do_not_overtake}
use Rattle.formula_from_run.proofs.Starts.{no_issue_waits}
use Rattle.formula_from_run.proofs.Ranks.{some_rank_is_unfinished}
use Rattle.formula_from_run.proofs.Buffers.{sends_are_buffered_as_allowed as policy_holds}
use Rattle.formula_from_run.proofs.Orders.{clocks_differ}
use Rattle.formula_from_run.proofs.Sees.{probes_see_messages}

-- ---- the assignment agrees with the world

-- the time of the event at a place
abbrev time_in : MpiProgram → World → ℕ → ℕ
time_in p world place = world.clock (event_at p place)

right_agrees : (p : MpiProgram) (a : TruthAssignment) (world : World) (x : Statement) → AgreesByFact p a world.has x → AgreesByClock p a (time_in p world) x → EventsAreListed p x → Agrees p a (is_right world) x
right_agrees p a world (is_true y) told order listed = told
right_agrees p a world (is_false y) told order listed = told
right_agrees p a world (is_earlier e f) told order listed =
    order ∙
    ap (λ (z : RunEvent). nat_lt (world.clock z) (world.clock (event_at p (place_of_event p f)))) listed.0 ∙
    ap (λ (z : RunEvent). nat_lt (world.clock e) (world.clock z)) listed.1

-- the same of each statement of the formula's families
abbrev pub InAll : MpiProgram → (Statement → Type 0) → Type 0
InAll p P = All (All (All P)) (families p)

families_agree : (p : MpiProgram) (a : TruthAssignment) (world : World) → InAll p (AgreesByFact p a world.has) → InAll p (AgreesByClock p a (time_in p world)) → InAll p (EventsAreListed p) → InAll p (Agrees p a (is_right world))
families_agree p a world told order listed =
    λ i d i_below j e j_below k f k_below.
    right_agrees p a world (get_or (get_or (get_or (families p) i d) j e) k f) (told i d i_below j e j_below k f k_below) (order i d i_below j e j_below k f k_below)
    (listed i d i_below j e j_below k f k_below)

-- the assignment of a run agrees with its world
pub statements_agree : (p : MpiProgram) (steps : List Step) → IsProgram p → InAll p (Agrees p (assignment_of p steps) (is_right (world_of p steps)))
statements_agree p steps is =
    let world = world_of p steps in
    let a = assignment_of p steps in
    let given = times_have_assignments p world.has (time_in p world) (clocks_differ p steps) in
    families_agree p a world (facts_suffice p a world.has is given.2) (used_pairs_suffice p a (time_in p world) is given.1) (stated_events_are_listed p is)

-- it satisfies the clauses on the order of events
pub order_satisfied : (p : MpiProgram) (steps : List Step) → satisfies (assignment_of p steps) (numbered_order p) ≡ true
order_satisfied p steps =
    let world = world_of p steps in
    (times_have_assignments p world.has (time_in p world) (clocks_differ p steps)).0

-- ---- families that hold in the world are satisfied

abbrev Holds : World → List SymbolicClause → Type 0
Holds world clauses = clauses_hold world clauses ≡ true

families_hold : (p : MpiProgram) (steps : List Step) → IsProgram p → IsStuckRun p steps → Each (Holds (world_of p steps)) (families p)
families_hold p steps is stuck =
    let ended = stuck.stuck.none_enabled in (
      calls_are_issued_in_order p steps is stuck.run,
      (
        calls_are_issued_after_returns p steps is stuck.run,
        (
          matches_come_after_issues p steps is stuck.run,
          (
            calls_are_matched_once p steps is stuck.run,
            (
              sends_do_not_overtake p steps is stuck.run,
              (
                takers_do_not_overtake p steps is stuck.run,
                (
                  no_pair_waits p steps is stuck.run ended,
                  (no_issue_waits p steps is stuck.run ended, (some_rank_is_unfinished p steps is stuck, (policy_holds p steps is stuck.run, (probes_see_messages p steps is stuck.run ended, tt)))),
                ),
              ),
            ),
          ),
        ),
      ),
    )

abbrev Satisfied : MpiProgram → TruthAssignment → List SymbolicClause → Type 0
Satisfied p a clauses = satisfies a (numbered p clauses) ≡ true

each_satisfied : (p : MpiProgram) (a : TruthAssignment) (world : World) → InAll p (Agrees p a (is_right world)) → Each (Holds world) (families p) → Each (Satisfied p a) (families p)
each_satisfied p a world agree hold =
    let A : List SymbolicClause → Type 0 = All (All (Agrees p a (is_right world))) in
    each_mono (λ clauses. A clauses × Holds world clauses) (Satisfied p a)
    (λ clauses both. numbered_clauses_mean_symbolic p a (is_right world) clauses both.0 ∙ both.1) (families p)
    (each_both A (Holds world) (families p) (each_of_all A (families p) agree) hold)

formula_satisfied : (p : MpiProgram) (a : TruthAssignment) → Each (Satisfied p a) (families p) → satisfies a (numbered_order p) ≡ true → satisfies a (formula_of p).clauses ≡ true
formula_satisfied p a h order =
    let test : List Literal → Bool = satisfies_clause a in
    let others = map (said p) first_families in
    let last = map (said p) last_families in
    let parts = each_parts (Satisfied p a) others last h in
    all_append test (flat_map (numbered p) others ++ numbered_order p) (flat_map (numbered p) last)
    (all_append test (flat_map (numbered p) others) (numbered_order p) (all_flat_map test (numbered p) others parts.0) order) (all_flat_map test (numbered p) last parts.1)

pub stuck_runs_satisfy_formula : StuckRunsSatisfyFormula
stuck_runs_satisfy_formula p steps is stuck =
    let world = world_of p steps in
    let a = assignment_of p steps in
    formula_satisfied p a (each_satisfied p a world (statements_agree p steps is) (families_hold p steps is stuck)) (order_satisfied p steps)

pub unsatisfiable_have_no_stuck_run : UnsatisfiableHaveNoStuckRun
unsatisfiable_have_no_stuck_run p is never steps stuck = never (assignment_of p steps) (stuck_runs_satisfy_formula p steps is stuck)

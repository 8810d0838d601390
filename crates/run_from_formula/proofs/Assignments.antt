-- Every assignment that satisfies the formula of a program gives a stuck run, and the other way
-- round.
use Rattle.std.proofs.Common.{◌≡◌, true, List, [], ◌∷◌, ◌++◌, map, get_or, refl, sym, ◌∙◌}
use Rattle.std.specs.Prelude.{All}
use Rattle.std.specs.List.{flat_map, list_all}
use Rattle.std.proofs.lemmas.Bool.{and_parts}
use Rattle.std.proofs.lemmas.List.Folds.{list_all-append}
use Rattle.callorder.specs.ProgramRules.{IsProgram}
use Rattle.callorder.specs.Programs.{MpiProgram}
use Rattle.clauses.specs.Clauses.{TruthAssignment, satisfies, satisfies_clause}
use Rattle.formula.specs.declared.facts.Statement.{Statement}
use Rattle.formula.specs.declared.facts.Statement.TheVariants.{Holds as is_true, Fails as is_false, Earlier as is_earlier}
use Rattle.formula.specs.Families.{SymbolicClause, families, said, first_families, last_families}
use Rattle.formula.specs.Numbering.{numbered, numbered_order, formula_of}
use Rattle.formula.specs.Laws.{Agrees, AgreesByClock, clock_in}
use Rattle.formula.proofs.Elements.{Each, each_append, each_from_all, each_mono, each_of_all}
use Rattle.formula.proofs.Agreement.{used_pairs_suffice}
use Rattle.formula.proofs.Clocks.{order_gives_clocks}
use Rattle.formula.proofs.NormalForms.{numbered_clauses_mean_symbolic}
use Rattle.formula_from_run.specs.Worlds.{is_right}
use Rattle.formula_from_run.specs.Laws.{assignment_of}
use Rattle.formula_from_run.proofs.Assignments.{stuck_runs_satisfy_formula}
use Rattle.run_from_formula.specs.Schedules.{schedule_of, world_in}
use Rattle.run_from_formula.specs.Laws.{SatisfyingGiveStuckRuns, SatisfiableWhereStuck}
use Rattle.run_from_formula.proofs.Consequences.{Hold}
use Rattle.run_from_formula.proofs.Schedules.{schedule_is_stuck}

-- The assignment agrees with what is right in its world: the facts are those that it tells.
agrees : (p : MpiProgram) (a : TruthAssignment) (x : Statement) → AgreesByClock p a (clock_in p a) x → Agrees p a (is_right (world_in p a)) x
agrees p a (is_true y) order = refl
agrees p a (is_false y) order = refl
agrees p a (is_earlier e f) order = order

abbrev InAll : MpiProgram → (Statement → Type 0) → Type 0
InAll p P = All (All (All P)) (families p)

families_agree : (p : MpiProgram) (a : TruthAssignment) → InAll p (AgreesByClock p a (clock_in p a)) → InAll p (Agrees p a (is_right (world_in p a)))
families_agree p a order =
    λ i d i_below j e j_below k f k_below.
    agrees p a (get_or (get_or (get_or (families p) i d) j e) k f) (order i d i_below j e j_below k f k_below)

abbrev pub Satisfied : MpiProgram → TruthAssignment → List SymbolicClause → Type 0
Satisfied p a clauses = satisfies a (numbered p clauses) ≡ true

-- what an assignment that satisfies the formula satisfies
record Parts (p : MpiProgram) (a : TruthAssignment) : Type 0 where
  each : Each (Satisfied p a) (families p)
  order : satisfies a (numbered_order p) ≡ true

parts : (p : MpiProgram) (a : TruthAssignment) → satisfies a (formula_of p).clauses ≡ true → Parts p a
parts p a h =
    let test = satisfies_clause a in
    let others = map (said p) first_families in
    let last = map (said p) last_families in
    let front = flat_map (numbered p) others ++ numbered_order p in
    let whole = and_parts (list_all test front) (list_all test (flat_map (numbered p) last)) (sym (list_all-append test front (flat_map (numbered p) last)) ∙ h) in
    let halves = and_parts (list_all test (flat_map (numbered p) others)) (list_all test (numbered_order p)) (sym (list_all-append test (flat_map (numbered p) others) (numbered_order p)) ∙ whole.0) in
    record {
      each = each_append (Satisfied p a) others last (each_from_all test (numbered p) others halves.0) (each_from_all test (numbered p) last whole.1);
      order = halves.1;
    }

-- where the clauses on the order are satisfied, a family that is satisfied holds in the world
pub satisfied_families_hold : (p : MpiProgram) (a : TruthAssignment) → IsProgram p → satisfies a (numbered_order p) ≡ true → Each (λ clauses. Satisfied p a clauses → Hold (world_in p a) clauses) (families p)
satisfied_families_hold p a is h =
    let world = world_in p a in
    let order = used_pairs_suffice p a (clock_in p a) is (order_gives_clocks p a h) in
    let A : List SymbolicClause → Type 0 = All (All (Agrees p a (is_right world))) in
    each_mono A (λ clauses. Satisfied p a clauses → Hold world clauses)
    (λ clauses agree satisfied. sym (numbered_clauses_mean_symbolic p a (is_right world) clauses agree) ∙ satisfied) (families p)
    (each_of_all A (families p) (families_agree p a order))

-- what holds of each, if what is known of each makes it hold
pub each_made_so : {X : Type 0} (P Q : X → Type 0) (xs : List X) → Each (λ x. P x → Q x) xs → Each P xs → Each Q xs
each_made_so P Q [] h k = tt
each_made_so P Q (x ∷ xs) h k = (h.0 k.0, each_made_so P Q xs h.1 k.1)

pub satisfying_give_stuck_runs : SatisfyingGiveStuckRuns
satisfying_give_stuck_runs p a is satisfied =
    let world = world_in p a in
    let known = parts p a satisfied in
    schedule_is_stuck p world is (each_made_so (Satisfied p a) (Hold world) (families p) (satisfied_families_hold p a is known.order) known.each)

pub satisfiable_where_stuck : SatisfiableWhereStuck
satisfiable_where_stuck p is = (
  λ model. record { steps = schedule_of p (world_in p model.assignment); stuck = satisfying_give_stuck_runs p model.assignment is model.satisfied },
  λ run. record { assignment = assignment_of p run.steps; satisfied = stuck_runs_satisfy_formula p run.steps is run.stuck },
)

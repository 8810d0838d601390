-- The clauses that say that all ranks finish speak of facts that the formula has a variable for.
-- Where they hold in the world of a run, its assignment satisfies them.
use Rattle.std.proofs.Common.{◌≡◌, ℕ, Bool, true, not, List, [], ◌∷◌, map, length, sym, ap, ◌∙◌, subst, arith}
use Rattle.std.specs.Prelude.{All}
use Rattle.std.specs.List.{flat_map}
use Rattle.callorder.specs.ProgramRules.{IsProgram}
use Rattle.callorder.specs.Programs.{MpiProgram}
use Rattle.candidates.specs.Pairs.{places, takers_of}
use Rattle.semantics.specs.declared.state.Step.{Step}
use Rattle.clauses.specs.Clauses.{TruthAssignment, satisfies}
use Rattle.formula.specs.declared.facts.Fact.{Fact}
use Rattle.formula.specs.declared.facts.Fact.TheVariants.{Issued as issued, Buffered as buffered, Matched as matched, Unfinished as unfinished}
use Rattle.formula.specs.declared.facts.Meaning.{Meaning}
use Rattle.formula.specs.declared.facts.Meaning.TheVariants.{OfFact as fact}
use Rattle.formula.specs.declared.facts.Statement.{Statement}
use Rattle.formula.specs.declared.facts.Statement.TheVariants.{Holds as is_true, Fails as is_false, Earlier as is_earlier}
use Rattle.formula.specs.declared.facts.Condition.{Condition}
use Rattle.formula.specs.declared.facts.Condition.TheVariants.{AtOnce as at_once, IfMatched as if_matched, IfFetched as if_fetched, IfBufferedOrFetched as if_buffered_or_fetched}
use Rattle.formula.specs.Families.{SymbolicClause, sends_of, last_calls, rank_of, events, event_at, receive_on_handle, unless_issued, when_returned, where_fetched, where_returned, where_returned_under, some_rank_is_unfinished}
use Rattle.formula.specs.Orders.{clock_size, rank_in_time, is_so_by}
use Rattle.formula.specs.Numbering.{meanings, is_same_meaning, variable_of, numbered}
use Rattle.formula.specs.Laws.{Agrees, Means}
use Rattle.formula.proofs.Elements.{Each, each_append, each_parts, each_mono, each_map, each_flat_map, each_range, each_at_test, each_of_all, all_from_each}
use Rattle.formula.proofs.Meanings.{same_meaning, assignments_mean_all}
use Rattle.formula.proofs.Named.{IsVariable, NamesFact, Clauses, issued_named, end_named}
use Rattle.formula.proofs.NormalForms.{numbered_clauses_mean_symbolic}
use Rattle.formula_from_run.specs.Worlds.{is_right, clauses_hold, world_of}
use Rattle.formula_from_run.specs.Laws.{assignment_of}
use Rattle.run_from_formula.proofs.Along.{each_of_made}
use Rattle.finishing.specs.Formula.{is_met, all_calls_are_issued, last_calls_have_returned, all_ranks_finish}
use Rattle.formula.proofs.Times.{each_of_map}

-- ---- facts that the formula has a variable for

-- the clauses that say which ranks are unfinished speak of the same facts
ends_named : (p : MpiProgram) → IsProgram p → Clauses (NamesFact p) (some_rank_is_unfinished p)
ends_named p is = (end_named p is).1.1.0

-- that a rank is unfinished which has a call
pub unfinished_named : (p : MpiProgram) → IsProgram p → Each (λ c. IsVariable p (fact (unfinished (rank_of p c)))) (last_calls p)
unfinished_named p is =
    let parts = each_parts (Each (NamesFact p)) (flat_map (λ c. where_returned p c (is_false (unfinished (rank_of p c)))) (last_calls p)) (map (λ c. is_true (unfinished (rank_of p c))) (last_calls p) ∷ []) (ends_named p is) in
    each_of_map (NamesFact p) (λ c. is_true (unfinished (rank_of p c))) (last_calls p) parts.1.0

takers_named : (p : MpiProgram) (c send : ℕ) (x : Statement) → Clauses (NamesFact p) (where_fetched p c send x) → Each (NamesFact p) (map (λ taker. is_true (matched send taker)) (takers_of p send))
takers_named p c send x h =
    let clause : ℕ → SymbolicClause = λ taker. is_false (issued c) ∷ is_false (matched send taker) ∷ x ∷ unless_issued (receive_on_handle p taker) in
    each_map (NamesFact p) (λ taker. is_true (matched send taker)) (takers_of p send)
    (each_mono (λ taker. Each (NamesFact p) (clause taker)) (λ taker. NamesFact p (is_true (matched send taker))) (λ taker named. named.1.0) (takers_of p send)
    (each_of_map (Each (NamesFact p)) clause (takers_of p send) h))

met_named : (p : MpiProgram) (c : ℕ) (x : Statement) (k : Condition) → Clauses (NamesFact p) (where_returned_under p c x k) → Clauses (NamesFact p) (is_met p k)
met_named p c x at_once h = tt
met_named p c x (if_matched taker) h =
    let clause : ℕ → SymbolicClause = λ send. is_false (issued c) ∷ is_false (matched send taker) ∷ x ∷ [] in (
      each_map (NamesFact p) (λ send. is_true (matched send taker)) (sends_of p taker)
          (each_mono (λ send. Each (NamesFact p) (clause send)) (λ send. NamesFact p (is_true (matched send taker))) (λ send named. named.1.0) (sends_of p taker)
          (each_of_map (Each (NamesFact p)) clause (sends_of p taker) h)),
      tt,
    )
met_named p c x (if_fetched send) h = (takers_named p c send x h, tt)
met_named p c x (if_buffered_or_fetched send) h = (
  each_append (NamesFact p) (map (λ taker. is_true (matched send taker)) (takers_of p send)) (is_true (buffered send) ∷ []) (takers_named p c send x h.1) (h.0.1.0, tt),
  tt,
)

issues_named : (p : MpiProgram) → Clauses (NamesFact p) (all_calls_are_issued p)
issues_named p =
    each_map (Each (NamesFact p)) (λ c. is_true (issued c) ∷ []) (places p)
    (each_range (λ c. Each (NamesFact p) (is_true (issued c) ∷ [])) 0 (length p.calls) (λ c above below. (issued_named p c (omega (arith, below)), tt)))

returns_named : (p : MpiProgram) → IsProgram p → Clauses (NamesFact p) (last_calls_have_returned p)
returns_named p is =
    let rest : ℕ → Statement = λ c. is_false (unfinished (rank_of p c)) in
    let parts = each_parts (Each (NamesFact p)) (flat_map (λ c. where_returned p c (rest c)) (last_calls p)) (map (λ c. is_true (unfinished (rank_of p c))) (last_calls p) ∷ []) (ends_named p is) in
    each_flat_map (Each (NamesFact p)) (λ c. is_met p (when_returned p c)) (last_calls p)
    (each_mono (λ c. Clauses (NamesFact p) (where_returned p c (rest c))) (λ c. Clauses (NamesFact p) (is_met p (when_returned p c))) (λ c named. met_named p c (rest c) (when_returned p c) named) (last_calls p)
    (each_of_made (Each (NamesFact p)) (λ c. where_returned p c (rest c)) (last_calls p) parts.0))

pub finish_named : (p : MpiProgram) → IsProgram p → Clauses (NamesFact p) (all_ranks_finish p)
finish_named p is =
    each_append (Each (NamesFact p)) (all_calls_are_issued p) (last_calls_have_returned p) (issues_named p) (returns_named p is)

-- ---- what the assignment of a run tells of them

told : (p : MpiProgram) (steps : List Step) (x : Fact) → IsVariable p (fact x) → assignment_of p steps (variable_of p (fact x)) ≡ (world_of p steps).has x
told p steps x named =
    let a = assignment_of p steps in
    let world = world_of p steps in
    let is_so : Meaning → Bool = is_so_by world.has (clock_size p) (rank_in_time (length (events p)) (λ place. world.clock (event_at p place))) in
    let w = each_at_test (Means p a is_so) (is_same_meaning (fact x)) (meanings p) (each_of_all (Means p a is_so) (meanings p) (assignments_mean_all p is_so)) named in
    subst (Means p a is_so) (sym (same_meaning (fact x) w.0 w.1)) w.2

fact_agrees : (p : MpiProgram) (steps : List Step) (x : Statement) → NamesFact p x → Agrees p (assignment_of p steps) (is_right (world_of p steps)) x
fact_agrees p steps (is_true y) named = told p steps y named
fact_agrees p steps (is_false y) named = ap not (told p steps y named)
fact_agrees p steps (is_earlier e f) named = absurd named

-- an assignment that agrees with what is right of each such fact agrees with the clauses
pub facts_agree : (p : MpiProgram) (a : TruthAssignment) (right : Statement → Bool) → ((x : Statement) → NamesFact p x → Agrees p a right x) → (clauses : List SymbolicClause) → Clauses (NamesFact p) clauses → All (All (Agrees p a right)) clauses
facts_agree p a right agree clauses named =
    let A : Statement → Type 0 = Agrees p a right in
    all_from_each (All A) clauses
    (each_mono (Each (NamesFact p)) (All A) (λ clause h. all_from_each A clause (each_mono (NamesFact p) A agree clause h)) clauses named)

pub finish_satisfied : (p : MpiProgram) (steps : List Step) → IsProgram p → clauses_hold (world_of p steps) (all_ranks_finish p) ≡ true → satisfies (assignment_of p steps) (numbered p (all_ranks_finish p)) ≡ true
finish_satisfied p steps is hold =
    let right : Statement → Bool = is_right (world_of p steps) in
    numbered_clauses_mean_symbolic p (assignment_of p steps) right (all_ranks_finish p)
    (facts_agree p (assignment_of p steps) right (fact_agrees p steps) (all_ranks_finish p) (finish_named p is)) ∙ hold

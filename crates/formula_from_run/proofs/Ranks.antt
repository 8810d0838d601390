-- Some rank is unfinished, and none whose last call has returned.
use Rattle.std.proofs.Common.{◌≡◌, ℕ, zero, suc, ◌+◌, ◌<◌, ◌≤◌, inl, inr, Bool, true, false, not, ◌&&◌, ◌||◌, ◌==◌, nat_lt, List, map, Option, Some, None, length, slice_index, refl, sym, ap, ◌∙◌, subst, arith}
use Rattle.std.specs.List.{list_any, flat_map}
use Rattle.std.proofs.lemmas.Bool.{cases_eq, eqb-true}
use Rattle.std.proofs.lemmas.Bool.Decides.{nat_tests}
use Rattle.std.proofs.lemmas.Option.{slice_get_within}
use Rattle.callorder.specs.declared.calls.Call.{Call}
use Rattle.callorder.specs.ProgramRules.{IsProgram}
use Rattle.callorder.specs.Programs.{MpiProgram, call_at, is_of_rank, are_of_one_rank, have_one_rank}
use Rattle.callorder.specs.Calls.{both_hold, holds_of}
use Rattle.semantics.specs.declared.state.Step.{Step}
use Rattle.semantics.specs.Machine.{Configuration, opening, after_all, IsRun, IsStuckRun, is_issued_call, is_returned, has_returned_before, is_rank_finished}
use Rattle.candidates.specs.Pairs.{places}
use Rattle.formula.specs.declared.facts.Fact.TheVariants.{Unfinished as unfinished}
use Rattle.formula.specs.declared.facts.Statement.TheVariants.{Holds as is_true, Fails as is_false}
use Rattle.formula.specs.Families.{rank_of, rank_of_call, last_calls, where_returned}
use Rattle.formula_from_run.specs.Worlds.{is_right, clause_holds, clauses_hold, world_of}
use Rattle.formula_from_run.specs.Laws.{SomeRankIsUnfinished}
use Rattle.formula.proofs.Elements.{and_both, or_left, or_right, all_append}
use Rattle.formula_from_run.proofs.Lists.{all_made_within, in_range, in_filter, any_mapped}
use Rattle.formula_from_run.proofs.Waits.{returned_holds}
use Rattle.formula_from_run.proofs.Starts.{there_within}

-- ---- a rank whose last call has returned

-- behind the last call of a rank is none of that rank
pub beyond : (p : MpiProgram) (c k : ℕ) (call : Call) → IsProgram p → call_at p c ≡ Some call → are_of_one_rank p c (c + 1) ≡ false → c < k → is_of_rank (call_at p k) call.rank ≡ false
beyond p c k call program there apart above = by_call (call_at p k) refl
  where
    by_call : (x : Option Call) → call_at p k ≡ x → is_of_rank x call.rank ≡ false
    by_call None e = refl
    by_call (Some y) e =
        let within = slice_get_within p.calls k y e in
        let next = there_within p.calls (c + 1) (omega (arith, within, above)) in
        let differ : (next.0.rank == call.rank) ≡ false = sym (ap (λ (z : Option Call). both_hold have_one_rank z (call_at p (c + 1))) there ∙ ap (λ (z : Option Call). is_of_rank z call.rank) next.1) ∙ apart in
        let one = program.rank_order c (c + 1) call next.0 (omega arith) there next.1 in
        let two = program.rank_order (c + 1) k next.0 y (omega (arith, above)) next.1 e in
        grind (arith, nat_tests)

pub not_false : (b : Bool) → b ≡ false → not b ≡ true
not_false true e = absurd (cc)
not_false false e = refl

finished_from : (p : MpiProgram) (m : Configuration) (c n : ℕ) (call : Call) → IsProgram p → call_at p c ≡ Some call → are_of_one_rank p c (c + 1) ≡ false → is_returned p m c ≡ true → c < n → (not (is_of_rank (call_at p n) call.rank) && has_returned_before p m call.rank n) ≡ true
finished_from p m c zero call program there apart returned above = absurd (omega arith)
finished_from p m c (suc k) call program there apart returned above =
    and_both _ _ (not_false _ (beyond p c (suc k) call program there apart above))
    (elim (cases_eq k c) [
      | inl e ↦ or_right (not (is_of_rank (call_at p k) call.rank)) _ (ap (is_returned p m) e ∙ returned)
      | inr differ ↦ or_left _ (is_returned p m k) (not_false _ (beyond p c k call program there apart (omega arith)))
    ])

pub true_from_not : (b : Bool) → not b ≡ true → b ≡ false
true_from_not true e = absurd (cc)
true_from_not false e = refl

last_holds : (p : MpiProgram) (steps : List Step) (c : ℕ) → IsProgram p → IsRun p (opening p) steps → c < length p.calls → not (are_of_one_rank p c (c + 1)) ≡ true → clauses_hold (world_of p steps) (where_returned p c (is_false (unfinished (rank_of p c)))) ≡ true
last_holds p steps c program run below last =
    let m = after_all (opening p) steps in
    let call = there_within p.calls c below in
    let rank : call.0.rank ≡ rank_of p c = ap rank_of_call (sym call.1) in
    returned_holds p steps c call.0 (is_false (unfinished (rank_of p c))) program run call.1
    (λ h r.
    let above : nat_lt c (slice_index m.next call.0.rank) ≡ true = subst (λ (z : Option Call). holds_of (is_issued_call m c) z ≡ true) call.1 h in
    let done : is_rank_finished p m call.0.rank ≡ true = finished_from p m c (slice_index m.next call.0.rank) call.0 program call.1 (true_from_not _ last) r (grind (arith, nat_tests)) in
    let own : is_rank_finished p m (rank_of p c) ≡ true = subst (λ (z : ℕ). is_rank_finished p m z ≡ true) rank done in
    rw own refl)

-- ---- a rank that is unfinished has a last call

-- the last call of a rank
record Last (p : MpiProgram) (r : ℕ) : Type 0 where
  place : ℕ
  call : Call
  there : call_at p place ≡ Some call
  own : call.rank ≡ r
  last : are_of_one_rank p place (place + 1) ≡ false

last_from : (p : MpiProgram) (r fuel d : ℕ) → length p.calls ≤ d + fuel → (call : Call) → call_at p d ≡ Some call → call.rank ≡ r → Last p r
last_from p r zero d most call there own = absurd (omega (arith, most, slice_get_within p.calls d call there))
last_from p r (suc fuel) d most call there own = by_next (are_of_one_rank p d (d + 1)) refl (λ other. last_from p r fuel (d + 1) (omega (arith, most)) other)
  where
    next_call : (x : Option Call) → call_at p (d + 1) ≡ x → is_of_rank x call.rank ≡ true → (other : Call) × (call_at p (d + 1) ≡ Some other) × (other.rank ≡ r)
    next_call None e h = absurd (cc)
    next_call (Some x) e h = (x, e, eqb-true x.rank call.rank h ∙ own)

    by_next : (b : Bool) → are_of_one_rank p d (d + 1) ≡ b → ((other : Call) → call_at p (d + 1) ≡ Some other → other.rank ≡ r → Last p r) → Last p r
    by_next false e further = record { place = d; call = call; there = there; own = own; last = e }
    by_next true e further =
        let h : is_of_rank (call_at p (d + 1)) call.rank ≡ true = subst (λ (z : Option Call). both_hold have_one_rank z (call_at p (d + 1)) ≡ true) there e in
        let n = next_call (call_at p (d + 1)) refl h in
        further n.0 n.1 n.2

last_of : (p : MpiProgram) (r d : ℕ) → is_of_rank (call_at p d) r ≡ true → Last p r
last_of p r d h = by_call (call_at p d) refl h
  where
    by_call : (x : Option Call) → call_at p d ≡ x → is_of_rank x r ≡ true → Last p r
    by_call None e h = absurd (cc)
    by_call (Some x) e h = last_from p r (length p.calls) d (omega arith) x e (eqb-true x.rank r h)

has_call : (p : MpiProgram) (m : Configuration) (r n : ℕ) → (b : Bool) → is_of_rank (call_at p n) r ≡ b → (not b && has_returned_before p m r n) ≡ false → Last p r
has_call p m r n true e h = last_of p r n e
has_call p m r zero false e h = absurd (cc)
has_call p m r (suc k) false e h = before (is_of_rank (call_at p k) r) refl h
  where
    before : (b : Bool) → is_of_rank (call_at p k) r ≡ b → (not b || is_returned p m k) ≡ false → Last p r
    before true e h = last_of p r k e
    before false e h = absurd (cc)

some_unfinished : (p : MpiProgram) (steps : List Step) → IsStuckRun p steps → list_any (is_right (world_of p steps)) (map (λ c. is_true (unfinished (rank_of p c))) (last_calls p)) ≡ true
some_unfinished p steps stuck =
    let m = after_all (opening p) steps in
    let r = stuck.stuck.rank in
    let w = has_call p m r (slice_index m.next r) (is_of_rank (call_at p (slice_index m.next r)) r) refl stuck.stuck.unfinished in
    let rank : r ≡ rank_of p w.place = sym w.own ∙ ap rank_of_call (sym w.there) in
    let open_rank : is_rank_finished p m (rank_of p w.place) ≡ false = subst (λ (z : ℕ). is_rank_finished p m z ≡ false) rank stuck.stuck.unfinished in
    any_mapped (is_right (world_of p steps)) (λ c. is_true (unfinished (rank_of p c))) (last_calls p) w.place
    (in_filter (λ c. not (are_of_one_rank p c (c + 1))) (places p) w.place (not_false _ w.last) (in_range 0 (length p.calls) w.place (omega arith) (omega (arith, slice_get_within p.calls w.place w.call w.there))))
    (not_false _ open_rank)

-- ---- the family

-- in the world of a run no rank is unfinished whose last call has returned
pub last_calls_hold : (p : MpiProgram) (steps : List Step) → IsProgram p → IsRun p (opening p) steps → clauses_hold (world_of p steps) (flat_map (λ c. where_returned p c (is_false (unfinished (rank_of p c)))) (last_calls p)) ≡ true
last_calls_hold p steps program run =
    all_made_within (clause_holds (world_of p steps)) (λ c. where_returned p c (is_false (unfinished (rank_of p c)))) (λ c. not (are_of_one_rank p c (c + 1))) 0 (length p.calls) (length p.calls) (omega arith)
    (λ c below last. last_holds p steps c program run below last)

pub some_rank_is_unfinished : SomeRankIsUnfinished
some_rank_is_unfinished p steps program stuck =
    all_append (clause_holds (world_of p steps)) (flat_map (λ c. where_returned p c (is_false (unfinished (rank_of p c)))) (last_calls p)) _
    (last_calls_hold p steps program stuck.run) (and_both _ _ (some_unfinished p steps stuck) refl)

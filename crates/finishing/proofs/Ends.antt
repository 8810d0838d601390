-- At the end of a run that finishes, and that nothing can follow, each call is issued and has
-- returned.
use Rattle.std.proofs.Common.{◌≡◌, ℕ, zero, suc, ◌+◌, ◌<◌, inl, inr, Bool, true, false, not, nat_lt, List, Option, Some, length, slice_index, refl, ap, ◌∙◌, subst, arith}
use Rattle.std.proofs.lemmas.Bool.{cases_lt, eq-eqb, ltb-true}
use Rattle.std.proofs.lemmas.Bool.Decides.{nat_tests}
use Rattle.calltext.proofs.Conjunctions.{and_true}
use Rattle.callorder.specs.declared.calls.Call.{Call}
use Rattle.callorder.specs.ProgramRules.{IsProgram}
use Rattle.callorder.specs.Programs.{MpiProgram, call_at, is_of_rank, are_of_one_rank}
use Rattle.callorder.specs.Calls.{holds_of}
use Rattle.semantics.specs.declared.state.Step.{Step}
use Rattle.semantics.specs.RunEnds.{IsFinished, IsFinishedRun}
use Rattle.semantics.specs.Machine.{Configuration, opening, after_all, is_issued, is_issued_call, has_next, has_returned_before, is_returned}
use Rattle.races.proofs.Steps.{before_returned}
use Rattle.races.proofs.Passing.{kept_run}
use Rattle.always.specs.Always.{IsEndedRun}
use Rattle.formula_from_run.proofs.Starts.{there_within, one_rank, very_first, first_one}

-- a finished rank has no next call, and what stands before its next place has returned
rank_done : (p : MpiProgram) (m : Configuration) (rank : ℕ) → IsFinished p m → rank < p.ranks → (not (has_next p m rank) ≡ true) × (has_returned_before p m rank (slice_index m.next rank) ≡ true)
rank_done p m rank finished below = and_true (not (has_next p m rank)) (has_returned_before p m rank (slice_index m.next rank)) (finished rank below)

-- ---- each call is issued

no_next_is : (p : MpiProgram) (m : Configuration) (c : ℕ) (call : Call) → IsFinished p m → call.rank < p.ranks → call_at p c ≡ Some call → slice_index m.next call.rank ≡ c → ⊥
no_next_is p m c call finished below there at =
    let some : has_next p m call.rank ≡ true =
    ap (λ (z : ℕ). is_of_rank (call_at p z) call.rank) at ∙ ap (λ (z : Option Call). is_of_rank z call.rank) there ∙ eq-eqb call.rank call.rank refl in
    let none = (rank_done p m call.rank finished below).0 in
    let off = ap not some in
    cc

next_issued : (p : MpiProgram) (steps : List Step) (c : ℕ) → IsProgram p → IsFinishedRun p steps → suc c < length p.calls → are_of_one_rank p c (suc c) ≡ true → is_issued p (after_all (opening p) steps) c ≡ true → is_issued p (after_all (opening p) steps) (suc c) ≡ true
next_issued p steps c program finished within same issued =
    let m = after_all (opening p) steps in
    let call = there_within p.calls (suc c) within in
    let other = one_rank (call_at p c) (call_at p (suc c)) call.0 call.1 same in
    let there : nat_lt c (slice_index m.next other.0.rank) ≡ true = subst (λ (z : Option Call). holds_of (is_issued_call m c) z ≡ true) other.1 issued in
    let below : nat_lt c (slice_index m.next call.0.rank) ≡ true = subst (λ (z : ℕ). nat_lt c (slice_index m.next z) ≡ true) other.2 there in
    by call.0 call.1 below (is_issued p m (suc c)) refl
  where
    by : (call : Call) → call_at p (suc c) ≡ Some call → nat_lt c (slice_index (after_all (opening p) steps).next call.rank) ≡ true → (b : Bool) → is_issued p (after_all (opening p) steps) (suc c) ≡ b → is_issued p (after_all (opening p) steps) (suc c) ≡ true
    by call there below true e = e
    by call there below false e =
        let m = after_all (opening p) steps in
        let upto : nat_lt (suc c) (slice_index m.next call.rank) ≡ false = subst (λ (z : Option Call). holds_of (is_issued_call m (suc c)) z ≡ false) there e in
        let at : slice_index m.next call.rank ≡ suc c = grind (arith, nat_tests) in
        absurd (no_next_is p m (suc c) call finished.finished (program.in_range (suc c) call there).own there at)

issued_after : (p : MpiProgram) (steps : List Step) (c : ℕ) (b : Bool) → IsProgram p → IsFinishedRun p steps → IsEndedRun p steps → suc c < length p.calls → are_of_one_rank p c (suc c) ≡ b → is_issued p (after_all (opening p) steps) c ≡ true → is_issued p (after_all (opening p) steps) (suc c) ≡ true
issued_after p steps c true program finished ended within same issued = next_issued p steps c program finished within same issued
issued_after p steps c false program finished ended within apart issued = first_one p steps c program ended.run ended.ended within apart

pub all_issued : (p : MpiProgram) (steps : List Step) (c : ℕ) → IsProgram p → IsFinishedRun p steps → IsEndedRun p steps → c < length p.calls → is_issued p (after_all (opening p) steps) c ≡ true
all_issued p steps zero program finished ended within = very_first p steps program ended.run ended.ended within
all_issued p steps (suc c) program finished ended within =
    issued_after p steps c (are_of_one_rank p c (suc c)) program finished ended within refl
    (all_issued p steps c program finished ended (omega (arith, within)))

-- ---- each call has returned

pub all_returned : (p : MpiProgram) (steps : List Step) (c : ℕ) (call : Call) → IsProgram p → IsFinishedRun p steps → IsEndedRun p steps → call_at p c ≡ Some call → c < length p.calls → is_returned p (after_all (opening p) steps) c ≡ true
all_returned p steps c call program finished ended there within =
    let m = after_all (opening p) steps in
    let issued : nat_lt c (slice_index m.next call.rank) ≡ true =
    subst (λ (z : Option Call). holds_of (is_issued_call m c) z ≡ true) there (all_issued p steps c program finished ended within) in
    let below : c < slice_index m.next call.rank = ltb-true c (slice_index m.next call.rank) issued in
    elim (cases_lt (c + 1) (slice_index m.next call.rank)) [
      | inl before ↦ (kept_run p steps program.rank_order finished.run).returned c call there before
      | inr last ↦
          let next : slice_index m.next call.rank ≡ suc c = omega (arith, below, last) in
          let done = rank_done p m call.rank finished.finished (program.in_range c call there).own in
          let back : has_returned_before p m call.rank (suc c) ≡ true = subst (λ (z : ℕ). has_returned_before p m call.rank z ≡ true) next done.1 in
          let own : is_of_rank (call_at p c) call.rank ≡ true = ap (λ (z : Option Call). is_of_rank z call.rank) there ∙ eq-eqb call.rank call.rank refl in
          before_returned p m call.rank c own back
    ]

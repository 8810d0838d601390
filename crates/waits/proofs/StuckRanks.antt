-- Where ranks stand, and that each unfinished rank of a stuck configuration waits.
use Rattle.std.proofs.Common.{◌≡◌, ℕ, zero, suc, ◌-◌, ◌<◌, ◌⊎◌, inl, inr, Bool, true, false, IsTrue, Option, Some, None, length, slice_get, slice_index, unwrap_or, refl, sym, ◌∙◌, ap, subst, ◌↔◌, arith}
use Rattle.std.proofs.lemmas.Bool.{cases_Bool, and_from, and_cases, and_right, or_parts, not-false, both_ways}
use Rattle.std.proofs.lemmas.Option.{slice_get-get_or, unwrap_or-slice_get}
use Rattle.calltext.specs.declared.call.Policy.{Policy}
use Rattle.calltext.specs.declared.call.Policy.TheVariants.{Any, Never, Always}
use Rattle.calltext.specs.declared.call.Mode.TheVariants.{Standard}
use Rattle.callorder.specs.declared.calls.Call.{Call}
use Rattle.callorder.specs.declared.calls.Kind.{Kind}
use Rattle.callorder.specs.declared.calls.Kind.TheVariants.{Send}
use Rattle.callorder.specs.Programs.{MpiProgram, call_at, is_of_rank}
use Rattle.callorder.specs.Calls.{holds_of}
use Rattle.semantics.specs.declared.state.Step.TheVariants.{Issue}
use Rattle.semantics.specs.Machine.{Configuration, IsStuck, has_next, has_returned_before, may_be, can_issue, can_issue_next, can_issue_call, is_rank_finished, is_returned}
use Rattle.waits.specs.declared.standings.Standing.{Standing}
use Rattle.waits.specs.declared.standings.Standing.TheVariants.{Finished, Waits, Ready}
use Rattle.waits.specs.Waiting.{WaitsIn, Stands}
use Rattle.waits.specs.Laws.{StuckRanksWaitInOneCall, NoRankIsReadyWhereStuck}

-- ---- one standing

waits_unreturned : (p : MpiProgram) (m : Configuration) (rank call n : ℕ) → WaitsIn p m rank call → n ≡ suc call → has_returned_before p m rank n ≡ false
waits_unreturned p m rank call n waits next = rw (next, waits.own, waits.pending) refl

-- a rank that waits is not finished
waits_unfinished : (p : MpiProgram) (m : Configuration) (rank call : ℕ) → WaitsIn p m rank call → is_rank_finished p m rank ≡ false
waits_unfinished p m rank call waits = and_right _ _ (waits_unreturned p m rank call (slice_index m.next rank) waits waits.before)

-- a rank waits in one call at most
pub one_call : (p : MpiProgram) (m : Configuration) (rank c d : ℕ) → WaitsIn p m rank c → WaitsIn p m rank d → c ≡ d
one_call p m rank c d one other = let e : suc c ≡ suc d = sym one.before ∙ other.before in cc

stands_once : (p : MpiProgram) (m : Configuration) (rank : ℕ) (a b : Standing) → Stands p m rank a → Stands p m rank b → a ≡ b
stands_once p m rank Finished Finished x y = refl
stands_once p m rank Finished (Waits d) x y = absurd (both_ways _ (waits_unfinished p m rank d y) x)
stands_once p m rank Finished Ready x y = absurd (both_ways _ y.unfinished x)
stands_once p m rank (Waits c) Finished x y = absurd (both_ways _ (waits_unfinished p m rank c x) y)
stands_once p m rank (Waits c) (Waits d) x y = ap Waits (one_call p m rank c d x y)
stands_once p m rank (Waits c) Ready x y = absurd (y.free c x)
stands_once p m rank Ready Finished x y = absurd (both_ways _ x.unfinished y)
stands_once p m rank Ready (Waits d) x y = absurd (x.free d y)
stands_once p m rank Ready Ready x y = refl

-- a standing that is right is the only one
pub stands_exactly : (p : MpiProgram) (m : Configuration) (rank : ℕ) (found : Standing) → Stands p m rank found → (other : Standing) → (found ≡ other) ↔ Stands p m rank other
stands_exactly p m rank found stands other =
    (λ e. subst (λ (s : Standing). Stands p m rank s) e stands, λ right. stands_once p m rank found other stands right)

-- ---- stuck ranks

-- some choice of buffering is allowed
may : (policy : Policy) (kind : Kind ℕ) → (buffered : Bool) × IsTrue (may_be policy kind buffered)
may Any (Send Standard blocking message) = (true, refl)
may Never (Send Standard blocking message) = (false, refl)
may Always (Send Standard blocking message) = (true, refl)
may Any _ = (false, refl)
may Never _ = (false, refl)
may Always _ = (false, refl)

issue_of : (p : MpiProgram) (m : Configuration) (rank n : ℕ) (o : Option Call) → IsTrue (is_of_rank o rank) → IsTrue (has_returned_before p m rank n) → (buffered : Bool) × IsTrue (holds_of (can_issue_call p m rank buffered n) o)
issue_of p m rank n None own before = absurd (cc)
issue_of p m rank n (Some call) own before =
    let choice = may p.policy call.kind in (choice.0, and_from _ _ (and_from _ _ own before) choice.1)

-- a rank whose last call has returned, and which has a next one, may issue it
may_issue : (p : MpiProgram) (m : Configuration) (rank : ℕ) → rank < length m.next → IsTrue (has_next p m rank) → IsTrue (has_returned_before p m rank (slice_index m.next rank)) → (buffered : Bool) × IsTrue (can_issue p m rank buffered)
may_issue p m rank within own before =
    let n = slice_index m.next rank in
    let issue = issue_of p m rank n (call_at p n) own before in
    (issue.0, subst (λ (o : Option ℕ). IsTrue (holds_of (can_issue_next p m rank issue.0) o)) (sym (slice_get-get_or m.next rank 0 within)) issue.1)

waits_from : (p : MpiProgram) (m : Configuration) (rank n : ℕ) → n ≡ slice_index m.next rank → has_returned_before p m rank n ≡ false → (call : ℕ) × WaitsIn p m rank call
waits_from p m rank zero next unreturned = absurd (cc)
waits_from p m rank (suc c) next unreturned =
    let parts = or_parts _ _ unreturned in
    (c, record { before = sym next; own = not-false _ parts.0; pending = parts.1 })

waits_or_issues : (p : MpiProgram) (m : Configuration) (rank : ℕ) → IsStuck p m → rank < length m.next → is_rank_finished p m rank ≡ false → (call : ℕ) × WaitsIn p m rank call
waits_or_issues p m rank stuck within unfinished =
    elim (cases_Bool (has_returned_before p m rank (slice_index m.next rank))) [
      | inl before ↦ elim (and_cases _ _ unfinished) [
        | inl has ↦ absurd (let issue = may_issue p m rank within (not-false _ has) before in stuck.none_enabled (Issue rank issue.0) issue.1)
        | inr unreturned ↦ absurd (both_ways _ unreturned before)
      ]
      | inr unreturned ↦ waits_from p m rank (slice_index m.next rank) refl unreturned
    ]

pub stuck_ranks_wait_in_one_call : StuckRanksWaitInOneCall
stuck_ranks_wait_in_one_call p m rank of stuck within unfinished =
    let waits = waits_or_issues p m rank stuck (omega (arith, of.next)) unfinished in
    record { call = waits.0; waits = waits.1; only = λ other also. one_call p m rank other waits.0 also waits.1 }

pub no_rank_is_ready_where_stuck : NoRankIsReadyWhereStuck
no_rank_is_ready_where_stuck p m rank of stuck within ready =
    let waits = stuck_ranks_wait_in_one_call p m rank of stuck within ready.unfinished in
    ready.free waits.call waits.waits

-- ---- the test that a rank waits

pub next_is : (m : Configuration) (rank n : ℕ) (o : Option ℕ) → o ≡ slice_get m.next rank → n ≡ unwrap_or o 0 → n ≡ slice_index m.next rank
next_is m rank n o found taken = taken ∙ ap (λ (x : Option ℕ). unwrap_or x 0) found ∙ unwrap_or-slice_get m.next rank 0

pub waits_past_first : (p : MpiProgram) (m : Configuration) (rank n : ℕ) → n ≡ slice_index m.next rank → n ≡ 0 → (call : ℕ) → WaitsIn p m rank call → ⊥
waits_past_first p m rank n next first call waits = omega (arith, waits.before)

pub waits_made : (p : MpiProgram) (m : Configuration) (rank n : ℕ) → n ≡ slice_index m.next rank → (n ≡ 0 → ⊥) → is_of_rank (call_at p (n - 1)) rank ≡ true → is_returned p m (n - 1) ≡ false → WaitsIn p m rank (n - 1)
waits_made p m rank n next later own pending =
    record { before = omega arith; own = own; pending = pending }

-- a rank whose last call is another's or has returned doesn't wait
pub waits_not : (p : MpiProgram) (m : Configuration) (rank n : ℕ) → n ≡ slice_index m.next rank → (is_of_rank (call_at p (n - 1)) rank ≡ false) ⊎ (is_returned p m (n - 1) ≡ true) → (call : ℕ) → WaitsIn p m rank call → ⊥
waits_not p m rank n next other call waits =
    let here : n - 1 ≡ call = omega (arith, waits.before) in
    elim other [
      | inl foreign ↦ both_ways _ (subst (λ (c : ℕ). is_of_rank (call_at p c) rank ≡ false) here foreign) waits.own
      | inr returned ↦ both_ways _ waits.pending (subst (λ (c : ℕ). is_returned p m c ≡ true) here returned)
    ]

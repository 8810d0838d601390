-- Calls that could end a wait: where all is stuck, none of them is issued and unmatched.
use Rattle.std.proofs.Common.{◌≡◌, ℕ, suc, ◌≤◌, inl, inr, Bool, true, false, not, ◌&&◌, Option, Some, None, is_some, slice_index, unwrap_or, refl, sym, ◌∙◌, ap, arith}
use Rattle.std.proofs.lemmas.Bool.{and_parts, and_from, or_cases, not-true, true≢false, lt-ltb, eqb-true}
use Rattle.calltext.specs.declared.limits.Limits.{Limits}
use Rattle.callorder.specs.declared.calls.Call.{Call}
use Rattle.callorder.specs.Calls.{operation_of, holds_of}
use Rattle.callorder.specs.ProgramRules.{IsProgramWithin}
use Rattle.callorder.specs.Programs.{MpiProgram, call_at, is_of_rank}
use Rattle.semantics.specs.Configurations.{is_open_call}
use Rattle.semantics.specs.Machine.{Configuration, is_issued, is_issued_call, is_matched, partner_of}
use Rattle.run_laws.proofs.Descent.{no_open_pair_where_stuck}
use Rattle.waits.specs.declared.fates.Fate.TheVariants.{Open}
use Rattle.waits.specs.Waiting.{WaitsIn, operation_of_call, operation_at, fate_from}
use Rattle.waits.specs.Laws.{FitCallsAreNotBothOpen, NeededCallsAreNotOpen}

matched_open : (issued matched : Bool) → (issued && not matched) ≡ true → matched ≡ true → ⊥
matched_open issued matched is_open_call matches = true≢false (sym matches ∙ not-true matched (and_parts issued (not matched) is_open_call).1)

pub fit_calls_are_not_both_open : FitCallsAreNotBothOpen
fit_calls_are_not_both_open p m send finder stuck fit send_open finder_open =
    elim (no_open_pair_where_stuck p m send finder stuck (and_parts _ _ send_open).0 (and_parts _ _ finder_open).0 fit) [
      | inl matched ↦ matched_open _ _ send_open matched
      | inr matched ↦ matched_open _ _ finder_open matched
    ]

-- ---- the operation that a rank waits for is issued

issued_at : (m : Configuration) (rank call o : ℕ) (known : Option Call) (other : Call) → slice_index m.next rank ≡ suc call → o ≤ call → known ≡ Some other → other.rank ≡ rank → holds_of (is_issued_call m o) known ≡ true
issued_at m rank call o None other next earlier there own = absurd (cc)
issued_at m rank call o (Some x) other next earlier there own =
    let same : x ≡ other = cc in
    let here : slice_index m.next x.rank ≡ suc call = ap (λ (y : Call). slice_index m.next y.rank) same ∙ ap (slice_index m.next) own ∙ next in
    lt-ltb o (slice_index m.next x.rank) (omega arith)

pub own_rank : (o : Option Call) (rank : ℕ) → is_of_rank o rank ≡ true → (call : Call) × (o ≡ Some call) × (call.rank ≡ rank)
own_rank None rank own = absurd (cc)
own_rank (Some call) rank own = (call, refl, eqb-true call.rank rank own)

pub operation_is_issued : (l : Limits) (p : MpiProgram) (m : Configuration) (rank call : ℕ) → IsProgramWithin l p → WaitsIn p m rank call → is_issued p m (operation_of_call p call) ≡ true
operation_is_issued l p m rank call is waits =
    let known = own_rank (call_at p call) rank waits.own in
    by_operation known.0 known.1 known.2 (operation_of known.0.kind) refl
  where
    by_operation : (x : Call) → call_at p call ≡ Some x → x.rank ≡ rank → (o : Option ℕ) → operation_of x.kind ≡ o → is_issued p m (operation_of_call p call) ≡ true
    by_operation x there own None none =
        let itself : operation_of_call p call ≡ call = ap (operation_at call) there ∙ ap (λ (o : Option ℕ). unwrap_or o call) none in
        ap (is_issued p m) itself ∙ issued_at m rank call call (call_at p call) x waits.before (omega arith) there own
    by_operation x there own (Some o) some =
        let it : operation_of_call p call ≡ o = ap (operation_at call) there ∙ ap (λ (o : Option ℕ). unwrap_or o call) some in
        let started = is.waits.named call o x there some in
        ap (is_issued p m) it ∙ issued_at m rank call o (call_at p o) started.0 waits.before (omega (arith, is.waits_later call o x there some)) started.1 (started.2 ∙ own)

-- ---- what it needs is not open

open_is : (partner : Option ℕ) (issued : Bool) → fate_from partner issued ≡ Open → (issued && not (is_some partner)) ≡ true
open_is (Some other) issued e = absurd (cc)
open_is None false e = absurd (cc)
open_is None true e = refl

pub needed_calls_are_not_open : NeededCallsAreNotOpen
needed_calls_are_not_open l p m rank call needed is stuck waits unmatched fit fate =
    let o = operation_of_call p call in
    let free : not (is_matched m o) ≡ true = ap (λ (x : Option ℕ). not (is_some x)) unmatched in
    let here : is_open_call p m o ≡ true = and_from _ _ (operation_is_issued l p m rank call is waits) free in
    let there : is_open_call p m needed ≡ true = open_is (partner_of m needed) (is_issued p m needed) fate in
    elim (or_cases _ _ fit) [
      | inl sends ↦ fit_calls_are_not_both_open p m o needed stuck (and_parts _ _ sends).0 here there
      | inr takes ↦ fit_calls_are_not_both_open p m needed o stuck takes there here
    ]

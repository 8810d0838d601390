-- A rank that waits needs something that has not come.
use Rattle.std.proofs.Common.{◌≡◌, ℕ, inl, inr, Bool, true, false, not, ◌&&◌, IsTrue, List, [], ◌∷◌, Option, Some, None, is_some, get_or, length, replicate, refl, sym, ◌∙◌, ap, subst, arith}
use Rattle.std.specs.Prelude.{slice_set, unwrap_or, option_map, option_and_then}
use Rattle.std.proofs.lemmas.Bool.{cases_eq, cases_lt, and_from, and_parts, or_cases, or_left, or_right, or_parts, not-true, not_from_false, true≢false}
use Rattle.std.proofs.lemmas.List.{get_or-set_same, get_or-set_other, set_past, get_or-replicate, get_or_past, length-replicate}
use Rattle.std.proofs.lemmas.Option.{same_Some, none-some, unwrap_or-slice_get}
use Rattle.calltext.specs.declared.call.Mode.TheVariants.{Standard, Synchronous, Buffered}
use Rattle.calltext.specs.declared.limits.Limits.{Limits}
use Rattle.callorder.specs.declared.calls.Call.{Call}
use Rattle.callorder.specs.declared.calls.Kind.{Kind}
use Rattle.callorder.specs.declared.calls.Kind.TheVariants.{Send, Receive, MatchedProbe, Probe, MatchedReceive, Wait}
use Rattle.callorder.specs.declared.calls.Message.{Message}
use Rattle.callorder.specs.declared.calls.Pattern.{Pattern}
use Rattle.callorder.specs.Calls.{message_of, pattern_of, receive_of, operation_of, is_probe_kind, fits_between, both_hold, holds_of, fits}
use Rattle.callorder.specs.ProgramRules.{IsProgramWithin}
use Rattle.callorder.specs.Programs.{MpiProgram, call_at, kind_holds}
use Rattle.semantics.specs.declared.state.Step.{Step}
use Rattle.semantics.specs.declared.state.Step.TheVariants.{Issue, Match as MatchStep, See}
use Rattle.semantics.specs.Machine.{Configuration, IsEnabled, IsRun, after, after_all, opening, partner_of, is_done, is_done_kind, is_returned, is_returned_kind, is_issued, fetches, fetches_partner}
use Rattle.waits.specs.declared.needs.Need.TheVariants.{Match, Fetch}
use Rattle.waits.specs.Waiting.{operation_of_call, operation_at, handled_receive, need_with, need_where, need_of_operation, fits_with}
use Rattle.waits.specs.Laws.{HasNeed, WaitingRanksNeed}
use Rattle.waits.proofs.NeededCalls.{own_rank}

-- ---- what is matched fits, and what a probe has seen

abbrev PartnersFit : MpiProgram → List (Option ℕ) → Type 0
PartnersFit p partner = (e f : ℕ) → get_or partner e None ≡ Some f → IsTrue (fits_with p e f)

set_fit : (p : MpiProgram) (partner : List (Option ℕ)) (i x : ℕ) → IsTrue (fits_with p i x) → PartnersFit p partner → PartnersFit p (slice_set partner i (Some x))
set_fit p partner i x fit all e f there =
    elim (cases_lt i (length partner)) [
      | inl within ↦ elim (cases_eq e i) [
        | inl here ↦
            let found : get_or (slice_set partner i (Some x)) i None ≡ Some f = subst (λ (k : ℕ). get_or (slice_set partner i (Some x)) k None ≡ Some f) here there in
            let same : x ≡ f = same_Some x f (sym (get_or-set_same partner i (Some x) None within) ∙ found) in
            subst (λ (k : ℕ). IsTrue (fits_with p k f)) (sym here) (subst (λ (k : ℕ). IsTrue (fits_with p i k)) same fit)
        | inr differ ↦ all e f (sym (get_or-set_other partner i e (Some x) None differ) ∙ there)
      ]
      | inr past ↦ all e f (ap (λ (l : List (Option ℕ)). get_or l e None) (sym (set_past partner i (Some x) past)) ∙ there)
    ]

fit_after : (p : MpiProgram) (m : Configuration) (step : Step) → IsEnabled p m step → PartnersFit p m.partner → PartnersFit p (after m step).partner
fit_after p m (Issue rank buffered) enabled all = all
fit_after p m (MatchStep s t) enabled all =
    set_fit p (slice_set m.partner s (Some t)) t s (or_right _ _ enabled.1.fit) (set_fit p m.partner s t (or_left _ _ (and_from _ _ enabled.1.fit enabled.0)) all)
fit_after p m (See s f) enabled all = set_fit p m.partner f s (or_right _ _ enabled.1.fit) all

fit_along : (p : MpiProgram) (m : Configuration) (steps : List Step) → IsRun p m steps → PartnersFit p m.partner → PartnersFit p (after_all m steps).partner
fit_along p m [] run all = all
fit_along p m (step ∷ steps) run all = fit_along p (after m step) steps run.1 (fit_after p m step run.0 all)

abbrev nobody : Option ℕ
nobody = None

none_yet : (n e : ℕ) → get_or (replicate n nobody) e nobody ≡ nobody
none_yet n e =
    elim (cases_lt e n) [
      | inl within ↦ get_or-replicate n e nobody nobody within
      | inr past ↦ get_or_past (replicate n nobody) e nobody (omega (arith, length-replicate n nobody))
    ]

partners_fit : (p : MpiProgram) (steps : List Step) → IsRun p (opening p) steps → PartnersFit p (after_all (opening p) steps).partner
partners_fit p steps run =
    fit_along p (opening p) steps run (λ e f there. absurd (none-some f (sym (none_yet (length p.calls) e) ∙ there)))

-- ---- a send that is matched and not fetched

no_pattern : (sender taker : ℕ) (message : Option Message) → fits_between sender message taker None ≡ true → ⊥
no_pattern sender taker None fit = true≢false (sym fit)
no_pattern sender taker (Some message) fit = true≢false (sym fit)

-- the receive that a matched probe waits for
abbrev HasReceive : MpiProgram → Configuration → Option ℕ → Type 0
HasReceive p m found = (receive : ℕ) × (found ≡ Some receive) × (is_issued p m receive ≡ false)

receive_awaited : (p : MpiProgram) (m : Configuration) (sender taker : ℕ) (message : Option Message) (kind : Kind ℕ) → fits_between sender message taker (pattern_of kind) ≡ true → is_probe_kind kind ≡ false → fetches p m kind ≡ false → HasReceive p m (receive_of kind)
receive_awaited p m sender taker message (Receive blocking pattern) fit no_probe unfetched = absurd (true≢false unfetched)
receive_awaited p m sender taker message (MatchedProbe pattern receive) fit no_probe unfetched = (receive, refl, unfetched)
receive_awaited p m sender taker message (Probe pattern) fit no_probe unfetched = absurd (true≢false no_probe)
receive_awaited p m sender taker message kind fit no_probe unfetched = absurd (no_pattern sender taker message fit)

receive_of_taker : (p : MpiProgram) (m : Configuration) (send : Call) (taker : Option Call) → both_hold fits (Some send) taker ≡ true → kind_holds is_probe_kind taker ≡ false → kind_holds (fetches p m) taker ≡ false → HasReceive p m (option_and_then (λ call. receive_of call.kind) taker)
receive_of_taker p m send None fit no_probe unfetched = absurd (true≢false (sym fit))
receive_of_taker p m send (Some taker) fit no_probe unfetched =
    receive_awaited p m send.rank taker.rank (message_of send.kind) taker.kind fit no_probe unfetched

no_taker : (send taker : Option Call) (known : Call) → taker ≡ Some known → pattern_of known.kind ≡ None → both_hold fits send taker ≡ true → ⊥
no_taker None taker known there none fit = true≢false (sym fit)
no_taker (Some send) None known there none fit = none-some known there
no_taker (Some send) (Some taker) known there none fit =
    let same : taker ≡ known = same_Some taker known there in
    let pattern : pattern_of taker.kind ≡ None = ap (λ (x : Call). pattern_of x.kind) same ∙ none in
    no_pattern send.rank taker.rank (message_of send.kind) (subst (λ (x : Option Pattern). fits_between send.rank (message_of send.kind) taker.rank x ≡ true) pattern fit)

-- a send that is matched and not fetched was found by a matched probe whose receive is not issued
found_by_probe : (p : MpiProgram) (m : Configuration) (o t : ℕ) (known : Call) → call_at p o ≡ Some known → pattern_of known.kind ≡ None → IsTrue (fits_with p o t) → holds_of (fetches_partner p m) (Some t) ≡ false → HasReceive p m (handled_receive p t)
found_by_probe p m o t known there none fit unfetched =
    elim (or_cases _ _ fit) [
      | inl sends ↦
          let both = and_parts _ _ sends in
          receive_of_taker p m known (call_at p t) (subst (λ (x : Option Call). both_hold fits x (call_at p t) ≡ true) there both.0) (not-true _ both.1) unfetched
      | inr takes ↦ absurd (no_taker (call_at p t) (call_at p o) known there none takes)
    ]

-- ---- what is not done needs something

unfetched_of : (p : MpiProgram) (m : Configuration) (o t : ℕ) (kind : Kind ℕ) → partner_of m o ≡ Some t → is_done_kind p m o kind ≡ false → (pattern_of kind ≡ None) × (holds_of (fetches_partner p m) (Some t) ≡ false)
unfetched_of p m o t (Send Standard blocking message) matched pending =
    (refl, ap (holds_of (fetches_partner p m)) (sym matched) ∙ (or_parts _ _ pending).1)
unfetched_of p m o t (Send Synchronous blocking message) matched pending =
    (refl, ap (holds_of (fetches_partner p m)) (sym matched) ∙ pending)
unfetched_of p m o t (Send Buffered blocking message) matched pending = absurd (true≢false pending)
unfetched_of p m o t (Receive blocking pattern) matched pending =
    absurd (true≢false (sym (ap is_some matched) ∙ pending))
unfetched_of p m o t (MatchedProbe pattern receive) matched pending =
    absurd (true≢false (sym (ap is_some matched) ∙ pending))
unfetched_of p m o t (Probe pattern) matched pending =
    absurd (true≢false (sym (ap is_some matched) ∙ pending))
unfetched_of p m o t (MatchedReceive blocking) matched pending = absurd (true≢false pending)
unfetched_of p m o t (Wait operation) matched pending = absurd (true≢false pending)

asked : (p : MpiProgram) (m : Configuration) (o : ℕ) (known : Call) (partner : Option ℕ) → call_at p o ≡ Some known → is_done p m o ≡ false → partner_of m o ≡ partner → need_of_operation p m o ≡ need_with p partner
asked p m o known partner there pending matched =
    let asks : (is_some (call_at p o) && not (is_done p m o)) ≡ true = and_from _ _ (ap is_some there) (not_from_false _ pending) in
    ap (λ (b : Bool). need_where b (need_with p (partner_of m o))) asks ∙ ap (need_with p) matched

need_there : (p : MpiProgram) (m : Configuration) (o : ℕ) (known : Call) (partner : Option ℕ) → call_at p o ≡ Some known → is_done p m o ≡ false → partner_of m o ≡ partner → PartnersFit p m.partner → HasNeed p m o
need_there p m o known None there pending matched all =
    record { need = Match; needs = asked p m o known None there pending matched; outstanding = tt }
need_there p m o known (Some t) there pending matched all =
    let parts = unfetched_of p m o t known.kind matched (sym (ap (kind_holds (is_done_kind p m o)) there) ∙ pending) in
    let fit : IsTrue (fits_with p o t) = all o t (sym (unwrap_or-slice_get m.partner o None) ∙ matched) in
    let found = found_by_probe p m o t known there parts.0 fit parts.1 in
    record {
      need = Fetch found.0;
      needs = asked p m o known (Some t) there pending matched ∙ ap (option_map Fetch) found.1;
      outstanding = found.2;
    }

undone : (p : MpiProgram) (m : Configuration) (call : ℕ) (known : Call) → call_at p call ≡ Some known → is_returned p m call ≡ false → is_done p m (operation_of_call p call) ≡ false
undone p m call known there pending =
    ap (is_done p m) (ap (operation_at call) there) ∙ by_kind known.kind (sym (ap (kind_holds (is_returned_kind p m call)) there) ∙ pending)
  where
    by_kind : (kind : Kind ℕ) → is_returned_kind p m call kind ≡ false → is_done p m (unwrap_or (operation_of kind) call) ≡ false
    by_kind (Send mode blocking message) unreturned = (or_parts _ _ unreturned).1
    by_kind (Receive blocking pattern) unreturned = (or_parts _ _ unreturned).1
    by_kind (MatchedReceive blocking) unreturned = absurd (true≢false unreturned)
    by_kind kind unreturned = unreturned

operation_there : (l : Limits) (p : MpiProgram) (call : ℕ) (known : Call) → IsProgramWithin l p → call_at p call ≡ Some known → (operation : Call) × (call_at p (operation_of_call p call) ≡ Some operation)
operation_there l p call known is there = by_operation (operation_of known.kind) refl
  where
    by_operation : (o : Option ℕ) → operation_of known.kind ≡ o → (operation : Call) × (call_at p (operation_of_call p call) ≡ Some operation)
    by_operation None none =
        (known, ap (λ (x : ℕ). call_at p x) (ap (operation_at call) there ∙ ap (λ (x : Option ℕ). unwrap_or x call) none) ∙ there)
    by_operation (Some o) some =
        let started = is.waits.named call o known there some in
        (started.0, ap (λ (x : ℕ). call_at p x) (ap (operation_at call) there ∙ ap (λ (x : Option ℕ). unwrap_or x call) some) ∙ started.1)

pub waiting_ranks_need : WaitingRanksNeed
waiting_ranks_need l p steps rank call is run waits =
    let m = after_all (opening p) steps in
    let known = own_rank (call_at p call) rank waits.own in
    let operation = operation_there l p call known.0 is known.1 in
    need_there p m (operation_of_call p call) operation.0 (partner_of m (operation_of_call p call)) operation.1 (undone p m call known.0 known.1 waits.pending) refl (partners_fit p steps run)

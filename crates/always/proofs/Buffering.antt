-- At the end of a run that buffers all it may each standard send is buffered, unless the policy has
-- none buffered.
use Rattle.std.proofs.Common.{◌≡◌, ℕ, suc, inl, inr, Bool, true, false, ◌&&◌, ◌==◌, List, [], ◌∷◌, Option, Some, None, slice_get, take, refl, sym, ap, ◌∙◌, subst}
use Rattle.std.proofs.lemmas.Bool.{cases_eq, eq-eqb}
use Rattle.std.proofs.lemmas.Option.{slice_get_within}
use Rattle.calltext.proofs.Conjunctions.{and_both}
use Rattle.calltext.specs.declared.call.Mode.TheVariants.{Standard, Synchronous, Buffered}
use Rattle.calltext.specs.declared.call.Policy.{Policy}
use Rattle.calltext.specs.declared.call.Policy.TheVariants.{Any, Never, Always}
use Rattle.callorder.specs.declared.calls.Call.{Call}
use Rattle.callorder.specs.declared.calls.Kind.{Kind}
use Rattle.callorder.specs.declared.calls.Kind.TheVariants.{Send, Receive, MatchedProbe, Probe, MatchedReceive, Wait}
use Rattle.callorder.specs.Programs.{MpiProgram, call_at}
use Rattle.callorder.specs.Calls.{holds_of}
use Rattle.semantics.specs.declared.state.Step.{Step}
use Rattle.semantics.specs.declared.state.Step.TheVariants.{Issue, Match, See}
use Rattle.semantics.specs.Machine.{Configuration, opening, after, after_all, IsEnabled, IsRun, is_buffered, is_issued, is_issued_call, may_be, can_issue, can_issue_next, can_issue_call, has_returned_before}
use Rattle.semantics.proofs.Lengths.{Issues, issues}
use Rattle.semantics.proofs.Runs.{IsRun-at}
use Rattle.always.specs.Always.{BuffersAllItMay}
use Rattle.races.proofs.Steps.{is_or_not, next_is, other_unmoved, now_buffered, allowed, returned_first}
use Rattle.races.proofs.Kept.{Kept, is_standard_call, is_standard_kind, allowed_kind, never_allowed, always_allowed}
use Rattle.races.proofs.Passing.{kept_after, issued_call_before}

-- each issued standard send is buffered, unless the policy has none buffered
abbrev pub AllBuffered : MpiProgram → Configuration → Type 0
AllBuffered p m = (p.policy ≡ Never → ⊥) → (c : ℕ) → is_standard_call (call_at p c) ≡ true → is_issued p m c ≡ true → is_buffered m c ≡ true

pub standard_may : (q : Policy) (k : Kind ℕ) → is_standard_kind k ≡ true → (q ≡ Never → ⊥) → may_be q k true ≡ true
standard_may Any (Send Standard blocking message) h not_never = refl
standard_may Never (Send Standard blocking message) h not_never = absurd (not_never refl)
standard_may Always (Send Standard blocking message) h not_never = refl
standard_may q (Send Synchronous blocking message) h not_never = absurd (cc)
standard_may q (Send Buffered blocking message) h not_never = absurd (cc)
standard_may q (Receive blocking pattern) h not_never = absurd (cc)
standard_may q (MatchedProbe pattern receive) h not_never = absurd (cc)
standard_may q (Probe pattern) h not_never = absurd (cc)
standard_may q (MatchedReceive blocking) h not_never = absurd (cc)
standard_may q (Wait operation) h not_never = absurd (cc)

-- a call that may be issued may be issued as buffered, where the policy allows it
pub issued_otherwise : (p : MpiProgram) (m : Configuration) (r : ℕ) (b d : Bool) → can_issue p m r b ≡ true → (w : Issues p m r) → may_be p.policy w.call.kind d ≡ true → can_issue p m r d ≡ true
issued_otherwise p m r b d can w may =
    let back : has_returned_before p m r w.place ≡ true = returned_first p m r b can w in
    let own : (w.call.rank == r) ≡ true = eq-eqb w.call.rank r w.own in
    let all : holds_of (can_issue_call p m r d w.place) (Some w.call) ≡ true =
    and_both (w.call.rank == r && has_returned_before p m r w.place) (may_be p.policy w.call.kind d) (and_both (w.call.rank == r) (has_returned_before p m r w.place) own back) may in
    subst (λ (z : Option ℕ). holds_of (can_issue_next p m r d) z ≡ true) (sym w.next) (subst (λ (z : Option Call). holds_of (can_issue_call p m r d w.place) z ≡ true) (sym w.there) all)

buffered_step : (p : MpiProgram) (m : Configuration) (x : Step) → Kept p m → IsEnabled p m x → ((rank : ℕ) → x ≡ Issue rank false → IsEnabled p m (Issue rank true) → ⊥) → AllBuffered p m → AllBuffered p (after m x)
buffered_step p m (Match s t) kept enabled choice all not_never c standard h = all not_never c standard (same (call_at p c) h)
  where
    same : (o : Option Call) → holds_of (is_issued_call (after m (Match s t)) c) o ≡ true → holds_of (is_issued_call m c) o ≡ true
    same None h = h
    same (Some call) h = h
buffered_step p m (See s f) kept enabled choice all not_never c standard h = all not_never c standard (same (call_at p c) h)
  where
    same : (o : Option Call) → holds_of (is_issued_call (after m (See s f)) c) o ≡ true → holds_of (is_issued_call m c) o ≡ true
    same None h = h
    same (Some call) h = h
buffered_step p m (Issue r b) kept enabled choice all not_never c standard h =
    let w = issues p m r b enabled in
    elim (cases_eq c w.place) [
      | inl e ↦
          let kind : is_standard_kind w.call.kind ≡ true = of_call w.call (subst (λ (z : Option Call). is_standard_call z ≡ true) w.there (ap (λ (z : ℕ). is_standard_call (call_at p z)) (sym e) ∙ standard)) in
          elim (is_or_not b) [
            | inl on ↦ ap (is_buffered (after m (Issue r b))) e ∙ now_buffered p m r b w kept.size.buffered ∙ on
            | inr off ↦ absurd (choice r (ap (λ (z : Bool). Issue r z) off) (issued_otherwise p m r b true enabled w (standard_may p.policy w.call.kind kind not_never)))
          ]
      | inr differ ↦
          other_unmoved p m r b c w differ ∙
          all not_never c standard (issued_call_before m r w.place c b (call_at p c) (slice_get_within m.next r w.place w.next) (next_is p m r w) differ h)
    ]
  where
    of_call : (call : Call) → is_standard_call (Some call) ≡ true → is_standard_kind call.kind ≡ true
    of_call call h = h

pub buffered_all : (p : MpiProgram) (m : Configuration) (steps : List Step) → Kept p m → IsRun p m steps → ((place rank : ℕ) → slice_get steps place ≡ Some (Issue rank false) → IsEnabled p (after_all m (take place steps)) (Issue rank true) → ⊥) → AllBuffered p m → AllBuffered p (after_all m steps)
buffered_all p m [] kept run choice all = all
buffered_all p m (x ∷ xs) kept run choice all =
    buffered_all p (after m x) xs (kept_after p m x kept run.0) run.1
    (λ place rank there. choice (suc place) rank there)
    (buffered_step p m x kept run.0 (λ rank is. choice 0 rank (ap Some is)) all)

-- ---- where the policy leaves no choice, each run buffers all it may

no_true : (k : Kind ℕ) → may_be Never k true ≡ true → ⊥
no_true k h = absurd (let off : true ≡ false = never_allowed k true h in cc)

no_choice_kind : (q : Policy) (k : Kind ℕ) → (q ≡ Any → ⊥) → may_be q k false ≡ true → may_be q k true ≡ true → ⊥
no_choice_kind Any k not_any off on = not_any refl
no_choice_kind Never k not_any off on = no_true k on
no_choice_kind Always k not_any off on =
    let b : false ≡ true = always_allowed k false (allowed_kind Always k on) off in
    cc

pub no_choice : (p : MpiProgram) (steps : List Step) → IsRun p (opening p) steps → (p.policy ≡ Any → ⊥) → BuffersAllItMay p steps
no_choice p steps run not_any place rank there on =
    let m = after_all (opening p) (take place steps) in
    let off : can_issue p m rank false ≡ true = IsRun-at p (opening p) steps place (Issue rank false) run there in
    let w = issues p m rank false off in
    no_choice_kind p.policy w.call.kind not_any (allowed p m rank false off w) (allowed p m rank true on w)

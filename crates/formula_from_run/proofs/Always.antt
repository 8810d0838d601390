-- Where every standard send is buffered, each that is issued is.
use Rattle.std.proofs.Common.{◌≡◌, ◌≢◌, ℕ, ◌+◌, ◌<◌, inl, inr, Bool, true, false, ◌&&◌, ◌||◌, ◌==◌, nat_lt, List, [], ◌∷◌, Option, Some, None, length, slice_set, slice_index, get_or, refl, sym, ap, ◌∙◌, subst, arith, get_or-set_same, get_or-set_other}
use Rattle.std.proofs.lemmas.Bool.{cases_eq}
use Rattle.std.proofs.lemmas.Bool.Decides.{nat_tests}
use Rattle.std.proofs.lemmas.List.{length-set, length-replicate}
use Rattle.std.proofs.lemmas.Option.{unwrap_or-slice_get, slice_get_within}
use Rattle.calltext.proofs.Conjunctions.{and_true}
use Rattle.calltext.specs.declared.call.Mode.TheVariants.{Standard, Synchronous, Buffered}
use Rattle.calltext.specs.declared.call.Policy.{Policy}
use Rattle.calltext.specs.declared.call.Policy.TheVariants.{Any, Never, Always}
use Rattle.callorder.specs.declared.calls.Call.{Call}
use Rattle.callorder.specs.declared.calls.Kind.{Kind}
use Rattle.callorder.specs.declared.calls.Kind.TheVariants.{Send, Receive, MatchedProbe, Probe, MatchedReceive, Wait}
use Rattle.callorder.specs.Programs.{MpiProgram, call_at}
use Rattle.callorder.specs.Calls.{holds_of}
use Rattle.semantics.specs.declared.state.Step.{Step}
use Rattle.semantics.specs.declared.state.Step.TheVariants.{Issue, Match, See}
use Rattle.semantics.specs.Machine.{Configuration, opening, after, after_all, IsEnabled, IsRun, is_buffered, is_issued, is_issued_call, may_be, can_issue, can_issue_next, can_issue_call, has_returned_before}
use Rattle.semantics.proofs.Lengths.{Issues, issues}
use Rattle.run_laws.specs.Laws.{IsInRankOrder}
use Rattle.run_laws.proofs.Issued.{issued_before}
use Rattle.formula.specs.declared.facts.Fact.TheVariants.{Buffered as buffered}
use Rattle.formula.specs.Families.{is_standard, is_standard_call, is_standard_kind}
use Rattle.formula_from_run.specs.Worlds.{always_buffers, world_of}
use Rattle.formula_from_run.proofs.Flags.{next_is, other_unmoved}

-- a call that an issue of another one leaves issued was issued
issued_call_before : (m : Configuration) (r place c : ℕ) (b : Bool) (x : Option Call) → r < length m.next → slice_index m.next r ≡ place → c ≢ place → holds_of (is_issued_call (after m (Issue r b)) c) x ≡ true → holds_of (is_issued_call m c) x ≡ true
issued_call_before m r place c b None within at differ h = absurd (cc)
issued_call_before m r place c b (Some x) within at differ h =
    elim (cases_eq x.rank r) [
      | inl e ↦
          let moved : slice_index (slice_set m.next r (slice_index m.next r + 1)) x.rank ≡ slice_index m.next r + 1 = ap (slice_index (slice_set m.next r (slice_index m.next r + 1))) e ∙ get_or-set_same m.next r (slice_index m.next r + 1) 0 within in
          let now : nat_lt c (slice_index m.next r + 1) ≡ true = rw moved at h in
          let here : slice_index m.next x.rank ≡ slice_index m.next r = ap (slice_index m.next) e in
          rw (here, at) (let later : nat_lt c (place + 1) ≡ true = rw at at now in grind (arith, nat_tests))
      | inr apart ↦ rw (get_or-set_other m.next r x.rank (slice_index m.next r + 1) 0 apart) at h
    ]

always_allowed : (k : Kind ℕ) (b : Bool) → is_standard_kind k ≡ true → may_be Always k b ≡ true → b ≡ true
always_allowed (Send Standard blocking message) b s h = h
always_allowed (Send Synchronous blocking message) b s h = absurd (cc)
always_allowed (Send Buffered blocking message) b s h = absurd (cc)
always_allowed (Receive blocking pattern) b s h = absurd (cc)
always_allowed (MatchedProbe pattern receive) b s h = absurd (cc)
always_allowed (Probe pattern) b s h = absurd (cc)
always_allowed (MatchedReceive blocking) b s h = absurd (cc)
always_allowed (Wait operation) b s h = absurd (cc)

allowed_at : (p : MpiProgram) (m : Configuration) (r : ℕ) (b : Bool) → can_issue p m r b ≡ true → (w : Issues p m r) → may_be p.policy w.call.kind b ≡ true
allowed_at p m r b h w =
    let one : holds_of (can_issue_call p m r b w.place) (call_at p w.place) ≡ true = subst (λ (z : Option ℕ). holds_of (can_issue_next p m r b) z ≡ true) w.next h in
    let two : holds_of (can_issue_call p m r b w.place) (Some w.call) ≡ true = subst (λ (z : Option Call). holds_of (can_issue_call p m r b w.place) z ≡ true) w.there one in
    (and_true (w.call.rank == r && has_returned_before p m r w.place) (may_be p.policy w.call.kind b) two).1

now_flagged : (p : MpiProgram) (m : Configuration) (r : ℕ) (b : Bool) → p.policy ≡ Always → can_issue p m r b ≡ true → length m.buffered ≡ length p.calls → (w : Issues p m r) → is_standard p w.place ≡ true → is_buffered (after m (Issue r b)) w.place ≡ true
now_flagged p m r b always can size w standard =
    let kind : is_standard_kind w.call.kind ≡ true = subst (λ (z : Option Call). is_standard_call z ≡ true) w.there standard in
    let on : b ≡ true = always_allowed w.call.kind b kind (subst (λ (z : Policy). may_be z w.call.kind b ≡ true) always (allowed_at p m r b can w)) in
    let n = next_is p m r w in
    let within : slice_index m.next r < length m.buffered = omega (arith, n, size, slice_get_within p.calls w.place w.call w.there) in
    unwrap_or-slice_get (slice_set m.buffered (slice_index m.next r) b) w.place false ∙
    ap (λ (z : ℕ). get_or (slice_set m.buffered (slice_index m.next r) b) z false) (sym n) ∙
    get_or-set_same m.buffered (slice_index m.next r) b false within ∙ on

flagged_step : (p : MpiProgram) (m : Configuration) (x : Step) (s : ℕ) → p.policy ≡ Always → length m.buffered ≡ length p.calls → IsEnabled p m x → is_standard p s ≡ true → (is_issued p m s ≡ true → is_buffered m s ≡ true) → is_issued p (after m x) s ≡ true → is_buffered (after m x) s ≡ true
flagged_step p m (Match a t) s always size enabled standard before h = before (same (call_at p s) h)
  where
    same : (o : Option Call) → holds_of (is_issued_call (after m (Match a t)) s) o ≡ true → holds_of (is_issued_call m s) o ≡ true
    same None h = h
    same (Some call) h = h
flagged_step p m (See a t) s always size enabled standard before h = before (same (call_at p s) h)
  where
    same : (o : Option Call) → holds_of (is_issued_call (after m (See a t)) s) o ≡ true → holds_of (is_issued_call m s) o ≡ true
    same None h = h
    same (Some call) h = h
flagged_step p m (Issue r b) s always size enabled standard before h =
    let w = issues p m r b enabled in
    elim (cases_eq s w.place) [
      | inl e ↦ ap (is_buffered (after m (Issue r b))) e ∙ now_flagged p m r b always enabled size w (ap (is_standard p) (sym e) ∙ standard)
      | inr differ ↦ other_unmoved p m r b s w differ ∙ before (issued_call_before m r w.place s b (call_at p s) (slice_get_within m.next r w.place w.next) (next_is p m r w) differ h)
    ]

flags_size : (p : MpiProgram) (m : Configuration) (x : Step) → length m.buffered ≡ length p.calls → length (after m x).buffered ≡ length p.calls
flags_size p m (Match s t) size = size
flags_size p m (See s t) size = size
flags_size p m (Issue r b) size = length-set m.buffered (slice_index m.next r) b ∙ size

flagged_all : (p : MpiProgram) (m : Configuration) (steps : List Step) (s : ℕ) → p.policy ≡ Always → length m.buffered ≡ length p.calls → IsRun p m steps → is_standard p s ≡ true → (is_issued p m s ≡ true → is_buffered m s ≡ true) → is_issued p (after_all m steps) s ≡ true → is_buffered (after_all m steps) s ≡ true
flagged_all p m [] s always size run standard before h = before h
flagged_all p m (x ∷ xs) s always size run standard before h =
    flagged_all p (after m x) xs s always (flags_size p m x size) run.1 standard (flagged_step p m x s always size run.0 standard before) h

is_always : (policy : Policy) → always_buffers policy ≡ true → policy ≡ Always
is_always Any h = absurd (cc)
is_always Never h = absurd (cc)
is_always Always h = refl

or_cases : (a b c : Bool) → (a || b && c) ≡ true → (b ≡ true → c ≡ true → a ≡ true) → a ≡ true
or_cases true b c h f = refl
or_cases false true c h f = f refl h
or_cases false false c h f = absurd (cc)

-- a send that is issued and counts as buffered is buffered
pub buffered_if_issued : (p : MpiProgram) (steps : List Step) (s : ℕ) → IsInRankOrder p → IsRun p (opening p) steps → is_issued p (after_all (opening p) steps) s ≡ true → (world_of p steps).has (buffered s) ≡ true → is_buffered (after_all (opening p) steps) s ≡ true
buffered_if_issued p steps s order run issued h =
    or_cases _ (always_buffers p.policy) (is_standard p s) h
    (λ always standard. flagged_all p (opening p) steps s (is_always p.policy always) (length-replicate (length p.calls) false) run standard (λ e. absurd (let w = issued_before p [] 0 s order tt e in omega (arith, w.before))) issued)

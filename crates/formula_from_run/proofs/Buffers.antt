-- Which sends are buffered in a run.
use Rattle.std.proofs.Common.{◌≡◌, ℕ, zero, suc, inl, inr, Bool, true, false, not, ◌&&◌, ◌||◌, List, [], ◌∷◌, Option, Some, None, length, replicate, slice_get, slice_set, slice_index, get_or, refl, sym, ap, ◌∙◌, subst, get_or-set_same, get_or-set_other}
use Rattle.std.specs.Option.{unwrap_or}
use Rattle.std.specs.List.{flat_map}
use Rattle.std.proofs.lemmas.Bool.{cases_eq, cases_lt}
use Rattle.std.proofs.lemmas.List.{set_past}
use Rattle.std.proofs.lemmas.Option.{unwrap_or-slice_get}
use Rattle.calltext.proofs.Conjunctions.{and_true}
use Rattle.calltext.specs.declared.call.Mode.TheVariants.{Standard, Synchronous, Buffered}
use Rattle.calltext.specs.declared.call.Policy.{Policy}
use Rattle.calltext.specs.declared.call.Policy.TheVariants.{Any, Never, Always}
use Rattle.callorder.specs.declared.calls.Call.{Call}
use Rattle.callorder.specs.declared.calls.Kind.{Kind}
use Rattle.callorder.specs.declared.calls.Kind.TheVariants.{Send, Receive, MatchedProbe, Probe, MatchedReceive, Wait}
use Rattle.callorder.specs.Programs.{MpiProgram, call_at}
use Rattle.callorder.specs.Calls.{holds_of}
use Rattle.semantics.specs.declared.state.Step.{Step}
use Rattle.semantics.specs.declared.state.Step.TheVariants.{Issue, Match, See}
use Rattle.semantics.specs.Machine.{Configuration, opening, after, after_all, IsRun, is_buffered, may_be, can_issue_next, can_issue_call}
use Rattle.candidates.specs.Pairs.{places}
use Rattle.formula.specs.Families.{buffered_under, is_standard, standard_sends}
use Rattle.formula_from_run.specs.Worlds.{always_buffers, clause_holds, clauses_hold, world_of}
use Rattle.formula_from_run.specs.Laws.{SendsAreBufferedAsAllowed}
use Rattle.formula.proofs.Elements.{and_both, or_right}
use Rattle.formula_from_run.proofs.Lists.{or_last, all_made_where}

-- ---- where a call is issued, the policy allows the choice of buffering

allowed_call : (p : MpiProgram) (m : Configuration) (r c : ℕ) (b : Bool) (x : Option Call) → holds_of (can_issue_call p m r b c) x ≡ true → (call : Call) × (may_be p.policy call.kind b ≡ true)
allowed_call p m r c b None h = absurd (cc)
allowed_call p m r c b (Some x) h = (x, (and_true _ (may_be p.policy x.kind b) h).1)

allowed_next : (p : MpiProgram) (m : Configuration) (r : ℕ) (b : Bool) (o : Option ℕ) → holds_of (can_issue_next p m r b) o ≡ true → (call : Call) × (may_be p.policy call.kind b ≡ true)
allowed_next p m r b None h = absurd (cc)
allowed_next p m r b (Some c) h = allowed_call p m r c b (call_at p c) h

not_true : (b : Bool) → not b ≡ true → b ≡ false
not_true true h = absurd (cc)
not_true false h = refl

never_allowed : (k : Kind ℕ) (b : Bool) → may_be Never k b ≡ true → b ≡ false
never_allowed (Send Standard blocking message) b h = not_true b h
never_allowed (Send Synchronous blocking message) b h = not_true b h
never_allowed (Send Buffered blocking message) b h = not_true b h
never_allowed (Receive blocking pattern) b h = not_true b h
never_allowed (MatchedProbe pattern receive) b h = not_true b h
never_allowed (Probe pattern) b h = not_true b h
never_allowed (MatchedReceive blocking) b h = not_true b h
never_allowed (Wait operation) b h = not_true b h

-- ---- under the policy that buffers no send none is buffered

buffered_is : (m : Configuration) (c : ℕ) → is_buffered m c ≡ get_or m.buffered c false
buffered_is m c = unwrap_or-slice_get m.buffered c false

unset : (flags : List Bool) (i c : ℕ) → get_or flags c false ≡ false → get_or (slice_set flags i false) c false ≡ false
unset flags i c h =
    elim (cases_lt i (length flags)) [
      | inl within ↦
          elim (cases_eq c i) [
            | inl e ↦ ap (λ (z : ℕ). get_or (slice_set flags i false) z false) e ∙ get_or-set_same flags i false false within
            | inr differ ↦ get_or-set_other flags i c false false differ ∙ h
          ]
      | inr past ↦ ap (λ (l : List Bool). get_or l c false) (set_past flags i false past) ∙ h
    ]

none_step : (p : MpiProgram) (m : Configuration) (x : Step) (xs : List Step) (c : ℕ) → p.policy ≡ Never → IsRun p m (x ∷ xs) → is_buffered m c ≡ false → is_buffered (after m x) c ≡ false
none_step p m (Match s t) xs c never run h = h
none_step p m (See s t) xs c never run h = h
none_step p m (Issue r b) xs c never run h =
    let w = allowed_next p m r b (slice_get m.next r) run.0 in
    let off : b ≡ false = never_allowed w.0.kind b (subst (λ (z : Policy). may_be z w.0.kind b ≡ true) never w.1) in
    ap (λ (z : Bool). is_buffered (after m (Issue r z)) c) off ∙
    buffered_is (after m (Issue r false)) c ∙
    unset m.buffered (slice_index m.next r) c (sym (buffered_is m c) ∙ h)

none_buffered : (p : MpiProgram) (m : Configuration) (steps : List Step) (c : ℕ) → p.policy ≡ Never → IsRun p m steps → is_buffered m c ≡ false → is_buffered (after_all m steps) c ≡ false
none_buffered p m [] c never run h = h
none_buffered p m (x ∷ xs) c never run h = none_buffered p (after m x) xs c never run.1 (none_step p m x xs c never run h)

pub opening_unbuffered : (p : MpiProgram) (c : ℕ) → is_buffered (opening p) c ≡ false
opening_unbuffered p c = none_yet (length p.calls) c
  where
    none_yet : (n c : ℕ) → unwrap_or (slice_get (replicate n false) c) false ≡ false
    none_yet zero c = refl
    none_yet (suc n) zero = refl
    none_yet (suc n) (suc c) = none_yet n c

-- ---- the clauses

neither : (a b c : Bool) → a ≡ false → b ≡ false → not (a || b && c) ≡ true
neither true b c e f = absurd (cc)
neither false true c e f = absurd (cc)
neither false false c e f = refl

pub sends_are_buffered_as_allowed : SendsAreBufferedAsAllowed
sends_are_buffered_as_allowed p steps program run = under p.policy refl
  where
    one : (policy : Policy) → p.policy ≡ policy → (s : ℕ) → is_standard p s ≡ true → clauses_hold (world_of p steps) (buffered_under policy s) ≡ true
    one Any e s standard = refl
    one Never e s standard =
        and_both _ _ (or_last _ (neither (is_buffered (after_all (opening p) steps) s) (always_buffers p.policy) (is_standard p s) (none_buffered p (opening p) steps s e run (opening_unbuffered p s)) (ap always_buffers e))) refl
    one Always e s standard =
        and_both _ _ (or_last _ (or_right (is_buffered (after_all (opening p) steps) s) _ (and_both (always_buffers p.policy) (is_standard p s) (ap always_buffers e) standard))) refl

    under : (policy : Policy) → p.policy ≡ policy → clauses_hold (world_of p steps) (flat_map (buffered_under policy) (standard_sends p)) ≡ true
    under policy e = all_made_where (clause_holds (world_of p steps)) (buffered_under policy) (is_standard p) (places p) (one policy e)

-- When a call has returned, as the clauses say it.
use Rattle.std.proofs.Common.{◌≡◌, ℕ, Bool, true, false, not, ◌||◌, Option, Some, None, refl, sym, ap, ◌∙◌, subst}
use Rattle.calltext.specs.declared.call.Mode.TheVariants.{Standard, Synchronous, Buffered}
use Rattle.callorder.specs.declared.calls.Call.{Call}
use Rattle.callorder.specs.declared.calls.Message.{Message}
use Rattle.callorder.specs.declared.calls.Pattern.{Pattern}
use Rattle.callorder.specs.declared.calls.Kind.{Kind}
use Rattle.callorder.specs.declared.calls.Kind.TheVariants.{Send, Receive, MatchedProbe, Probe, MatchedReceive, Wait}
use Rattle.callorder.specs.Calls.{fits_between, message_of, pattern_of, both_hold, fits}
use Rattle.callorder.specs.ProgramRules.{IsProgram}
use Rattle.callorder.specs.Programs.{MpiProgram, call_at, are_fit, kind_holds}
use Rattle.semantics.specs.Machine.{Configuration, is_buffered, is_matched, is_fetched, is_done, is_done_kind, is_returned, is_returned_kind}
use Rattle.formula.specs.declared.facts.Condition.{Condition}
use Rattle.formula.specs.declared.facts.Condition.TheVariants.{AtOnce as at_once, IfMatched as if_matched, IfFetched as if_fetched, IfBufferedOrFetched as if_buffered_or_fetched}
use Rattle.formula.specs.Families.{when_done, when_done_call, when_done_kind, if_blocking, when_returned, when_returned_call, when_returned_kind}

-- the condition holds in the configuration
abbrev pub condition_holds : MpiProgram → Configuration → Condition → Bool
condition_holds p m at_once = true
condition_holds p m (if_matched taker) = is_matched m taker
condition_holds p m (if_fetched send) = is_fetched p m send
condition_holds p m (if_buffered_or_fetched send) = is_buffered m send || is_fetched p m send

done_kind : (p : MpiProgram) (m : Configuration) (o : ℕ) (k : Kind ℕ) → is_done_kind p m o k ≡ condition_holds p m (when_done_kind k o)
done_kind p m o (Send Standard blocking message) = refl
done_kind p m o (Send Synchronous blocking message) = refl
done_kind p m o (Send Buffered blocking message) = refl
done_kind p m o (Receive blocking pattern) = refl
done_kind p m o (MatchedProbe pattern receive) = refl
done_kind p m o (Probe pattern) = refl
done_kind p m o (MatchedReceive blocking) = refl
done_kind p m o (Wait operation) = refl

done_is : (p : MpiProgram) (m : Configuration) (o : ℕ) (call : Call) → call_at p o ≡ Some call → is_done p m o ≡ condition_holds p m (when_done p o)
done_is p m o call there = by_call (call_at p o) there
  where
    by_call : (x : Option Call) → x ≡ Some call → kind_holds (is_done_kind p m o) x ≡ condition_holds p m (when_done_call x o)
    by_call None e = absurd (cc)
    by_call (Some x) e = done_kind p m o x.kind

blocking_is : (p : MpiProgram) (m : Configuration) (b d : Bool) (k : Condition) → d ≡ condition_holds p m k → (not b || d) ≡ condition_holds p m (if_blocking b k)
blocking_is p m true d k e = e
blocking_is p m false d k e = refl

returned_kind : (p : MpiProgram) (m : Configuration) (c : ℕ) (k : Kind ℕ) → is_done p m c ≡ condition_holds p m (when_done p c) → ((o : ℕ) → k ≡ Wait o → is_done p m o ≡ condition_holds p m (when_done p o)) → is_returned_kind p m c k ≡ condition_holds p m (when_returned_kind p k c)
returned_kind p m c (Send mode blocking message) own other = blocking_is p m blocking (is_done p m c) (when_done p c) own
returned_kind p m c (Receive blocking pattern) own other = blocking_is p m blocking (is_done p m c) (when_done p c) own
returned_kind p m c (MatchedProbe pattern receive) own other = own
returned_kind p m c (Probe pattern) own other = own
returned_kind p m c (MatchedReceive blocking) own other = refl
returned_kind p m c (Wait operation) own other = other operation refl

-- a call of a program has returned where its condition holds
pub returned_is : (p : MpiProgram) (m : Configuration) (c : ℕ) (call : Call) → IsProgram p → call_at p c ≡ Some call → is_returned p m c ≡ condition_holds p m (when_returned p c)
returned_is p m c call program there = by_call (call_at p c) there
  where
    waited : (o : ℕ) → call.kind ≡ Wait o → is_done p m o ≡ condition_holds p m (when_done p o)
    waited o e =
        let other = program.waits.named c o call there (rw e refl) in
        done_is p m o other.0 other.1

    by_call : (x : Option Call) → x ≡ Some call → kind_holds (is_returned_kind p m c) x ≡ condition_holds p m (when_returned_call p x c)
    by_call None e = absurd (cc)
    by_call (Some x) e =
        let same : x ≡ call = cc in
        returned_kind p m c x.kind (done_is p m c call there) (λ o is. waited o (ap (λ (z : Call). z.kind) (sym same) ∙ is))

-- ---- whom a condition names

-- the condition names a taker that is no send, or a send that is no taker
abbrev pub NamesRightly : MpiProgram → Condition → Type 0
NamesRightly p at_once = Unit {0}
NamesRightly p (if_matched taker) = (t : ℕ) → are_fit p taker t ≡ true → ⊥
NamesRightly p (if_fetched send) = (s : ℕ) → are_fit p s send ≡ true → ⊥
NamesRightly p (if_buffered_or_fetched send) = (s : ℕ) → are_fit p s send ≡ true → ⊥

no_message : (x : Call) (t : Option Call) → message_of x.kind ≡ None → both_hold fits (Some x) t ≡ true → ⊥
no_message x None e h = cc
no_message x (Some y) e h =
    let g : fits_between x.rank None y.rank (pattern_of y.kind) ≡ true = subst (λ (z : Option Message). fits_between x.rank z y.rank (pattern_of y.kind) ≡ true) e h in
    cc

nothing_fits : (r q : ℕ) (message : Option Message) → fits_between r message q None ≡ true → ⊥
nothing_fits r q None h = cc
nothing_fits r q (Some message) h = cc

pub no_pattern : (x : Call) (s : Option Call) → pattern_of x.kind ≡ None → both_hold fits s (Some x) ≡ true → ⊥
no_pattern x None e h = cc
no_pattern x (Some y) e h =
    nothing_fits y.rank x.rank (message_of y.kind) (subst (λ (z : Option Pattern). fits_between y.rank (message_of y.kind) x.rank z ≡ true) e h)

names_kind : (p : MpiProgram) (o : ℕ) (k : Kind ℕ) → (message_of k ≡ None → (t : ℕ) → are_fit p o t ≡ true → ⊥) → (pattern_of k ≡ None → (s : ℕ) → are_fit p s o ≡ true → ⊥) → NamesRightly p (when_done_kind k o)
names_kind p o (Send Standard blocking message) no_send no_taker = no_taker refl
names_kind p o (Send Synchronous blocking message) no_send no_taker = no_taker refl
names_kind p o (Send Buffered blocking message) no_send no_taker = tt
names_kind p o (Receive blocking pattern) no_send no_taker = no_send refl
names_kind p o (MatchedProbe pattern receive) no_send no_taker = no_send refl
names_kind p o (Probe pattern) no_send no_taker = no_send refl
names_kind p o (MatchedReceive blocking) no_send no_taker = tt
names_kind p o (Wait operation) no_send no_taker = tt

names_done : (p : MpiProgram) (o : ℕ) (call : Call) → call_at p o ≡ Some call → NamesRightly p (when_done p o)
names_done p o call there = by_call (call_at p o) there
  where
    by_call : (x : Option Call) → x ≡ Some call → NamesRightly p (when_done_call x o)
    by_call None e = absurd (cc)
    by_call (Some x) e =
        let is : call_at p o ≡ Some x = there ∙ sym e in
        names_kind p o x.kind (λ none t fit. no_message x (call_at p t) none (subst (λ (z : Option Call). both_hold fits z (call_at p t) ≡ true) is fit)) (λ none s fit. no_pattern x (call_at p s) none (subst (λ (z : Option Call). both_hold fits (call_at p s) z ≡ true) is fit))

names_if_blocking : (p : MpiProgram) (b : Bool) (k : Condition) → NamesRightly p k → NamesRightly p (if_blocking b k)
names_if_blocking p true k h = h
names_if_blocking p false k h = tt

names_returned_kind : (p : MpiProgram) (c : ℕ) (k : Kind ℕ) → NamesRightly p (when_done p c) → ((o : ℕ) → k ≡ Wait o → NamesRightly p (when_done p o)) → NamesRightly p (when_returned_kind p k c)
names_returned_kind p c (Send mode blocking message) own other = names_if_blocking p blocking (when_done p c) own
names_returned_kind p c (Receive blocking pattern) own other = names_if_blocking p blocking (when_done p c) own
names_returned_kind p c (MatchedProbe pattern receive) own other = own
names_returned_kind p c (Probe pattern) own other = own
names_returned_kind p c (MatchedReceive blocking) own other = tt
names_returned_kind p c (Wait operation) own other = other operation refl

pub names_rightly : (p : MpiProgram) (c : ℕ) (call : Call) → IsProgram p → call_at p c ≡ Some call → NamesRightly p (when_returned p c)
names_rightly p c call program there = by_call (call_at p c) there
  where
    waited : (o : ℕ) → call.kind ≡ Wait o → NamesRightly p (when_done p o)
    waited o e =
        let other = program.waits.named c o call there (rw e refl) in
        names_done p o other.0 other.1

    by_call : (x : Option Call) → x ≡ Some call → NamesRightly p (when_returned_call p x c)
    by_call None e = absurd (cc)
    by_call (Some x) e =
        let same : x ≡ call = cc in
        names_returned_kind p c x.kind (names_done p c call there) (λ o is. waited o (ap (λ (z : Call). z.kind) (sym same) ∙ is))

-- Where more partners are known, and more of a finder, no less of it is told.
use Rattle.std.proofs.Common.{◌≡◌, ℕ, zero, suc, Bool, true, false, ◌||◌, ◌==◌, Option, Some, None, refl, sym, subst}
use Rattle.calltext.specs.declared.call.Mode.TheVariants.{Standard, Synchronous, Buffered}
use Rattle.callorder.specs.declared.calls.Call.{Call}
use Rattle.callorder.specs.declared.calls.Kind.{Kind}
use Rattle.callorder.specs.declared.calls.Kind.TheVariants.{Send, Receive, MatchedProbe, Probe, MatchedReceive, Wait}
use Rattle.callorder.specs.Programs.{MpiProgram, call_at, are_of_one_rank}
use Rattle.semantics.specs.Machine.{Configuration, partner_of}
use Rattle.races.specs.Races.{MatchesWithin}
use Rattle.races.specs.Tells.{Table, knows_at, tells_find, tells_receive, tells_receive_kind, tells_fetch, tells_fetch_by, never_buffers, tells_done, tells_done_call, tells_done_kind, tells_return_call, tells_return_kind, tells_issue, IsJustified}
use Rattle.knowledge.proofs.Less.{Within, and_more, or_both}

or_left : (a b : Bool) → a ≡ true → (a || b) ≡ true
or_left true b h = refl
or_left false b h = absurd (cc)

or_right : (a b : Bool) → b ≡ true → (a || b) ≡ true
or_right true b h = refl
or_right false b h = h

-- the second may be more than the first
abbrev StaysIn : Option ℕ → Option ℕ → Type 0
StaysIn o q = (x : ℕ) → o ≡ Some x → q ≡ Some x

module _ (p : MpiProgram) (m e : Configuration) (a b : Table) (f : ℕ) (within : MatchesWithin m e) (less : Within f a b) where
  at_more : (o q : Option ℕ) → StaysIn o q → knows_at a o f ≡ true → knows_at b q f ≡ true
  at_more None q stays h = absurd (cc)
  at_more (Some c) q stays h = subst (λ (z : Option ℕ). knows_at b z f ≡ true) (sym (stays c refl)) (less c h)

  find_more : (t : ℕ) → tells_find m a t f ≡ true → tells_find e b t f ≡ true
  find_more t h =
      or_both (f == t) (a t f || knows_at a (partner_of m t) f) (f == t) (b t f || knows_at b (partner_of e t) f) (λ same. same)
      (or_both (a t f) (knows_at a (partner_of m t) f) (b t f) (knows_at b (partner_of e t) f) (less t)
      (at_more (partner_of m t) (partner_of e t) (within t))) h

  receive_kind_more : (k : Kind ℕ) → tells_receive_kind a k f ≡ true → tells_receive_kind b k f ≡ true
  receive_kind_more (MatchedProbe pattern receive) h = less receive h
  receive_kind_more kind h = h

  receive_more : (o : Option Call) → tells_receive a o f ≡ true → tells_receive b o f ≡ true
  receive_more None h = h
  receive_more (Some call) h = receive_kind_more call.kind h

  fetch_more : (o q : Option ℕ) → StaysIn o q → tells_fetch_by p m a o f ≡ true → tells_fetch_by p e b q f ≡ true
  fetch_more None q stays h = absurd (cc)
  fetch_more (Some t) q stays h =
      subst (λ (z : Option ℕ). tells_fetch_by p e b z f ≡ true) (sym (stays t refl))
      (or_both (tells_find m a t f) (tells_receive a (call_at p t) f) (tells_find e b t f) (tells_receive b (call_at p t) f) (find_more t)
      (receive_more (call_at p t)) h)

  done_kind_more : (c : ℕ) (k : Kind ℕ) → tells_done_kind p m a c k f ≡ true → tells_done_kind p e b c k f ≡ true
  done_kind_more c (Send Standard blocking message) h =
      and_more (never_buffers p.policy) (tells_fetch p m a c f) (tells_fetch p e b c f) (fetch_more (partner_of m c) (partner_of e c) (within c)) h
  done_kind_more c (Send Synchronous blocking message) h = fetch_more (partner_of m c) (partner_of e c) (within c) h
  done_kind_more c (Send Buffered blocking message) h = h
  done_kind_more c (Receive blocking pattern) h = find_more c h
  done_kind_more c (MatchedProbe pattern receive) h = find_more c h
  done_kind_more c (Probe pattern) h = find_more c h
  done_kind_more c (MatchedReceive blocking) h = h
  done_kind_more c (Wait operation) h = h

  done_call_more : (c : ℕ) (o : Option Call) → tells_done_call p m a c o f ≡ true → tells_done_call p e b c o f ≡ true
  done_call_more c None h = h
  done_call_more c (Some call) h = done_kind_more c call.kind h

  done_more : (c : ℕ) → tells_done p m a c f ≡ true → tells_done p e b c f ≡ true
  done_more c h = done_call_more c (call_at p c) h

  return_kind_more : (c : ℕ) (k : Kind ℕ) → tells_return_kind p m a c k f ≡ true → tells_return_kind p e b c k f ≡ true
  return_kind_more c (Send mode blocking message) h = and_more blocking (tells_done p m a c f) (tells_done p e b c f) (done_more c) h
  return_kind_more c (Receive blocking pattern) h = and_more blocking (tells_done p m a c f) (tells_done p e b c f) (done_more c) h
  return_kind_more c (MatchedProbe pattern receive) h = done_more c h
  return_kind_more c (Probe pattern) h = done_more c h
  return_kind_more c (MatchedReceive blocking) h = h
  return_kind_more c (Wait operation) h = done_more operation h

  pub return_more : (c : ℕ) (o : Option Call) → tells_return_call p m a c o f ≡ true → tells_return_call p e b c o f ≡ true
  return_more c None h = h
  return_more c (Some call) h = return_kind_more c call.kind h

  issue_more : (c : ℕ) → tells_issue p m a c f ≡ true → tells_issue p e b c f ≡ true
  issue_more zero h = h
  issue_more (suc c) h =
      and_more (are_of_one_rank p c (suc c)) (a c f || tells_return_call p m a c (call_at p c) f) (b c f || tells_return_call p e b c (call_at p c) f)
      (or_both (a c f) (tells_return_call p m a c (call_at p c) f) (b c f) (tells_return_call p e b c (call_at p c) f) (less c) (return_more c (call_at p c))) h

-- what some partners justify, more of them justify too
pub justified_more : (p : MpiProgram) (m e : Configuration) (knows : Table) → MatchesWithin m e → IsJustified p m knows → IsJustified p e knows
justified_more p m e knows within justified c f h = issue_more p m e knows knows f within (λ d k. k) c (justified c f h)

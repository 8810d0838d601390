-- Where less is known of a finder, no more of it is told.
use Rattle.std.proofs.Common.{◌≡◌, ℕ, zero, suc, ◌⊎◌, inl, inr, Bool, true, false, ◌&&◌, ◌||◌, ◌==◌, Option, Some, None, refl}
use Rattle.std.proofs.lemmas.Bool.{or_cases}
use Rattle.calltext.specs.declared.call.Mode.TheVariants.{Standard, Synchronous, Buffered}
use Rattle.calltext.proofs.Conjunctions.{and_true, and_both}
use Rattle.callorder.specs.declared.calls.Call.{Call}
use Rattle.callorder.specs.declared.calls.Kind.{Kind}
use Rattle.callorder.specs.declared.calls.Kind.TheVariants.{Send, Receive, MatchedProbe, Probe, MatchedReceive, Wait}
use Rattle.callorder.specs.Programs.{MpiProgram, call_at, are_of_one_rank}
use Rattle.semantics.specs.Machine.{Configuration, partner_of}
use Rattle.races.specs.Tells.{Table, knows_at, tells_find, tells_receive, tells_receive_kind, tells_fetch, tells_fetch_by, never_buffers, tells_done, tells_done_call, tells_done_kind, tells_return_call, tells_return_kind, tells_issue, IsJustified}
use Rattle.knowledge.specs.Knowledge.{TellsLessByLess, UnionsAreJustified, ColumnsAreJustified, union, column}

-- the second table knows of the finder what the first one does
abbrev pub Within : ℕ → Table → Table → Type 0
Within f a b = (c : ℕ) → a c f ≡ true → b c f ≡ true

or_left : (a b : Bool) → a ≡ true → (a || b) ≡ true
or_left true b h = refl
or_left false b h = absurd (cc)

or_right : (a b : Bool) → b ≡ true → (a || b) ≡ true
or_right true b h = refl
or_right false b h = h

pub or_both : (a b c d : Bool) → (a ≡ true → c ≡ true) → (b ≡ true → d ≡ true) → (a || b) ≡ true → (c || d) ≡ true
or_both true b c d left right h = or_left c d (left refl)
or_both false b c d left right h = or_right c d (right h)

pub and_more : (a b c : Bool) → (b ≡ true → c ≡ true) → (a && b) ≡ true → (a && c) ≡ true
and_more true b c more h = more h
and_more false b c more h = h

at_less : (a b : Table) (f : ℕ) → Within f a b → (o : Option ℕ) → knows_at a o f ≡ true → knows_at b o f ≡ true
at_less a b f w None h = h
at_less a b f w (Some c) h = w c h

find_less : (e : Configuration) (a b : Table) (f : ℕ) → Within f a b → (t : ℕ) → tells_find e a t f ≡ true → tells_find e b t f ≡ true
find_less e a b f w t h =
    or_both (f == t) (a t f || knows_at a (partner_of e t) f) (f == t) (b t f || knows_at b (partner_of e t) f) (λ same. same)
    (or_both (a t f) (knows_at a (partner_of e t) f) (b t f) (knows_at b (partner_of e t) f) (w t) (at_less a b f w (partner_of e t))) h

receive_less : (a b : Table) (f : ℕ) → Within f a b → (o : Option Call) → tells_receive a o f ≡ true → tells_receive b o f ≡ true
receive_less a b f w None h = h
receive_less a b f w (Some call) h = by call.kind h
  where
    by : (k : Kind ℕ) → tells_receive_kind a k f ≡ true → tells_receive_kind b k f ≡ true
    by (MatchedProbe pattern receive) h = w receive h
    by kind h = h

fetch_less : (p : MpiProgram) (e : Configuration) (a b : Table) (f : ℕ) → Within f a b → (o : Option ℕ) → tells_fetch_by p e a o f ≡ true → tells_fetch_by p e b o f ≡ true
fetch_less p e a b f w None h = h
fetch_less p e a b f w (Some t) h =
    or_both (tells_find e a t f) (tells_receive a (call_at p t) f) (tells_find e b t f) (tells_receive b (call_at p t) f)
    (find_less e a b f w t) (receive_less a b f w (call_at p t)) h

done_kind_less : (p : MpiProgram) (e : Configuration) (a b : Table) (f : ℕ) → Within f a b → (c : ℕ) (k : Kind ℕ) → tells_done_kind p e a c k f ≡ true → tells_done_kind p e b c k f ≡ true
done_kind_less p e a b f w c (Send Standard blocking message) h =
    and_more (never_buffers p.policy) (tells_fetch p e a c f) (tells_fetch p e b c f) (fetch_less p e a b f w (partner_of e c)) h
done_kind_less p e a b f w c (Send Synchronous blocking message) h = fetch_less p e a b f w (partner_of e c) h
done_kind_less p e a b f w c (Send Buffered blocking message) h = h
done_kind_less p e a b f w c (Receive blocking pattern) h = find_less e a b f w c h
done_kind_less p e a b f w c (MatchedProbe pattern receive) h = find_less e a b f w c h
done_kind_less p e a b f w c (Probe pattern) h = find_less e a b f w c h
done_kind_less p e a b f w c (MatchedReceive blocking) h = h
done_kind_less p e a b f w c (Wait operation) h = h

done_less : (p : MpiProgram) (e : Configuration) (a b : Table) (f : ℕ) → Within f a b → (c : ℕ) → tells_done p e a c f ≡ true → tells_done p e b c f ≡ true
done_less p e a b f w c h = by (call_at p c) h
  where
    by : (o : Option Call) → tells_done_call p e a c o f ≡ true → tells_done_call p e b c o f ≡ true
    by None h = h
    by (Some call) h = done_kind_less p e a b f w c call.kind h

return_kind_less : (p : MpiProgram) (e : Configuration) (a b : Table) (f : ℕ) → Within f a b → (c : ℕ) (k : Kind ℕ) → tells_return_kind p e a c k f ≡ true → tells_return_kind p e b c k f ≡ true
return_kind_less p e a b f w c (Send mode blocking message) h = and_more blocking (tells_done p e a c f) (tells_done p e b c f) (done_less p e a b f w c) h
return_kind_less p e a b f w c (Receive blocking pattern) h = and_more blocking (tells_done p e a c f) (tells_done p e b c f) (done_less p e a b f w c) h
return_kind_less p e a b f w c (MatchedProbe pattern receive) h = done_less p e a b f w c h
return_kind_less p e a b f w c (Probe pattern) h = done_less p e a b f w c h
return_kind_less p e a b f w c (MatchedReceive blocking) h = h
return_kind_less p e a b f w c (Wait operation) h = done_less p e a b f w operation h

return_less : (p : MpiProgram) (e : Configuration) (a b : Table) (f : ℕ) → Within f a b → (c : ℕ) (o : Option Call) → tells_return_call p e a c o f ≡ true → tells_return_call p e b c o f ≡ true
return_less p e a b f w c None h = h
return_less p e a b f w c (Some call) h = return_kind_less p e a b f w c call.kind h

pub issue_less : TellsLessByLess
issue_less p e a b f w zero h = h
issue_less p e a b f w (suc c) h =
    and_more (are_of_one_rank p c (suc c)) (a c f || tells_return_call p e a c (call_at p c) f) (b c f || tells_return_call p e b c (call_at p c) f)
    (or_both (a c f) (tells_return_call p e a c (call_at p c) f) (b c f) (tells_return_call p e b c (call_at p c) f) (w c) (return_less p e a b f w c (call_at p c))) h

pub union_justified : UnionsAreJustified
union_justified p e a b first second c f h =
    elim (or_cases (a c f) (b c f) h) [
      | inl known ↦ issue_less p e a (union a b) f (λ d k. or_left (a d f) (b d f) k) c (first c f known)
      | inr known ↦ issue_less p e b (union a b) f (λ d k. or_right (a d f) (b d f) k) c (second c f known)
    ]

pub column_justified : ColumnsAreJustified
column_justified p e a finder justified c f h =
    let parts = and_true (f == finder) (a c f) h in
    issue_less p e a (column finder a) f (λ d k. and_both (f == finder) (a d f) parts.0 k) c (justified c f parts.1)

-- Spans of calls are blocks.
use Rattle.std.proofs.Common.{◌≡◌, ℕ, zero, suc, ◌<◌, ◌≤◌, inl, inr, true, false, Option, Some, None, is_some, refl, sym, ap, ◌∙◌, subst, arith}
use Rattle.std.proofs.lemmas.Bool.{cases_lt}
use Rattle.calltext.specs.declared.call.Mode.TheVariants.{Standard, Synchronous, Buffered}
use Rattle.callorder.specs.declared.calls.Call.{Call}
use Rattle.callorder.specs.declared.calls.Kind.{Kind}
use Rattle.callorder.specs.declared.calls.Kind.TheVariants.{Send, Receive, MatchedProbe, Probe, MatchedReceive, Wait}
use Rattle.callorder.specs.Calls.{pattern_of, is_probe_kind}
use Rattle.callorder.specs.Programs.{MpiProgram, call_at, are_of_one_rank, are_fit, is_probe, kind_holds}
use Rattle.semantics.specs.Machine.{Configuration, is_matched, is_returned, is_returned_kind, is_done_kind}
use Rattle.races.specs.Blocks.{Blocks, is_finder, is_finder_call}
use Rattle.races.proofs.Steps.{one_rank, one_rank_made}
use Rattle.clocks.specs.Spans.{is_done_at_once_call, is_done_at_once_kind, returns_at_once, returns_at_once_call, returns_at_once_kind, is_receive_kind, is_receive_call, IsMember, IsJoined, AreSpans, SpansAreBlocks}

pub name_below : (p : MpiProgram) (block : Blocks) (c : ℕ) → AreSpans p block → block c ≤ c
name_below p block zero spans = let e = spans.first in omega (arith, e)
name_below p block (suc c) spans =
    elim (spans.next c) [
      | inl w ↦ let e = w.1 in omega (arith, e, name_below p block c spans)
      | inr e ↦ omega (arith, e)
    ]

-- from the first call of a span up to any call of it, each call has its name
pub named_from : (p : MpiProgram) (block : Blocks) (g c : ℕ) → AreSpans p block → block g ≤ c → c ≤ g → block c ≡ block g
named_from p block zero c spans from upto = let at : c ≡ zero = omega (arith, upto) in ap block at
named_from p block (suc b) c spans from upto =
    elim (cases_lt c (suc b)) [
      | inr ge ↦ let at : c ≡ suc b = omega (arith, ge, upto) in ap block at
      | inl lt ↦
          elim (spans.next b) [
            | inr e ↦ absurd (omega (arith, e, from, lt))
            | inl w ↦ named_from p block b c spans (let e = w.1 in omega (arith, e, from)) (omega (arith, lt)) ∙ sym w.1
          ]
    ]

-- between two of one name each call has that name and is joined to the next one
pub chain : (p : MpiProgram) (block : Blocks) (f g c : ℕ) → AreSpans p block → f ≤ c → c < g → block f ≡ block g → IsJoined p block c × (block c ≡ block f)
chain p block f zero c spans from lt same = absurd (omega (arith, lt))
chain p block f (suc b) c spans from lt same =
    elim (spans.next b) [
      | inr e ↦ absurd (omega (arith, e, same, from, lt, name_below p block f spans))
      | inl w ↦
          elim (cases_lt c b) [
            | inl below ↦ chain p block f b c spans from below (same ∙ w.1)
            | inr ge ↦ let at : b ≡ c = omega (arith, ge, lt) in subst (λ (z : ℕ). IsJoined p block z × (block z ≡ block f)) at (w.0, sym (same ∙ w.1))
          ]
    ]

same_call : (o : Option Call) (x y : Call) → o ≡ Some x → o ≡ Some y → x ≡ y
same_call o x y a b = cc (a, b)

-- two of one name are of one rank
one_span : (p : MpiProgram) (block : Blocks) (f g : ℕ) → AreSpans p block → f < g → block f ≡ block g → are_of_one_rank p f g ≡ true
one_span p block f zero spans lt same = absurd (omega (arith, lt))
one_span p block f (suc b) spans lt same =
    let last = chain p block f (suc b) b spans (omega (arith, lt)) (omega arith) same in
    elim (cases_lt f b) [
      | inl below ↦
          let one = one_rank p f b (one_span p block f b spans below (sym last.1)) in
          let two = one_rank p b (suc b) last.0.one in
          one_rank_made p f (suc b) one.0 two.1 one.2 two.3 (one.4 ∙ ap (λ (z : Call). z.rank) (same_call (call_at p b) one.1 two.0 one.3 two.2) ∙ two.4)
      | inr ge ↦ let at : b ≡ f = omega (arith, ge, lt) in subst (λ (z : ℕ). are_of_one_rank p z (suc b) ≡ true) at last.0.one
    ]

-- the last of two of one name may stand in its span
last_member : (p : MpiProgram) (block : Blocks) (f g : ℕ) → AreSpans p block → f < g → block f ≡ block g → IsMember p block g
last_member p block f zero spans lt same = absurd (omega (arith, lt))
last_member p block f (suc b) spans lt same = (chain p block f (suc b) b spans (omega (arith, lt)) (omega arith) same).0.next

done_at_once_kind : (p : MpiProgram) (m : Configuration) (c : ℕ) (k : Kind ℕ) → is_done_at_once_kind k ≡ true → is_done_kind p m c k ≡ true
done_at_once_kind p m c (Send Standard blocking message) h = absurd (cc)
done_at_once_kind p m c (Send Synchronous blocking message) h = absurd (cc)
done_at_once_kind p m c (Send Buffered blocking message) h = refl
done_at_once_kind p m c (Receive blocking pattern) h = absurd (cc)
done_at_once_kind p m c (MatchedProbe pattern receive) h = absurd (cc)
done_at_once_kind p m c (Probe pattern) h = absurd (cc)
done_at_once_kind p m c (MatchedReceive blocking) h = refl
done_at_once_kind p m c (Wait operation) h = absurd (cc)

done_at_once : (p : MpiProgram) (m : Configuration) (c : ℕ) (o : Option Call) → is_done_at_once_call o ≡ true → kind_holds (is_done_kind p m c) o ≡ true
done_at_once p m c None h = absurd (cc)
done_at_once p m c (Some call) h = done_at_once_kind p m c call.kind h

returned_at_once_kind : (p : MpiProgram) (m : Configuration) (c : ℕ) (call : Call) (k : Kind ℕ) → call_at p c ≡ Some call → call.kind ≡ k → returns_at_once_kind p k ≡ true → is_returned_kind p m c k ≡ true
returned_at_once_kind p m c call (Send mode false message) there is h = refl
returned_at_once_kind p m c call (Send mode true message) there is h = done_at_once p m c (call_at p c) (ap is_done_at_once_call there ∙ ap is_done_at_once_kind is ∙ h)
returned_at_once_kind p m c call (Receive false pattern) there is h = refl
returned_at_once_kind p m c call (Receive true pattern) there is h = absurd (cc)
returned_at_once_kind p m c call (MatchedProbe pattern receive) there is h = absurd (cc)
returned_at_once_kind p m c call (Probe pattern) there is h = absurd (cc)
returned_at_once_kind p m c call (MatchedReceive blocking) there is h = refl
returned_at_once_kind p m c call (Wait operation) there is h = done_at_once p m operation (call_at p operation) h

-- what returns at once has returned wherever it is issued
pub returned_at_once : (p : MpiProgram) (m : Configuration) (c : ℕ) → returns_at_once p c ≡ true → is_returned p m c ≡ true
returned_at_once p m c h = by (call_at p c) refl h
  where
    by : (o : Option Call) → call_at p c ≡ o → returns_at_once_call p o ≡ true → kind_holds (is_returned_kind p m c) o ≡ true
    by None there h = absurd (cc)
    by (Some call) there h = returned_at_once_kind p m c call call.kind there refl h

returned_finder_kind : (p : MpiProgram) (m : Configuration) (c : ℕ) (call : Call) (k : Kind ℕ) → call_at p c ≡ Some call → call.kind ≡ k → is_some (pattern_of k) ≡ true → is_probe_kind k ≡ false → is_matched m c ≡ true → is_returned_kind p m c k ≡ true
returned_finder_kind p m c call (Send mode blocking message) there is finder taker matched = absurd (cc)
returned_finder_kind p m c call (Receive false pattern) there is finder taker matched = refl
returned_finder_kind p m c call (Receive true pattern) there is finder taker matched = ap (kind_holds (is_done_kind p m c)) there ∙ ap (is_done_kind p m c) is ∙ matched
returned_finder_kind p m c call (MatchedProbe pattern receive) there is finder taker matched = ap (kind_holds (is_done_kind p m c)) there ∙ ap (is_done_kind p m c) is ∙ matched
returned_finder_kind p m c call (Probe pattern) there is finder taker matched = absurd (cc)
returned_finder_kind p m c call (MatchedReceive blocking) there is finder taker matched = absurd (cc)
returned_finder_kind p m c call (Wait operation) there is finder taker matched = absurd (cc)

-- a taker that has found has returned
returned_finder : (p : MpiProgram) (m : Configuration) (c : ℕ) → is_finder p c ≡ true → is_probe p c ≡ false → is_matched m c ≡ true → is_returned p m c ≡ true
returned_finder p m c finder taker matched = by (call_at p c) refl finder taker
  where
    by : (o : Option Call) → call_at p c ≡ o → is_finder_call o ≡ true → kind_holds is_probe_kind o ≡ false → kind_holds (is_returned_kind p m c) o ≡ true
    by None there finder taker = absurd (cc)
    by (Some call) there finder taker = returned_finder_kind p m c call call.kind there refl finder taker matched

receive_done_kind : (p : MpiProgram) (m : Configuration) (c : ℕ) (k : Kind ℕ) → is_receive_kind k ≡ true → is_matched m c ≡ true → is_done_kind p m c k ≡ true
receive_done_kind p m c (Receive blocking pattern) is matched = matched
receive_done_kind p m c kind is matched = absurd (cc)

receive_done : (p : MpiProgram) (m : Configuration) (c : ℕ) (o : Option Call) → is_receive_call o ≡ true → is_matched m c ≡ true → kind_holds (is_done_kind p m c) o ≡ true
receive_done p m c None is matched = absurd (cc)
receive_done p m c (Some call) is matched = receive_done_kind p m c call.kind is matched

receive_finds_kind : (k : Kind ℕ) → is_receive_kind k ≡ true → is_some (pattern_of k) ≡ true
receive_finds_kind (Receive blocking pattern) is = refl
receive_finds_kind kind is = absurd (cc)

receive_finds : (o : Option Call) → is_receive_call o ≡ true → is_finder_call o ≡ true
receive_finds None is = absurd (cc)
receive_finds (Some call) is = receive_finds_kind call.kind is

-- a call of a span has returned where the span's finders up to it have found
member_returned : (p : MpiProgram) (block : Blocks) (m : Configuration) (c : ℕ) → IsMember p block c → ((h : ℕ) → is_finder p h ≡ true → block h ≡ block c → h ≤ c → is_matched m h ≡ true) → is_returned p m c ≡ true
member_returned p block m c member all =
    elim member.returns [
      | inl finder ↦ returned_finder p m c finder (member.prompt finder).taker (all c finder refl (omega arith))
      | inr (inl once) ↦ returned_at_once p m c once
      | inr (inr w) ↦
          ap (kind_holds (is_returned_kind p m c)) w.wait.there ∙ ap (is_returned_kind p m c) w.wait.waits
          ∙ receive_done p m w.receive (call_at p w.receive) w.wait.receives (all w.receive (receive_finds (call_at p w.receive) w.wait.receives) w.within (let below = w.before in omega (arith, below)))
    ]

pub spans_are_blocks : SpansAreBlocks
spans_are_blocks p block spans f g lt one two same =
    let at = chain p block f g f spans (omega arith) lt same in
    let last = last_member p block f g spans lt same in
    record {
      one = one_span p block f g spans lt same;
      alike = λ s. at.0.here.alike one s ∙ ap (λ (c : ℕ). are_fit p s c) same ∙ sym (last.alike two s);
      first = at.0.here.prompt one;
      second = last.prompt two;
      between =
          λ c m from below all.
          let w = chain p block f g c spans from below same in
          member_returned p block m c w.0.here (λ h finder named upto. all h finder (named ∙ w.1) upto);
      alone = λ c from below finder. (chain p block f g c spans (omega (arith, from)) below same).1;
    }

-- Which side a call is on: it is what the call does with the side's envelope.
use Rattle.std.proofs.Common.{◌≡◌, ℕ, Bool, true, false, cond, not, ◌&&◌, ◌==◌, Option, Some, None, refl, sym, ap, ◌∙◌, subst}
use Rattle.std.proofs.lemmas.Bool.{eqb-true, eq-eqb}
use Rattle.std.proofs.lemmas.Option.{same_Some}
use Rattle.calltext.proofs.Conjunctions.{and_true, and_both}
use Rattle.callorder.specs.declared.calls.Call.{Call}
use Rattle.callorder.specs.declared.calls.Kind.{Kind}
use Rattle.callorder.specs.declared.calls.Kind.TheVariants.{Send, Receive, MatchedProbe, Probe, MatchedReceive, Wait}
use Rattle.callorder.specs.declared.calls.Message.{Message}
use Rattle.callorder.specs.declared.calls.Pattern.{Pattern}
use Rattle.callorder.specs.Calls.{message_of, pattern_of, is_probe_kind}
use Rattle.phases.specs.Order.{Envelope, is_addressed, sends_with, is_number, is_named, takes_with}
use Rattle.phases.proofs.Envelopes.{number_is}
use Rattle.sealing.specs.declared.sides.Side.{Side}
use Rattle.sealing.specs.declared.sides.Wanted.{Wanted}
use Rattle.sealing.specs.parts.Sides.{wanted_found, wanted_of, side_named, side_taken, side_sent, side_of, envelope_of, acts_for}

-- ---- what a test tells of a call

pub record Sent (h : Envelope) (call : Call) : Type 0 where
  pub message : Message
  pub is : message_of call.kind ≡ Some message
  pub rank : call.rank ≡ h.source
  pub destination : message.destination ≡ h.destination
  pub tag : message.tag ≡ h.tag
  pub communicator : message.communicator ≡ h.communicator

sent_as : (h : Envelope) (call : Call) → call.rank ≡ h.source → (o : Option Message) → message_of call.kind ≡ o → is_addressed h o ≡ true → Sent h call
sent_as h call rank None is e = absurd (cc)
sent_as h call rank (Some g) is e =
    let outer = and_true (g.destination == h.destination && g.tag == h.tag) (g.communicator == h.communicator) e in
    let inner = and_true (g.destination == h.destination) (g.tag == h.tag) outer.0 in
    record {
      message = g;
      is = is;
      rank = rank;
      destination = eqb-true g.destination h.destination inner.0;
      tag = eqb-true g.tag h.tag inner.1;
      communicator = eqb-true g.communicator h.communicator outer.1;
    }

pub sent : (h : Envelope) (call : Call) → sends_with h call ≡ true → Sent h call
sent h call e =
    let parts = and_true (call.rank == h.source) (is_addressed h (message_of call.kind)) e in
    sent_as h call (eqb-true call.rank h.source parts.0) (message_of call.kind) refl parts.1

pub record Taken (h : Envelope) (call : Call) : Type 0 where
  pub pattern : Pattern
  pub is : pattern_of call.kind ≡ Some pattern
  pub rank : call.rank ≡ h.destination
  pub source : pattern.source ≡ Some h.source
  pub tag : pattern.tag ≡ Some h.tag
  pub communicator : pattern.communicator ≡ h.communicator
  pub taker : is_probe_kind call.kind ≡ false

off : (t : Bool) → not t ≡ true → t ≡ false
off true n = absurd (cc)
off false n = refl

taken_as : (h : Envelope) (call : Call) → call.rank ≡ h.destination → is_probe_kind call.kind ≡ false → (o : Option Pattern) → pattern_of call.kind ≡ o
    → is_named h o ≡ true → Taken h call
taken_as h call rank taker None is e = absurd (cc)
taken_as h call rank taker (Some q) is e =
    let outer = and_true (is_number q.source h.source && is_number q.tag h.tag) (q.communicator == h.communicator) e in
    let inner = and_true (is_number q.source h.source) (is_number q.tag h.tag) outer.0 in
    record {
      pattern = q;
      is = is;
      rank = rank;
      source = number_is q.source h.source inner.0;
      tag = number_is q.tag h.tag inner.1;
      communicator = eqb-true q.communicator h.communicator outer.1;
      taker = taker;
    }

pub taken : (h : Envelope) (call : Call) → takes_with h call ≡ true → Taken h call
taken h call e =
    let outer = and_true (call.rank == h.destination && is_named h (pattern_of call.kind)) (not (is_probe_kind call.kind)) e in
    let inner = and_true (call.rank == h.destination) (is_named h (pattern_of call.kind)) outer.0 in
    taken_as h call (eqb-true call.rank h.destination inner.0) (off (is_probe_kind call.kind) outer.1) (pattern_of call.kind) refl inner.1

-- ---- the side of such a call

abbrev pub side_with : ℕ → ℕ → ℕ → ℕ → Bool → Side
side_with source destination tag communicator is_send =
    record { source = source; destination = destination; tag = tag; communicator = communicator; is_send = is_send }

-- the sends of an envelope, and the takers
abbrev pub senders : Envelope → Side
senders h = side_with h.source h.destination h.tag h.communicator true

abbrev pub takers : Envelope → Side
takers h = side_with h.source h.destination h.tag h.communicator false

same_parts : (s t d e g k c m : ℕ) (b : Bool) → s ≡ t → d ≡ e → g ≡ k → c ≡ m → side_with s d g c b ≡ side_with t e k m b
same_parts s t d e g k c m b first second third fourth =
    ap (λ (z : ℕ). side_with z d g c b) first ∙ ap (λ (z : ℕ). side_with t z g c b) second ∙ ap (λ (z : ℕ). side_with t e z c b) third
    ∙ ap (λ (z : ℕ). side_with t e k z b) fourth

pub side_of_send : (h : Envelope) (call : Call) → sends_with h call ≡ true → side_of call ≡ Some (senders h)
side_of_send h call e =
    let u = sent h call e in
    let g = u.message in
    ap (side_sent call.rank (wanted_of call)) u.is
    ∙ ap Some
    (same_parts call.rank h.source g.destination h.destination g.tag h.tag g.communicator h.communicator true u.rank u.destination u.tag u.communicator)

no_message : (kind : Kind ℕ) (pattern : Pattern) → pattern_of kind ≡ Some pattern → message_of kind ≡ None
no_message (Send mode blocking message) pattern e = absurd (cc)
no_message kind pattern e = refl

abbrev wanted_with : ℕ → Pattern → Wanted
wanted_with rank pattern = record { source = pattern.source; destination = rank; tag = pattern.tag; communicator = pattern.communicator }

pub wanted_is : (call : Call) (pattern : Pattern) → is_probe_kind call.kind ≡ false → pattern_of call.kind ≡ Some pattern
    → wanted_of call ≡ Some (wanted_with call.rank pattern)
wanted_is call pattern taker is =
    ap (λ (b : Bool). cond b None (wanted_found call.rank (pattern_of call.kind))) taker ∙ ap (wanted_found call.rank) is

pub side_of_taker : (h : Envelope) (call : Call) → takes_with h call ≡ true → side_of call ≡ Some (takers h)
side_of_taker h call e =
    let u = taken h call e in
    ap (side_sent call.rank (wanted_of call)) (no_message call.kind u.pattern u.is)
    ∙ ap side_taken (wanted_is call u.pattern u.taker u.is)
    ∙ ap (λ (z : Option ℕ). side_named z u.pattern.tag call.rank u.pattern.communicator) u.source
    ∙ ap (λ (z : Option ℕ). side_named (Some h.source) z call.rank u.pattern.communicator) u.tag
    ∙ ap Some (same_parts h.source h.source call.rank h.destination h.tag h.tag u.pattern.communicator h.communicator false refl u.rank refl u.communicator)

-- ---- what the side tells of a call

record Named (source tag : Option ℕ) (destination communicator : ℕ) (side : Side) : Type 0 where
  from : source ≡ Some side.source
  tagged : tag ≡ Some side.tag
  to : destination ≡ side.destination
  on : communicator ≡ side.communicator
  takes : side.is_send ≡ false

named : (source tag : Option ℕ) (destination communicator : ℕ) (side : Side) → side_named source tag destination communicator ≡ Some side
    → Named source tag destination communicator side
named None tag destination communicator side e = absurd (cc)
named (Some source) None destination communicator side e = absurd (cc)
named (Some source) (Some tag) destination communicator side e =
    let same = same_Some (side_with source destination tag communicator false) side e in
    record {
      from = ap (λ (z : Side). Some z.source) same;
      tagged = ap (λ (z : Side). Some z.tag) same;
      to = ap (λ (z : Side). z.destination) same;
      on = ap (λ (z : Side). z.communicator) same;
      takes = sym (ap (λ (z : Side). z.is_send) same);
    }

is_number_so : (o : Option ℕ) (n : ℕ) → o ≡ Some n → is_number o n ≡ true
is_number_so o n e = ap (λ (z : Option ℕ). is_number z n) e ∙ eq-eqb n n refl

-- a taker of this pattern
takes_so : (side : Side) (rank : ℕ) (pattern : Pattern) → side_named pattern.source pattern.tag rank pattern.communicator ≡ Some side
    → cond side.is_send (rank == side.source && false) ((rank == side.destination && is_named (envelope_of side) (Some pattern)) && true) ≡ true
takes_so side rank pattern e =
    let n = named pattern.source pattern.tag rank pattern.communicator side e in
    ap (λ (b : Bool). cond b (rank == side.source && false) ((rank == side.destination && is_named (envelope_of side) (Some pattern)) && true)) n.takes
    ∙ and_both (rank == side.destination && is_named (envelope_of side) (Some pattern)) true
    (and_both (rank == side.destination) (is_named (envelope_of side) (Some pattern)) (eq-eqb rank side.destination n.to)
    (and_both (is_number pattern.source side.source && is_number pattern.tag side.tag) (pattern.communicator == side.communicator)
    (and_both (is_number pattern.source side.source) (is_number pattern.tag side.tag) (is_number_so pattern.source side.source n.from)
    (is_number_so pattern.tag side.tag n.tagged))
    (eq-eqb pattern.communicator side.communicator n.on)))
    refl

abbrev call_with : ℕ → Kind ℕ → Call
call_with rank kind = record { rank = rank; kind = kind }

acts_by : (side : Side) (rank : ℕ) (kind : Kind ℕ) → side_of (call_with rank kind) ≡ Some side → acts_for side (call_with rank kind) ≡ true
acts_by side rank (Send mode blocking message) e =
    let own = side_with rank message.destination message.tag message.communicator true in
    subst (λ (z : Side). acts_for z (call_with rank (Send mode blocking message)) ≡ true) (same_Some own side e)
    (and_both (rank == rank) ((message.destination == message.destination && message.tag == message.tag) && message.communicator == message.communicator)
    (eq-eqb rank rank refl)
    (and_both (message.destination == message.destination && message.tag == message.tag) (message.communicator == message.communicator)
    (and_both (message.destination == message.destination) (message.tag == message.tag) (eq-eqb message.destination message.destination refl)
    (eq-eqb message.tag message.tag refl))
    (eq-eqb message.communicator message.communicator refl)))
acts_by side rank (Receive blocking pattern) e = takes_so side rank pattern e
acts_by side rank (MatchedProbe pattern receive) e = takes_so side rank pattern e
acts_by side rank (Probe pattern) e = absurd (cc)
acts_by side rank (MatchedReceive blocking) e = absurd (cc)
acts_by side rank (Wait operation) e = absurd (cc)

pub acts_so : (side : Side) (call : Call) → side_of call ≡ Some side → acts_for side call ≡ true
acts_so side call e = acts_by side call.rank call.kind e

-- the test, where it is known which side of its envelope it is
acts_as : (side : Side) (call : Call) (b : Bool) → side.is_send ≡ b
    → acts_for side call ≡ cond b (sends_with (envelope_of side) call) (takes_with (envelope_of side) call)
acts_as side call b is = ap (λ (z : Bool). cond z (sends_with (envelope_of side) call) (takes_with (envelope_of side) call)) is

pub sends_so : (side : Side) (call : Call) → side.is_send ≡ true → acts_for side call ≡ true → sends_with (envelope_of side) call ≡ true
sends_so side call is acts = sym (acts_as side call true is) ∙ acts

pub takes_with_so : (side : Side) (call : Call) → side.is_send ≡ false → acts_for side call ≡ true → takes_with (envelope_of side) call ≡ true
takes_with_so side call is acts = sym (acts_as side call false is) ∙ acts

pub side_is : (side : Side) (call : Call) → acts_for side call ≡ true → side_of call ≡ Some side
side_is side call acts = by side.is_send refl
  where
    own : (b : Bool) → side.is_send ≡ b → Some (side_with side.source side.destination side.tag side.communicator b) ≡ Some side
    own b is = ap (λ (z : Bool). Some (side_with side.source side.destination side.tag side.communicator z)) (sym is)

    by : (b : Bool) → side.is_send ≡ b → side_of call ≡ Some side
    by true is = side_of_send (envelope_of side) call (sends_so side call is acts) ∙ own true is
    by false is = side_of_taker (envelope_of side) call (takes_with_so side call is acts) ∙ own false is

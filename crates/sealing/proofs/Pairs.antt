-- The k-th send and the k-th taker of an envelope that all takers name are counterparts, and no
-- other calls are.
use Rattle.std.proofs.Common.{◌≡◌, ℕ, ◌⊎◌, inl, inr, Bool, true, false, cond, not, ◌&&◌, ◌==◌, List, Option, Some, None, is_some, length, map, take, slice_get, refl, sym, ap, ◌∙◌, arith}
use Rattle.std.specs.List.{count_by}
use Rattle.std.specs.Option.{option_map, unwrap_or}
use Rattle.std.proofs.lemmas.Bool.{eqb-true, eq-eqb}
use Rattle.std.proofs.lemmas.Option.{same_Some, slice_get_within, slice_get-map, slice_get-get_or, get_or_from_slice_get}
use Rattle.calltext.proofs.Conjunctions.{and_true, and_both}
use Rattle.callorder.specs.declared.calls.Call.{Call}
use Rattle.callorder.specs.declared.calls.Message.{Message}
use Rattle.callorder.specs.declared.calls.Pattern.{Pattern}
use Rattle.callorder.specs.Calls.{pattern_of, is_probe_kind, covers, fits_between, both_hold, fits}
use Rattle.callorder.specs.Programs.{MpiProgram, call_at, are_fit}
use Rattle.semantics.specs.Machine.{partner_of}
use Rattle.phases.specs.Order.{Envelope, is_number, is_named, sends_with, takes_with, IsExact, AreCounterparts}
use Rattle.phases.proofs.Counting.{fit_parts}
use Rattle.knowledge.specs.Knowledge.{with_partners}
use Rattle.sealing.specs.declared.sides.Side.{Side}
use Rattle.sealing.specs.declared.sides.Wanted.{Wanted}
use Rattle.sealing.specs.declared.occurrences.Occurrence.{Occurrence}
use Rattle.sealing.specs.parts.Sides.{wanted_found, wanted_of, wanted_by, envelope_of, acts_for, occurrence_at, is_exact, opposite, partner_in, AreOccurrences, ArePlaces, IsAskedByTaker, AreAsked, HasAllSure}
use Rattle.sealing.specs.Sealing.{HasSurePartners}
use Rattle.sealing.proofs.Acts.{side_with, sent, taken, senders, takers, side_of_send, side_of_taker, acts_so, sends_so, takes_with_so, wanted_is}
use Rattle.sealing.proofs.Numbered.{occurrence_with, occurs, occurs_so, one_place}

clash : (b : Bool) → not b ≡ true → b ≡ true → ⊥
clash true h on = cc
clash false h on = cc

not_so : (b : Bool) → (b ≡ true → ⊥) → not b ≡ true
not_so true h = absurd (h refl)
not_so false h = refl

-- ---- what takers ask for, and which envelopes they name

record Wants (call : Call) (wanted : Wanted) : Type 0 where
  pattern : Pattern
  taker : is_probe_kind call.kind ≡ false
  is : pattern_of call.kind ≡ Some pattern
  source : pattern.source ≡ wanted.source
  to : call.rank ≡ wanted.destination
  tag : pattern.tag ≡ wanted.tag
  on : pattern.communicator ≡ wanted.communicator

abbrev wanted_at : ℕ → Pattern → Wanted
wanted_at rank pattern = record { source = pattern.source; destination = rank; tag = pattern.tag; communicator = pattern.communicator }

abbrev wanted_parts : Option ℕ → ℕ → Option ℕ → ℕ → Wanted
wanted_parts source destination tag communicator = record { source = source; destination = destination; tag = tag; communicator = communicator }

wants : (call : Call) (wanted : Wanted) → wanted_of call ≡ Some wanted → Wants call wanted
wants call wanted e = by (is_probe_kind call.kind) (pattern_of call.kind) refl refl
  where
    as_probe : (b : Bool) → is_probe_kind call.kind ≡ b → wanted_of call ≡ cond b None (wanted_found call.rank (pattern_of call.kind))
    as_probe b probe = ap (λ (z : Bool). cond z None (wanted_found call.rank (pattern_of call.kind))) probe

    by : (b : Bool) (o : Option Pattern) → is_probe_kind call.kind ≡ b → pattern_of call.kind ≡ o → Wants call wanted
    by true o probe is = absurd (let f : None ≡ Some wanted = sym (as_probe true probe) ∙ e in cc)
    by false None probe is = absurd (let f : None ≡ Some wanted = sym (as_probe false probe ∙ ap (wanted_found call.rank) is) ∙ e in cc)
    by false (Some pattern) probe is =
        let same = same_Some (wanted_at call.rank pattern) wanted (sym (wanted_is call pattern probe is) ∙ e) in
        record {
          pattern = pattern;
          taker = probe;
          is = is;
          source = ap (λ (z : Wanted). z.source) same;
          to = ap (λ (z : Wanted). z.destination) same;
          tag = ap (λ (z : Wanted). z.tag) same;
          on = ap (λ (z : Wanted). z.communicator) same;
        }

-- a message with the envelope fits a taker that asks for such
fit_wanted : (p : MpiProgram) (h : Envelope) (s t : ℕ) (a b : Call) (wanted : Wanted) → call_at p s ≡ Some a → call_at p t ≡ Some b
    → sends_with h a ≡ true → Wants b wanted → wanted.destination ≡ h.destination → wanted.communicator ≡ h.communicator
    → covers wanted.source h.source ≡ true → covers wanted.tag h.tag ≡ true → are_fit p s t ≡ true
fit_wanted p h s t a b wanted at_s at_t sends w to on source tag =
    let u = sent h a sends in
    let g = u.message in
    let q = w.pattern in
    let goes = eq-eqb g.destination b.rank (u.destination ∙ sym to ∙ sym w.to) in
    let by = eq-eqb g.communicator q.communicator (u.communicator ∙ sym on ∙ sym w.on) in
    let from = ap (λ (z : Option ℕ). covers z a.rank) w.source ∙ ap (covers wanted.source) u.rank ∙ source in
    let tagged = ap (λ (z : Option ℕ). covers z g.tag) w.tag ∙ ap (covers wanted.tag) u.tag ∙ tag in
    ap (λ (z : Option Call). both_hold fits z (call_at p t)) at_s ∙ ap (both_hold fits (Some a)) at_t
    ∙ ap (λ (z : Option Message). fits_between a.rank z b.rank (pattern_of b.kind)) u.is ∙ ap (fits_between a.rank (Some g) b.rank) w.is
    ∙ and_both ((g.destination == b.rank && g.communicator == q.communicator) && covers q.source a.rank) (covers q.tag g.tag)
    (and_both (g.destination == b.rank && g.communicator == q.communicator) (covers q.source a.rank)
    (and_both (g.destination == b.rank) (g.communicator == q.communicator) goes by) from) tagged

-- where all takers name the envelope, none asks for its messages by a wildcard
none_asks : (p : MpiProgram) (h : Envelope) (s : ℕ) (a : Call) (wanted : Wanted) → IsExact p h → call_at p s ≡ Some a → sends_with h a ≡ true
    → wanted.destination ≡ h.destination → wanted.communicator ≡ h.communicator → covers wanted.source h.source ≡ true → covers wanted.tag h.tag ≡ true
    → IsAskedByTaker p.calls wanted → (wanted.source ≡ Some h.source) × (wanted.tag ≡ Some h.tag)
none_asks p h s a wanted exact at_s sends to on source tag asked =
    let w = wants asked.call wanted asked.asks in
    let fit = fit_wanted p h s asked.place a asked.call wanted at_s asked.there sends w to on source tag in
    let v = taken h asked.call (exact s asked.place a asked.call at_s asked.there fit w.taker sends) in
    let same : w.pattern ≡ v.pattern = same_Some w.pattern v.pattern (sym w.is ∙ v.is) in
    (sym w.source ∙ ap (λ (z : Pattern). z.source) same ∙ v.source, sym w.tag ∙ ap (λ (z : Pattern). z.tag) same ∙ v.tag)

abbrev asks : (Wanted → Bool) → Option ℕ → Option ℕ → Side → Bool
asks asked source tag side = asked (wanted_by source tag side)

covers_itself : (n : ℕ) → covers (Some n) n ≡ true
covers_itself n = eq-eqb n n refl

exact_made : (p : MpiProgram) (h : Envelope) (s : ℕ) (a : Call) (asked : Wanted → Bool) → AreAsked p.calls (length p.calls) asked → IsExact p h
    → call_at p s ≡ Some a → sends_with h a ≡ true → is_exact asked (senders h) ≡ true
exact_made p h s a asked are exact at_s sends =
    and_both (not (asks asked None None (senders h))) (not (asks asked None (Some h.tag) (senders h)) && not (asks asked (Some h.source) None (senders h)))
    (never None None refl refl (inl refl))
    (and_both (not (asks asked None (Some h.tag) (senders h))) (not (asks asked (Some h.source) None (senders h)))
    (never None (Some h.tag) refl (covers_itself h.tag) (inl refl)) (never (Some h.source) None (covers_itself h.source) refl (inr refl)))
  where
    clash : (source tag : Option ℕ) → source ≡ Some h.source → tag ≡ Some h.tag → (source ≡ None) ⊎ (tag ≡ None) → ⊥
    clash source tag from tagged (inl none) = cc
    clash source tag from tagged (inr none) = cc

    never : (source tag : Option ℕ) → covers source h.source ≡ true → covers tag h.tag ≡ true → (source ≡ None) ⊎ (tag ≡ None)
        → not (asks asked source tag (senders h)) ≡ true
    never source tag from tagged wild = not_so (asks asked source tag (senders h)) (λ is.
        let wanted = wanted_by source tag (senders h) in
        let w = none_asks p h s a wanted exact at_s sends refl refl from tagged (are.some wanted is) in
        clash source tag w.0 w.1 wild)

-- what a taker of a fitting message asks for, if it doesn't name the envelope
exact_at : (p : MpiProgram) (side : Side) (asked : Wanted → Bool) (t : ℕ) (b : Call) (g : Pattern) → AreAsked p.calls (length p.calls) asked
    → is_exact asked side ≡ true → call_at p t ≡ Some b → is_probe_kind b.kind ≡ false → pattern_of b.kind ≡ Some g → b.rank ≡ side.destination
    → g.communicator ≡ side.communicator → covers g.source side.source ≡ true → covers g.tag side.tag ≡ true
    → (is_number g.source side.source && is_number g.tag side.tag) ≡ true
exact_at p side asked t b g are exact at_t taker is to on source tag = by g.source g.tag refl refl source tag
  where
    none : not (asks asked None None side) ≡ true
    none = (and_true (not (asks asked None None side)) (not (asks asked None (Some side.tag) side) && not (asks asked (Some side.source) None side)) exact).0

    others : (not (asks asked None (Some side.tag) side) && not (asks asked (Some side.source) None side)) ≡ true
    others = (and_true (not (asks asked None None side)) (not (asks asked None (Some side.tag) side) && not (asks asked (Some side.source) None side)) exact).1

    no_tagged : not (asks asked None (Some side.tag) side) ≡ true
    no_tagged = (and_true (not (asks asked None (Some side.tag) side)) (not (asks asked (Some side.source) None side)) others).0

    no_from : not (asks asked (Some side.source) None side) ≡ true
    no_from = (and_true (not (asks asked None (Some side.tag) side)) (not (asks asked (Some side.source) None side)) others).1

    -- what the taker asks for, by its source and tag
    asks_so : (s q : Option ℕ) → g.source ≡ s → g.tag ≡ q → asks asked s q side ≡ true
    asks_so s q is_s is_q =
        let same : wanted_at b.rank g ≡ wanted_by s q side =
        ap (λ (z : Option ℕ). wanted_parts z b.rank g.tag g.communicator) is_s
        ∙ ap (λ (z : ℕ). wanted_parts s z g.tag g.communicator) to
        ∙ ap (λ (z : Option ℕ). wanted_parts s side.destination z g.communicator) is_q
        ∙ ap (λ (z : ℕ). wanted_parts s side.destination q z) on in
        are.each t b (wanted_by s q side) (slice_get_within p.calls t b at_t) at_t (wanted_is b g taker is ∙ ap Some same)

    by : (s q : Option ℕ) → g.source ≡ s → g.tag ≡ q → covers s side.source ≡ true → covers q side.tag ≡ true
        → (is_number g.source side.source && is_number g.tag side.tag) ≡ true
    by None None is_s is_q cs cq = absurd (clash (asks asked None None side) none (asks_so None None is_s is_q))
    by None (Some k) is_s is_q cs cq =
        absurd (clash (asks asked None (Some side.tag) side) no_tagged (asks_so None (Some side.tag) is_s (is_q ∙ ap Some (eqb-true k side.tag cq))))
    by (Some r) None is_s is_q cs cq =
        absurd (clash (asks asked (Some side.source) None side) no_from (asks_so (Some side.source) None (is_s ∙ ap Some (eqb-true r side.source cs)) is_q))
    by (Some r) (Some k) is_s is_q cs cq =
        and_both (is_number g.source side.source) (is_number g.tag side.tag)
        (ap (λ (z : Option ℕ). is_number z side.source) is_s ∙ cs) (ap (λ (z : Option ℕ). is_number z side.tag) is_q ∙ cq)

-- so all takers name the envelope
exact_so : (p : MpiProgram) (side : Side) (asked : Wanted → Bool) → AreAsked p.calls (length p.calls) asked → is_exact asked side ≡ true
    → IsExact p (envelope_of side)
exact_so p side asked are exact s t a b at_s at_t fit taker sends =
    let h = envelope_of side in
    let u = sent h a sends in
    let f = fit_parts p s t a b at_s at_t fit in
    let q = f.pattern in
    let same : f.message ≡ u.message = same_Some f.message u.message (sym f.sends ∙ u.is) in
    let to : b.rank ≡ side.destination = sym f.to ∙ ap (λ (z : Message). z.destination) same ∙ u.destination in
    let on : q.communicator ≡ side.communicator = sym f.on ∙ ap (λ (z : Message). z.communicator) same ∙ u.communicator in
    let from = ap (covers q.source) (sym u.rank) ∙ f.source in
    let tagged = ap (covers q.tag) (sym (ap (λ (z : Message). z.tag) same ∙ u.tag)) ∙ f.tag in
    let names = exact_at p side asked t b q are exact at_t taker f.finds to on from tagged in
    and_both (b.rank == side.destination && is_named h (pattern_of b.kind)) (not (is_probe_kind b.kind))
    (and_both (b.rank == side.destination) (is_named h (pattern_of b.kind)) (eq-eqb b.rank side.destination to)
    (ap (is_named h) f.finds ∙ and_both (is_number q.source side.source && is_number q.tag side.tag) (q.communicator == side.communicator)
    names (eq-eqb q.communicator side.communicator on)))
    (ap not taker)

-- ---- the list of partners

found_at : (partners : List (Option ℕ)) (c x : ℕ) → partner_of (with_partners partners) c ≡ Some x → slice_get partners c ≡ Some (Some x)
found_at partners c x e = by (slice_get partners c) refl
  where
    by : (o : Option (Option ℕ)) → slice_get partners c ≡ o → slice_get partners c ≡ Some (Some x)
    by None is = absurd (let f : None ≡ Some x = sym (ap (λ (z : Option (Option ℕ)). unwrap_or z None) is) ∙ e in cc)
    by (Some o) is = is ∙ ap Some (sym (ap (λ (z : Option (Option ℕ)). unwrap_or z None) is) ∙ e)

occurrence_so : (calls : List Call) (list : List (Option Occurrence)) (c : ℕ) (o : Option Occurrence) → AreOccurrences calls (length calls) list
    → slice_get list c ≡ Some o → o ≡ occurrence_at calls c
occurrence_so calls list c o are there =
    let within = slice_get_within list c o there in
    sym (get_or_from_slice_get list c o None there) ∙ are.each c (let size = are.size in omega (arith, size, within))

occurrence_made : (calls : List Call) (list : List (Option Occurrence)) (c : ℕ) (call : Call) (one : Occurrence) → AreOccurrences calls (length calls) list
    → slice_get calls c ≡ Some call → occurrence_at calls c ≡ Some one → slice_get list c ≡ Some (Some one)
occurrence_made calls list c call one are there is =
    let within = slice_get_within calls c call there in
    slice_get-get_or list c None (let size = are.size in omega (arith, size, within)) ∙ ap Some (are.each c within ∙ is)

-- where a call's partner is the one of the other side
record Found (asked : Wanted → Bool) (places : Occurrence → Option ℕ) (list : List (Option Occurrence)) (c x : ℕ) : Type 0 where
  one : Occurrence
  here : slice_get list c ≡ Some (Some one)
  exact : is_exact asked one.side ≡ true
  there : places (opposite one) ≡ Some x

found_as : (asked : Wanted → Bool) (places : Occurrence → Option ℕ) (list : List (Option Occurrence)) (c x : ℕ) (o : Option (Option Occurrence))
    → slice_get list c ≡ o → option_map (partner_in asked places) o ≡ Some (Some x) → Found asked places list c x
found_as asked places list c x None is e = absurd (cc)
found_as asked places list c x (Some None) is e = absurd (cc)
found_as asked places list c x (Some (Some one)) is e = by (is_exact asked one.side) refl
  where
    there : (b : Bool) → is_exact asked one.side ≡ b → cond b (places (opposite one)) None ≡ Some x
    there b exact = sym (ap (λ (z : Bool). cond z (places (opposite one)) None) exact) ∙ same_Some (partner_in asked places (Some one)) (Some x) e

    by : (b : Bool) → is_exact asked one.side ≡ b → Found asked places list c x
    by true exact = record { one = one; here = is; exact = exact; there = there true exact }
    by false exact = absurd (let f : None ≡ Some x = there false exact in cc)

count_as : (side : Side) (calls : List Call) (b : Bool) → side.is_send ≡ b
    → count_by (acts_for side) calls ≡ count_by (λ (call : Call). cond b (sends_with (envelope_of side) call) (takes_with (envelope_of side) call)) calls
count_as side calls b is =
    ap (λ (z : Bool). count_by (λ (call : Call). cond z (sends_with (envelope_of side) call) (takes_with (envelope_of side) call)) calls) is

count_sends : (side : Side) (calls : List Call) → side.is_send ≡ true → count_by (acts_for side) calls ≡ count_by (sends_with (envelope_of side)) calls
count_sends side calls is = count_as side calls true is

count_takes : (side : Side) (calls : List Call) → side.is_send ≡ false → count_by (acts_for side) calls ≡ count_by (takes_with (envelope_of side)) calls
count_takes side calls is = count_as side calls false is

-- a send and a taker of one envelope before which as many stand
counterparts : (p : MpiProgram) (s t : ℕ) (one : Occurrence) → IsExact p (envelope_of one.side) → one.side.is_send ≡ true
    → occurrence_at p.calls s ≡ Some one → occurrence_at p.calls t ≡ Some (opposite one) → AreCounterparts p s t
counterparts p s t one exact sends at_s at_t =
    let a = occurs p.calls s one at_s in
    let b = occurs p.calls t (opposite one) at_t in
    let takes : (opposite one).side.is_send ≡ false = ap not sends in
    record {
      envelope = envelope_of one.side;
      exact = exact;
      send = a.call;
      taker = b.call;
      at_send = a.there;
      at_taker = b.there;
      sends = sends_so one.side a.call sends (acts_so one.side a.call a.side);
      takes = takes_with_so (opposite one).side b.call takes (acts_so (opposite one).side b.call b.side);
      same = sym (count_sends one.side (take s p.calls) sends) ∙ sym a.index ∙ b.index ∙ count_takes (opposite one).side (take t p.calls) takes;
    }

opposite_twice : (one : Occurrence) → one ≡ opposite (opposite one)
opposite_twice one =
    ap (λ (b : Bool). occurrence_with (side_with one.side.source one.side.destination one.side.tag one.side.communicator b) one.index) (twice one.side.is_send)
  where
    twice : (b : Bool) → b ≡ not (not b)
    twice true = refl
    twice false = refl

module _ (p : MpiProgram) (asked : Wanted → Bool) (places : Occurrence → Option ℕ) (list : List (Option Occurrence)) (partners : List (Option ℕ))
    (are_asked : AreAsked p.calls (length p.calls) asked) (are_places : ArePlaces list (length list) places)
    (are : AreOccurrences p.calls (length p.calls) list)
    (made : partners ≡ map (partner_in asked places) list) where
  found_in : (c x : ℕ) → partner_of (with_partners partners) c ≡ Some x → Found asked places list c x
  found_in c x e =
      found_as asked places list c x (slice_get list c) refl
      (sym (slice_get-map (partner_in asked places) list c) ∙ ap (λ (z : List (Option ℕ)). slice_get z c) (sym made) ∙ found_at partners c x e)

  pub sure_so : HasSurePartners p (with_partners partners)
  sure_so c x e =
      let f = found_in c x e in
      let exact = exact_so p f.one.side asked are_asked f.exact in
      let own = sym (occurrence_so p.calls list c (Some f.one) are f.here) in
      let other = sym (occurrence_so p.calls list x (Some (opposite f.one)) are (are_places.there (opposite f.one) x f.there).1) in
      by (f.one.side.is_send) f.one exact own other refl
    where
      by : (b : Bool) (one : Occurrence) → IsExact p (envelope_of one.side) → occurrence_at p.calls c ≡ Some one
          → occurrence_at p.calls x ≡ Some (opposite one) → one.side.is_send ≡ b → AreCounterparts p x c ⊎ AreCounterparts p c x
      by true one exact own other sends = inr (counterparts p c x one exact sends own other)
      by false one exact own other takes = inl (counterparts p x c (opposite one) exact (ap not takes) other (own ∙ ap Some (opposite_twice one)))

  -- the partner of a call of an exact side, where the one of the other side stands at this place
  partner_is : (c x : ℕ) (call other : Call) (one : Occurrence) → slice_get p.calls c ≡ Some call → slice_get p.calls x ≡ Some other
      → is_exact asked one.side ≡ true → occurrence_at p.calls c ≡ Some one → occurrence_at p.calls x ≡ Some (opposite one)
      → partner_of (with_partners partners) c ≡ Some x
  partner_is c x call other one at_c at_x exact own opposed =
      ap (λ (z : List (Option ℕ)). unwrap_or (slice_get z c) None) made
      ∙ ap (λ (z : Option (Option ℕ)). unwrap_or z None)
      (slice_get-map (partner_in asked places) list c ∙ ap (option_map (partner_in asked places)) (occurrence_made p.calls list c call one are at_c own))
      ∙ ap (λ (z : Bool). cond z (places (opposite one)) None) exact
      ∙ place (places (opposite one)) refl
    where
      place : (o : Option ℕ) → places (opposite one) ≡ o → places (opposite one) ≡ Some x
      place None is = absurd (
          let at = occurrence_made p.calls list x other (opposite one) are at_x opposed in
          let some = are_places.each (opposite one) x (slice_get_within list x (Some (opposite one)) at) at in
          let none : is_some (places (opposite one)) ≡ false = ap is_some is in
          cc (some, none))
      place (Some y) is =
          let at = (are_places.there (opposite one) y is).1 in
          is ∙ ap Some (one_place p.calls y x (opposite one) (sym (occurrence_so p.calls list y (Some (opposite one)) are at)) opposed)

  pub all_sure : HasAllSure p (with_partners partners)
  all_sure s t k =
      let h = k.envelope in
      let n = count_by (sends_with h) (take s p.calls) in
      let at_s : occurrence_at p.calls s ≡ Some (occurrence_with (senders h) n) =
      occurs_so p.calls s k.send (senders h) k.at_send (side_of_send h k.send k.sends) in
      let at_t : occurrence_at p.calls t ≡ Some (occurrence_with (takers h) n) =
      occurs_so p.calls t k.taker (takers h) k.at_taker (side_of_taker h k.taker k.takes) ∙ ap (λ (m : ℕ). Some (occurrence_with (takers h) m)) (sym k.same) in
      let exact = exact_made p h s k.send asked are_asked k.exact k.at_send k.sends in (
        partner_is s t k.send k.taker (occurrence_with (senders h) n) k.at_send k.at_taker exact at_s at_t,
        partner_is t s k.taker k.send (occurrence_with (takers h) n) k.at_taker k.at_send exact at_t at_s,
      )

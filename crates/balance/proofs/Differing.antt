-- The channels whose sends and takers differ in number are those that are told.
use Rattle.std.proofs.Common.{◌≡◌, ◌≢◌, ◌↔◌, ℕ, ◌<◌, ◌≤◌, ◌⊎◌, inl, inr, Bool, true, false, not, ◌&&◌, ◌==◌, List, Option, Some, None, length, get_or, slice_get, refl, sym, ap, ◌∙◌, arith}
use Rattle.std.specs.List.{filter}
use Rattle.std.specs.Option.{option_eq}
use Rattle.calltext.proofs.Conjunctions.{and_true, and_both}
use Rattle.races.proofs.Steps.{is_or_not, same_some}
use Rattle.std.proofs.lemmas.Bool.{cases_lt, eqb-true, eq-eqb}
use Rattle.std.proofs.lemmas.Option.{slice_get_within, slice_get-get_or}
use Rattle.interning.specs.Places.{IsNumbering}
use Rattle.callorder.specs.declared.calls.Call.{Call}
use Rattle.callorder.specs.Programs.{MpiProgram, call_at}
use Rattle.balance.specs.declared.channels.Channel.{Channel}
use Rattle.balance.specs.declared.counting.Imbalance.{Imbalance}
use Rattle.balance.specs.Balance.{channel_at, channel_of_call, ArePlacesWhere, AreSides, IsImbalance, AreImbalances, IsSendInChannel, IsTakerIn, IsAmongSides, is_send_at}
use Rattle.balance.specs.Sides.{AreNumberedSides, AreAllSides, IsSendNumbered, IsTakerNumbered}
use Rattle.balance.proofs.Numbers.{no_more}
use Rattle.balance.proofs.Lists.{Found, filter_pair, item_there, filter_passes, passes_filter}

abbrev pub differ : Imbalance → Bool
differ sides = not (length sides.sends.items == length sides.takers.items)

differs : (sides : Imbalance) → differ sides ≡ true → length sides.sends.items ≢ length sides.takers.items
differs sides on e = let same : (length sides.sends.items == length sides.takers.items) ≡ true = eq-eqb (length sides.sends.items) (length sides.takers.items) e in let off = ap not same in cc

not_equal : (m n : ℕ) (b : Bool) → (m == n) ≡ b → m ≢ n → not b ≡ true
not_equal m n true e h = absurd (h (eqb-true m n e))
not_equal m n false e h = refl

-- ---- equal channels

abbrev pub eq_options : Option ℕ → Option ℕ → Bool
eq_options a b = option_eq (λ (x y : ℕ). x == y) a b

same_option : (a b : Option ℕ) → (eq_options a b ≡ true) ↔ (a ≡ b)
same_option None None = (λ on. refl, λ e. refl)
same_option None (Some b) = (λ on. absurd (cc), λ e. absurd (cc))
same_option (Some a) None = (λ on. absurd (cc), λ e. absurd (cc))
same_option (Some a) (Some b) = (λ on. ap Some (eqb-true a b on), λ e. eq-eqb a b (same_some a b e))

abbrev pub eq_parts : Channel → Channel → Bool
eq_parts a b =
    a.destination == b.destination && (a.communicator == b.communicator && (eq_options a.source b.source && eq_options a.tag b.tag))

abbrev made : ℕ → ℕ → Option ℕ → Option ℕ → Channel
made destination communicator source tag = record { destination = destination; communicator = communicator; source = source; tag = tag }

same_parts : (a b : Channel) → eq_parts a b ≡ true → a ≡ b
same_parts a b on =
    let one = and_true (a.destination == b.destination) (a.communicator == b.communicator && (eq_options a.source b.source && eq_options a.tag b.tag)) on in
    let two = and_true (a.communicator == b.communicator) (eq_options a.source b.source && eq_options a.tag b.tag) one.1 in
    let three = and_true (eq_options a.source b.source) (eq_options a.tag b.tag) two.1 in
    let d : a.destination ≡ b.destination = eqb-true a.destination b.destination one.0 in
    let k : a.communicator ≡ b.communicator = eqb-true a.communicator b.communicator two.0 in
    let s : a.source ≡ b.source = (same_option a.source b.source).0 three.0 in
    let t : a.tag ≡ b.tag = (same_option a.tag b.tag).0 three.1 in
    ap (λ (z : ℕ). made z a.communicator a.source a.tag) d ∙ ap (λ (z : ℕ). made b.destination z a.source a.tag) k ∙
    ap (λ (z : Option ℕ). made b.destination b.communicator z a.tag) s ∙ ap (made b.destination b.communicator b.source) t

alike_parts : (a b : Channel) → a ≡ b → eq_parts a b ≡ true
alike_parts a b e =
    and_both (a.destination == b.destination) (a.communicator == b.communicator && (eq_options a.source b.source && eq_options a.tag b.tag))
    (eq-eqb a.destination b.destination (ap (λ (z : Channel). z.destination) e))
    (and_both (a.communicator == b.communicator) (eq_options a.source b.source && eq_options a.tag b.tag)
    (eq-eqb a.communicator b.communicator (ap (λ (z : Channel). z.communicator) e))
    (and_both (eq_options a.source b.source) (eq_options a.tag b.tag)
    ((same_option a.source b.source).1 (ap (λ (z : Channel). z.source) e))
    ((same_option a.tag b.tag).1 (ap (λ (z : Channel). z.tag) e))))

pub same_channels : (test : Channel → Channel → Bool) → ((a b : Channel) → test a b ≡ eq_parts a b) → (a b : Channel) → (test a b ≡ true) ↔ (a ≡ b)
same_channels test is a b = (λ on. same_parts a b (sym (is a b) ∙ on), λ e. is a b ∙ alike_parts a b e)

-- ---- lists of places

places_as : (A B : ℕ → Type 0) (places : List ℕ) → ((c : ℕ) → A c → B c) → ((c : ℕ) → B c → A c) → ArePlacesWhere A places → ArePlacesWhere B places
places_as A B places f g are = record { sound = λ i c at. f c (are.sound i c at); all = λ c h. are.all c (g c h); once = are.once }

places_upto : (test : ℕ → Type 0) (one other : List ℕ) → ArePlacesWhere test one → ArePlacesWhere test other → length one ≤ length other
places_upto test one other a b =
    no_more (length one) (length other) (λ i k. slice_get one i ≡ slice_get other k)
    (λ i below.
    let at : slice_get one i ≡ Some (get_or one i 0) = slice_get-get_or one i 0 below in
    let w = b.all (get_or one i 0) (a.sound i (get_or one i 0) at) in
    (w.0, slice_get_within other w.0 (get_or one i 0) w.1, at ∙ sym w.1))
    (λ i j k below below_j e f.
    let at : slice_get one i ≡ Some (get_or one i 0) = slice_get-get_or one i 0 below in
    a.once i j (get_or one i 0) at (f ∙ sym e ∙ at))

-- where two lists differ in size, one has a first place
some_place : (test other : ℕ → Type 0) (one two : List ℕ) → ArePlacesWhere test one → ArePlacesWhere other two → length one ≢ length two → (c : ℕ) × (test c ⊎ other c)
some_place test other one two a b differ =
    elim (cases_lt 0 (length one)) [
      | inl some ↦ (get_or one 0 0, inl (a.sound 0 (get_or one 0 0) (slice_get-get_or one 0 0 some)))
      | inr none ↦
          let some : 0 < length two = omega (arith, none, differ) in
          (get_or two 0 0, inr (b.sound 0 (get_or two 0 0) (slice_get-get_or two 0 0 some)))
    ]

-- ---- numbers and channels

module _ (p : MpiProgram) (channels : List (Option Channel)) (numbers : List (Option ℕ)) (test : Channel → Channel → Bool) (tests : (a b : Channel) → (test a b ≡ true) ↔ (a ≡ b)) (n : IsNumbering test channels numbers) (size : length channels ≡ length p.calls) (named : (c : ℕ) (channel : Option Channel) → slice_get channels c ≡ Some channel → channel ≡ channel_at p c) where
  has_call : (c : ℕ) (channel : Channel) → channel_at p c ≡ Some channel → c < length p.calls
  has_call c channel h = by (call_at p c) refl h
    where
      by : (o : Option Call) → call_at p c ≡ o → channel_of_call p o ≡ Some channel → c < length p.calls
      by None is h = absurd (cc)
      by (Some call) is h = slice_get_within p.calls c call is

  listed : (c : ℕ) → c < length channels → slice_get channels c ≡ Some (channel_at p c)
  listed c below =
      let at = item_there channels c below in
      at.1 ∙ ap Some (named c at.0 at.1)

  of_channel : (c : ℕ) (channel : Channel) → channel_at p c ≡ Some channel → slice_get channels c ≡ Some (Some channel)
  of_channel c channel h = let below = has_call c channel h in listed c (omega (arith, below, size)) ∙ ap Some h

  of_number : (c number : ℕ) → slice_get numbers c ≡ Some (Some number) → (channel : Channel) × (channel_at p c ≡ Some channel)
  of_number c number h = by (channel_at p c) refl
    where
      by : (o : Option Channel) → channel_at p c ≡ o → (channel : Channel) × (channel_at p c ≡ Some channel)
      by None is =
          let below = slice_get_within numbers c (Some number) h in
          let e = n.unnamed c (listed c (omega (arith, below, n.size)) ∙ ap Some is) in
          absurd (cc)
      by (Some channel) is = (channel, is)

  to_channel : (c d number : ℕ) (channel : Channel) → slice_get numbers c ≡ Some (Some number) → channel_at p c ≡ Some channel → slice_get numbers d ≡ Some (Some number) → channel_at p d ≡ Some channel
  to_channel c d number channel h is other =
      let w = of_number d number other in
      let on = (n.same d c w.0 channel number number (of_channel d w.0 w.1) (of_channel c channel is) other h).0 refl in
      w.1 ∙ ap Some ((tests w.0 channel).0 on)

  to_number : (c d number : ℕ) (channel : Channel) → slice_get numbers c ≡ Some (Some number) → channel_at p c ≡ Some channel → channel_at p d ≡ Some channel → slice_get numbers d ≡ Some (Some number)
  to_number c d number channel h is other =
      let w = n.named d channel (of_channel d channel other) in
      let e = (n.same d c channel channel w.0 number (of_channel d channel other) (of_channel c channel is) w.1 h).1 ((tests channel channel).1 refl) in
      w.1 ∙ ap (λ (z : ℕ). Some (Some z)) e

  are_sides : (c number : ℕ) (channel : Channel) (sides : Imbalance) → slice_get numbers c ≡ Some (Some number) → channel_at p c ≡ Some channel → AreNumberedSides p numbers number sides → AreSides p channel sides
  are_sides c number channel sides h is are =
      record {
        sends = places_as (IsSendNumbered p numbers number) (IsSendInChannel p channel) sides.sends.items (λ d w. (to_channel c d number channel h is w.0, w.1)) (λ d w. (to_number c d number channel h is w.0, w.1)) are.sends;
        takers = places_as (IsTakerNumbered p numbers number) (IsTakerIn p channel) sides.takers.items (λ d w. (to_channel c d number channel h is w.0, w.1)) (λ d w. (to_number c d number channel h is w.0, w.1)) are.takers;
      }

  is_told : (number : ℕ) (sides : Imbalance) → AreNumberedSides p numbers number sides → differ sides ≡ true → IsImbalance p sides
  is_told number sides are on =
      let apart = differs sides on in
      let w = some_place (IsSendNumbered p numbers number) (IsTakerNumbered p numbers number) sides.sends.items sides.takers.items are.sends are.takers apart in
      let num : slice_get numbers w.0 ≡ Some (Some number) = elim w.1 [ inl a ↦ a.0 | inr a ↦ a.0 ] in
      let k = of_number w.0 number num in
      record { channel = k.0; are = are_sides w.0 number k.0 sides num k.1 are; differ = apart }

  -- one of the calls of a number's sides
  numbered_place : (number : ℕ) (sides : Imbalance) → AreNumberedSides p numbers number sides → differ sides ≡ true → (c : ℕ) × (slice_get numbers c ≡ Some (Some number)) × IsAmongSides sides c
  numbered_place number sides are on =
      elim (cases_lt 0 (length sides.sends.items)) [
        | inl some ↦
            let c = get_or sides.sends.items 0 0 in
            let at : slice_get sides.sends.items 0 ≡ Some c = slice_get-get_or sides.sends.items 0 0 some in
            (c, (are.sends.sound 0 c at).0, inl (0, at))
        | inr none ↦
            let apart = differs sides on in
            let some : 0 < length sides.takers.items = omega (arith, none, apart) in
            let c = get_or sides.takers.items 0 0 in
            let at : slice_get sides.takers.items 0 ≡ Some c = slice_get-get_or sides.takers.items 0 0 some in
            (c, (are.takers.sound 0 c at).0, inr (0, at))
      ]

  among_channel : (channel : Channel) (sides : Imbalance) (c : ℕ) → AreSides p channel sides → IsAmongSides sides c → channel_at p c ≡ Some channel
  among_channel channel sides c are (inl w) = (are.sends.sound w.0 c w.1).0
  among_channel channel sides c are (inr w) = (are.takers.sound w.0 c w.1).0

  among_number : (number : ℕ) (sides : Imbalance) (c : ℕ) → AreNumberedSides p numbers number sides → IsAmongSides sides c → slice_get numbers c ≡ Some (Some number)
  among_number number sides c are (inl w) = (are.sends.sound w.0 c w.1).0
  among_number number sides c are (inr w) = (are.takers.sound w.0 c w.1).0

  number_among : (number : ℕ) (sides : Imbalance) (c : ℕ) → AreNumberedSides p numbers number sides → slice_get numbers c ≡ Some (Some number) → IsAmongSides sides c
  number_among number sides c are h =
      elim (is_or_not (is_send_at p c)) [
        | inl on ↦ inl (are.sends.all c (h, on))
        | inr off ↦ inr (are.takers.all c (h, off))
      ]

  -- no channel has two numbers
  not_twice : (table : List Imbalance) → AreAllSides p (length numbers) numbers table → (channel : Channel) (one other : Imbalance) → AreSides p channel one → AreSides p channel other → Found differ table one other → ⊥
  not_twice table all channel one other a b w =
      let c = numbered_place w.at one (all.each w.at one w.first) w.passes in
      let d = numbered_place w.later other (all.each w.later other w.second) w.passes_later in
      let num : slice_get numbers d.0 ≡ Some (Some w.at) = to_number c.0 d.0 w.at channel c.1 (among_channel channel one c.0 a c.2) (among_channel channel other d.0 b d.2) in
      let same : w.at ≡ w.later = let e = d.1 in cc in
      omega (arith, same, w.before)

  pub are_imbalances : (table : List Imbalance) → AreAllSides p (length numbers) numbers table → AreImbalances p (filter differ table)
  are_imbalances table all =
      record {
        each = λ i sides at. let w = filter_passes differ table i sides at in is_told w.0 sides (all.each w.0 sides w.1) w.2;
        all = λ channel sends takers are_sends are_takers apart.
            let w = some_place (IsSendInChannel p channel) (IsTakerIn p channel) sends takers are_sends are_takers apart in
            let is : channel_at p w.0 ≡ Some channel = elim w.1 [ inl a ↦ a.0 | inr a ↦ a.0 ] in
            let k = n.named w.0 channel (of_channel w.0 channel is) in
            let below = n.below w.0 k.0 k.1 in
            let s = item_there table k.0 (omega (arith, below, n.size, all.size)) in
            let same = are_sides w.0 k.0 channel s.0 k.1 is (all.each k.0 s.0 s.1) in
            let sends_upto = places_upto (IsSendInChannel p channel) sends s.0.sends.items are_sends same.sends in
            let sends_back = places_upto (IsSendInChannel p channel) s.0.sends.items sends same.sends are_sends in
            let takers_upto = places_upto (IsTakerIn p channel) takers s.0.takers.items are_takers same.takers in
            let takers_back = places_upto (IsTakerIn p channel) s.0.takers.items takers same.takers are_takers in
            let on = not_equal (length s.0.sends.items) (length s.0.takers.items) (length s.0.sends.items == length s.0.takers.items) (refl {a = length s.0.sends.items == length s.0.takers.items}) (λ e. apart (omega (arith, e, sends_upto, sends_back, takers_upto, takers_back))) in
            let t = passes_filter differ table k.0 s.0 s.1 on in
            (t.0, s.0, t.1, same);
        once = λ i j channel one other at later a b. elim (cases_lt i j) [
          | inl before ↦ absurd (not_twice table all channel one other a b (filter_pair differ table one other i j before at later))
          | inr upto ↦ elim (cases_lt j i) [
            | inl after ↦ absurd (not_twice table all channel other one b a (filter_pair differ table other one j i after later at))
            | inr same ↦ omega (arith, upto, same)
          ]
        ];
        rise = λ i sides at. let w = filter_passes differ table i sides at in let s = all.each w.0 sides w.1 in (s.sends_rise, s.takers_rise);
        in_order = λ i j c first later before at at_later among.
            let w = filter_pair differ table first later i j before at at_later in
            let k = n.in_order c w.later w.at (among_number w.later later c (all.each w.later later w.second) among) w.before in
            (k.0, k.1, number_among w.at first k.0 (all.each w.at first w.first) k.2);
      }

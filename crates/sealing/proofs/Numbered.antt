-- Which one of its side each call is: no two calls are the same one.
use Rattle.std.proofs.Common.{◌≡◌, ℕ, zero, suc, ◌+◌, ◌<◌, ◌≤◌, inl, inr, Bool, true, false, cond, ◌&&◌, ◌==◌, List, [], ◌∷◌, ◌++◌, Option, Some, None, is_some, length, take, get_or, slice_get, refl, sym, ap, ◌∙◌, subst, arith}
use Rattle.std.specs.Bool.{beq}
use Rattle.std.specs.Cmp.{booleans_Decides}
use Rattle.std.specs.List.{count_by}
use Rattle.std.specs.Option.{option_eq, unwrap_or}
use Rattle.std.proofs.lemmas.Bool.{cases_eq, cases_lt, eqb-true, eq-eqb}
use Rattle.std.proofs.lemmas.List.{take_more, length-append, get_or_append_left, get_or_push}
use Rattle.std.proofs.lemmas.List.Sums.{sum_by-cons}
use Rattle.std.proofs.lemmas.Option.{same_Some, slice_get_within, slice_get-get_or, get_or_from_slice_get}
use Rattle.calltext.proofs.Conjunctions.{and_true, and_both}
use Rattle.callorder.specs.declared.calls.Call.{Call}
use Rattle.sealing.specs.declared.sides.Side.{Side}
use Rattle.sealing.specs.declared.sides.Wanted.{Wanted}
use Rattle.sealing.specs.declared.occurrences.Occurrence.{Occurrence}
use Rattle.sealing.specs.parts.Sides.{wanted_of, side_of, acts_for, same_side, same_wanted, same_occurrence, occurrence_behind, occurrence_there, occurrence_at, AreCounts, AreOccurrences, ArePlaces, IsAskedByTaker, AreAsked}
use Rattle.sealing.proofs.Acts.{acts_so, side_is, side_with}
use Rattle.phases.proofs.Traffic.{no_more, one_more}

-- ---- equal sides, and equal occurrences

pub unless : (b : Bool) → (b ≡ true → ⊥) → b ≡ false
unless true h = absurd (h refl)
unless false h = refl

pub side_same : (a b : Side) → same_side a b ≡ true → a ≡ b
side_same a b e =
    let first =
    and_true (a.source == b.source) (a.destination == b.destination && (a.tag == b.tag && (a.communicator == b.communicator && beq a.is_send b.is_send))) e in
    let second = and_true (a.destination == b.destination) (a.tag == b.tag && (a.communicator == b.communicator && beq a.is_send b.is_send)) first.1 in
    let third = and_true (a.tag == b.tag) (a.communicator == b.communicator && beq a.is_send b.is_send) second.1 in
    let fourth = and_true (a.communicator == b.communicator) (beq a.is_send b.is_send) third.1 in
    ap (λ (z : ℕ). side_with z a.destination a.tag a.communicator a.is_send) (eqb-true a.source b.source first.0)
    ∙ ap (λ (z : ℕ). side_with b.source z a.tag a.communicator a.is_send) (eqb-true a.destination b.destination second.0)
    ∙ ap (λ (z : ℕ). side_with b.source b.destination z a.communicator a.is_send) (eqb-true a.tag b.tag third.0)
    ∙ ap (λ (z : ℕ). side_with b.source b.destination b.tag z a.is_send) (eqb-true a.communicator b.communicator fourth.0)
    ∙ ap (λ (z : Bool). side_with b.source b.destination b.tag b.communicator z) ((booleans_Decides a.is_send b.is_send).0 fourth.1)

pub same_side_itself : (a : Side) → same_side a a ≡ true
same_side_itself a =
    and_both (a.source == a.source) (a.destination == a.destination && (a.tag == a.tag && (a.communicator == a.communicator && beq a.is_send a.is_send)))
    (eq-eqb a.source a.source refl)
    (and_both (a.destination == a.destination) (a.tag == a.tag && (a.communicator == a.communicator && beq a.is_send a.is_send))
    (eq-eqb a.destination a.destination refl)
    (and_both (a.tag == a.tag) (a.communicator == a.communicator && beq a.is_send a.is_send) (eq-eqb a.tag a.tag refl)
    (and_both (a.communicator == a.communicator) (beq a.is_send a.is_send) (eq-eqb a.communicator a.communicator refl)
    ((booleans_Decides a.is_send a.is_send).1 refl))))

abbrev pub occurrence_with : Side → ℕ → Occurrence
occurrence_with side index = record { side = side; index = index }

pub occurrence_same : (a b : Occurrence) → same_occurrence a b ≡ true → a ≡ b
occurrence_same a b e =
    let parts = and_true (same_side a.side b.side) (a.index == b.index) e in
    ap (λ (z : Side). occurrence_with z a.index) (side_same a.side b.side parts.0) ∙ ap (λ (z : ℕ). occurrence_with b.side z) (eqb-true a.index b.index parts.1)

pub same_occurrence_itself : (a : Occurrence) → same_occurrence a a ≡ true
same_occurrence_itself a = and_both (same_side a.side a.side) (a.index == a.index) (same_side_itself a.side) (eq-eqb a.index a.index refl)

abbrev wanted_with : Option ℕ → ℕ → Option ℕ → ℕ → Wanted
wanted_with source destination tag communicator = record { source = source; destination = destination; tag = tag; communicator = communicator }

option_same : (a b : Option ℕ) → option_eq (λ (x y : ℕ). x == y) a b ≡ true → a ≡ b
option_same None None e = refl
option_same None (Some y) e = absurd (cc)
option_same (Some x) None e = absurd (cc)
option_same (Some x) (Some y) e = ap Some (eqb-true x y e)

same_option_itself : (a : Option ℕ) → option_eq (λ (x y : ℕ). x == y) a a ≡ true
same_option_itself None = refl
same_option_itself (Some x) = eq-eqb x x refl

abbrev same_option : Option ℕ → Option ℕ → Bool
same_option = option_eq (λ (x y : ℕ). x == y)

pub wanted_same : (a b : Wanted) → same_wanted a b ≡ true → a ≡ b
wanted_same a b e =
    let first = and_true (same_option a.source b.source) (a.destination == b.destination && (same_option a.tag b.tag && a.communicator == b.communicator)) e in
    let second = and_true (a.destination == b.destination) (same_option a.tag b.tag && a.communicator == b.communicator) first.1 in
    let third = and_true (same_option a.tag b.tag) (a.communicator == b.communicator) second.1 in
    ap (λ (z : Option ℕ). wanted_with z a.destination a.tag a.communicator) (option_same a.source b.source first.0)
    ∙ ap (λ (z : ℕ). wanted_with b.source z a.tag a.communicator) (eqb-true a.destination b.destination second.0)
    ∙ ap (λ (z : Option ℕ). wanted_with b.source b.destination z a.communicator) (option_same a.tag b.tag third.0)
    ∙ ap (λ (z : ℕ). wanted_with b.source b.destination b.tag z) (eqb-true a.communicator b.communicator third.1)

pub same_wanted_itself : (a : Wanted) → same_wanted a a ≡ true
same_wanted_itself a =
    and_both (same_option a.source a.source) (a.destination == a.destination && (same_option a.tag a.tag && a.communicator == a.communicator))
    (same_option_itself a.source)
    (and_both (a.destination == a.destination) (same_option a.tag a.tag && a.communicator == a.communicator) (eq-eqb a.destination a.destination refl)
    (and_both (same_option a.tag a.tag) (a.communicator == a.communicator) (same_option_itself a.tag) (eq-eqb a.communicator a.communicator refl)))

-- ---- one more call is counted

-- a call of this side
pub side_counted : (calls : List Call) (call : Call) (old new : Side → Option ℕ) (side : Side) (index : ℕ) → side_of call ≡ Some side
    → index ≡ unwrap_or (old side) 0
    → ((other : Side) → new other ≡ cond (same_side side other) (Some (index + 1)) (old other)) → AreCounts calls old
    → (Some (occurrence_with side index) ≡ occurrence_behind calls (side_of call)) × AreCounts (calls ++ call ∷ []) new
side_counted calls call old new side index is first change are = (
  ap (λ (z : ℕ). Some (occurrence_with side z)) (first ∙ are side) ∙ ap (occurrence_behind calls) (sym is),
  λ other. by other (same_side side other) refl,
)
  where
    by : (other : Side) (b : Bool) → same_side side other ≡ b → unwrap_or (new other) 0 ≡ count_by (acts_for other) (calls ++ call ∷ [])
    by other true e =
        let same = side_same side other e in
        let now : new other ≡ Some (index + 1) = change other ∙ ap (λ (z : Bool). cond z (Some (index + 1)) (old other)) e in
        let before : index ≡ count_by (acts_for other) calls = first ∙ are side ∙ ap (λ (z : Side). count_by (acts_for z) calls) same in
        let more = one_more (acts_for other) calls call (acts_so other call (is ∙ ap Some same)) in
        ap (λ (z : Option ℕ). unwrap_or z 0) now ∙ ap (λ (n : ℕ). n + 1) before ∙ sym more
    by other false e =
        let now : new other ≡ old other = change other ∙ ap (λ (z : Bool). cond z (Some (index + 1)) (old other)) e in
        let off : acts_for other call ≡ false = unless (acts_for other call) (λ acts.
        let same : side ≡ other = same_Some side other (sym is ∙ side_is other call acts) in
        let on : same_side side other ≡ true = subst (λ (z : Side). same_side side z ≡ true) same (same_side_itself side) in
        cc) in
        ap (λ (z : Option ℕ). unwrap_or z 0) now ∙ are other ∙ sym (no_more (acts_for other) calls call off)

-- the same, of the calls after one more
pub counts_more : (calls : List Call) (n : ℕ) (d : Call) (counts : Side → Option ℕ) → n < length calls
    → AreCounts (take n calls ++ get_or calls n d ∷ []) counts → AreCounts (take (n + 1) calls) counts
counts_more calls n d counts below are = subst (λ (z : List Call). AreCounts z counts) (sym (take_more calls n d below)) are

-- ---- a list of them

pub occurrences_more : (calls : List Call) (n : ℕ) (d : Call) (list : List (Option Occurrence)) (one : Option Occurrence) → n < length calls
    → one ≡ occurrence_behind (take n calls) (side_of (get_or calls n d)) → AreOccurrences calls n list
    → AreOccurrences calls (n + 1) (list ++ one ∷ [])
occurrences_more calls n d list one below is are =
    record {
      size = let more = length-append list (one ∷ []) in let size = are.size in let single : length (one ∷ []) ≡ 1 = refl in omega (arith, more, size, single);
      each = λ c low. elim (cases_lt c n) [
        | inl before ↦ get_or_append_left list (one ∷ []) None c (let size = are.size in omega (arith, size, before)) ∙ are.each c before
        | inr high ↦
            let here : c ≡ n = omega (arith, low, high) in
            get_or_push list one None c (let size = are.size in omega (arith, size, here)) ∙ is
            ∙ ap (occurrence_there calls n) (sym (slice_get-get_or calls n d below)) ∙ ap (occurrence_at calls) (sym here)
      ];
    }

pub record Occurs (calls : List Call) (c : ℕ) (one : Occurrence) : Type 0 where
  pub call : Call
  pub there : slice_get calls c ≡ Some call
  pub side : side_of call ≡ Some one.side
  pub index : one.index ≡ count_by (acts_for one.side) (take c calls)

occurs_behind : (calls : List Call) (side : Option Side) (one : Occurrence) → occurrence_behind calls side ≡ Some one
    → (side ≡ Some one.side) × (one.index ≡ count_by (acts_for one.side) calls)
occurs_behind calls None one e = absurd (cc)
occurs_behind calls (Some side) one e =
    let same = same_Some (occurrence_with side (count_by (acts_for side) calls)) one e in (
      ap (λ (z : Occurrence). Some z.side) same,
      sym (ap (λ (z : Occurrence). z.index) same) ∙ ap (λ (z : Occurrence). count_by (acts_for z.side) calls) same,
    )

pub occurs : (calls : List Call) (c : ℕ) (one : Occurrence) → occurrence_at calls c ≡ Some one → Occurs calls c one
occurs calls c one e = by (slice_get calls c) refl
  where
    by : (o : Option Call) → slice_get calls c ≡ o → Occurs calls c one
    by None is = absurd (let f = ap (occurrence_there calls c) (sym is) ∙ e in cc)
    by (Some call) is =
        let parts = occurs_behind (take c calls) (side_of call) one (ap (occurrence_there calls c) (sym is) ∙ e) in
        record { call = call; there = is; side = parts.0; index = parts.1 }

pub occurs_so : (calls : List Call) (c : ℕ) (call : Call) (side : Side) → slice_get calls c ≡ Some call → side_of call ≡ Some side
    → occurrence_at calls c ≡ Some (occurrence_with side (count_by (acts_for side) (take c calls)))
occurs_so calls c call side there is = ap (occurrence_there calls c) there ∙ ap (occurrence_behind (take c calls)) is

-- ---- no two calls are the same one

counts_grow : (test : Call → Bool) (calls : List Call) (c d : ℕ) → c ≤ d → count_by test (take c calls) ≤ count_by test (take d calls)
counts_grow test [] zero zero le = omega arith
counts_grow test [] zero (suc d) le = omega arith
counts_grow test [] (suc c) zero le = absurd (omega (arith, le))
counts_grow test [] (suc c) (suc d) le = omega arith
counts_grow test (x ∷ calls) zero d le = let none : count_by test (take zero (x ∷ calls)) ≡ 0 = refl in omega (arith, none)
counts_grow test (x ∷ calls) (suc c) zero le = absurd (omega (arith, le))
counts_grow test (x ∷ calls) (suc c) (suc d) le =
    let rest = counts_grow test calls c d (omega (arith, le)) in
    omega (arith, rest, sum_by-cons (λ (y : Call). cond (test y) 1 0) x (take c calls), sum_by-cons (λ (y : Call). cond (test y) 1 0) x (take d calls))

counts_past : (test : Call → Bool) (calls : List Call) (c d : ℕ) (call : Call) → c < d → slice_get calls c ≡ Some call → test call ≡ true
    → count_by test (take c calls) < count_by test (take d calls)
counts_past test calls c d call before there on =
    let within = slice_get_within calls c call there in
    let own = get_or_from_slice_get calls c call call there in
    let front : take (c + 1) calls ≡ take c calls ++ call ∷ [] = take_more calls c call within ∙ ap (λ (z : Call). take c calls ++ z ∷ []) own in
    let here : count_by test (take (c + 1) calls) ≡ count_by test (take c calls) + 1 = ap (count_by test) front ∙ one_more test (take c calls) call on in
    let more = counts_grow test calls (c + 1) d (omega (arith, before)) in
    omega (arith, here, more)

-- of two such calls none stands before the other
not_before : (calls : List Call) (c d : ℕ) (one : Occurrence) → Occurs calls c one → Occurs calls d one → c < d → ⊥
not_before calls c d one x y before =
    let past = counts_past (acts_for one.side) calls c d x.call before x.there (acts_so one.side x.call x.side) in
    let a = x.index in
    let b = y.index in
    omega (arith, past, a, b)

pub one_place : (calls : List Call) (c d : ℕ) (one : Occurrence) → occurrence_at calls c ≡ Some one → occurrence_at calls d ≡ Some one → c ≡ d
one_place calls c d one first second =
    let x = occurs calls c one first in
    let y = occurs calls d one second in
    elim (cases_lt c d) [
      | inl before ↦ absurd (not_before calls c d one x y before)
      | inr high ↦ elim (cases_lt d c) [
        | inl behind ↦ absurd (not_before calls d c one y x behind)
        | inr low ↦ omega (arith, high, low)
      ]
    ]

-- ---- their places

pub unplaced : (list : List (Option Occurrence)) (n : ℕ) (places : Occurrence → Option ℕ) → slice_get list n ≡ Some None → ArePlaces list n places
    → ArePlaces list (n + 1) places
unplaced list n places here are =
    record {
      there = λ one c is. let w = are.there one c is in (let low = w.0 in omega (arith, low), w.1);
      each = λ one c below at. elim (cases_eq c n) [
        | inl e ↦ absurd (let same : slice_get list c ≡ Some None = ap (slice_get list) e ∙ here in cc (same, at))
        | inr differ ↦ are.each one c (omega (arith, below, differ)) at
      ];
    }

pub placed : (list : List (Option Occurrence)) (n : ℕ) (old new : Occurrence → Option ℕ) (here : Occurrence) → slice_get list n ≡ Some (Some here)
    → ((one : Occurrence) → new one ≡ cond (same_occurrence here one) (Some n) (old one)) → ArePlaces list n old → ArePlaces list (n + 1) new
placed list n old new here at change are =
    record {
      there = λ one c is. there_by one c (same_occurrence here one) refl is;
      each = λ one c below is. each_by one c (same_occurrence here one) refl below is;
    }
  where
    there_by : (one : Occurrence) (c : ℕ) (b : Bool) → same_occurrence here one ≡ b → new one ≡ Some c → (c < n + 1) × (slice_get list c ≡ Some (Some one))
    there_by one c true e is =
        let now : new one ≡ Some n = change one ∙ ap (λ (z : Bool). cond z (Some n) (old one)) e in
        let place : n ≡ c = same_Some n c (sym now ∙ is) in
        (omega (arith, place), ap (slice_get list) (sym place) ∙ at ∙ ap (λ (z : Occurrence). Some (Some z)) (occurrence_same here one e))
    there_by one c false e is =
        let now : new one ≡ old one = change one ∙ ap (λ (z : Bool). cond z (Some n) (old one)) e in
        let w = are.there one c (sym now ∙ is) in
        (let low = w.0 in omega (arith, low), w.1)

    each_by : (one : Occurrence) (c : ℕ) (b : Bool) → same_occurrence here one ≡ b → c < n + 1 → slice_get list c ≡ Some (Some one) → is_some (new one) ≡ true
    each_by one c true e below is = ap is_some (change one ∙ ap (λ (z : Bool). cond z (Some n) (old one)) e)
    each_by one c false e below is =
        elim (cases_eq c n) [
          | inl place ↦ absurd (
              let same : here ≡ one = same_Some here one (same_Some (Some here) (Some one) (sym at ∙ ap (slice_get list) (sym place) ∙ is)) in
              let on : same_occurrence here one ≡ true = subst (λ (z : Occurrence). same_occurrence here z ≡ true) same (same_occurrence_itself here) in
              cc (on, e))
          | inr differ ↦
              ap is_some (change one ∙ ap (λ (z : Bool). cond z (Some n) (old one)) e) ∙ are.each one c (omega (arith, below, differ)) is
        ]

-- ---- what takers ask for

pub not_asked : (calls : List Call) (n : ℕ) (asked : Wanted → Bool) (here : Call) → slice_get calls n ≡ Some here → wanted_of here ≡ None
    → AreAsked calls n asked → AreAsked calls (n + 1) asked
not_asked calls n asked here at none are =
    record {
      some = are.some;
      each = λ c call wanted below there is. elim (cases_eq c n) [
        | inl e ↦ absurd (
            let same : here ≡ call = same_Some here call (sym at ∙ ap (slice_get calls) (sym e) ∙ there) in
            let off : wanted_of call ≡ None = ap wanted_of (sym same) ∙ none in
            cc (off, is))
        | inr differ ↦ are.each c call wanted (omega (arith, below, differ)) there is
      ];
    }

pub one_asked : (calls : List Call) (n : ℕ) (old new : Wanted → Bool) (here : Call) (own : Wanted) → slice_get calls n ≡ Some here → wanted_of here ≡ Some own
    → ((wanted : Wanted) → new wanted ≡ cond (same_wanted own wanted) true (old wanted)) → AreAsked calls n old → AreAsked calls (n + 1) new
one_asked calls n old new here own at asks change are =
    record {
      some = λ wanted is. some_by wanted (same_wanted own wanted) refl is;
      each = λ c call wanted below there is. each_by c call wanted (same_wanted own wanted) refl below there is;
    }
  where
    some_by : (wanted : Wanted) (b : Bool) → same_wanted own wanted ≡ b → new wanted ≡ true → IsAskedByTaker calls wanted
    some_by wanted true e is = record { place = n; call = here; there = at; asks = asks ∙ ap Some (wanted_same own wanted e) }
    some_by wanted false e is = are.some wanted (sym (change wanted ∙ ap (λ (z : Bool). cond z true (old wanted)) e) ∙ is)

    each_by : (c : ℕ) (call : Call) (wanted : Wanted) (b : Bool) → same_wanted own wanted ≡ b → c < n + 1 → slice_get calls c ≡ Some call
        → wanted_of call ≡ Some wanted → new wanted ≡ true
    each_by c call wanted true e below there is = change wanted ∙ ap (λ (z : Bool). cond z true (old wanted)) e
    each_by c call wanted false e below there is =
        elim (cases_eq c n) [
          | inl place ↦ absurd (
              let same : here ≡ call = same_Some here call (sym at ∙ ap (slice_get calls) (sym place) ∙ there) in
              let one : own ≡ wanted = same_Some own wanted (sym asks ∙ ap wanted_of same ∙ is) in
              let on : same_wanted own wanted ≡ true = subst (λ (z : Wanted). same_wanted own z ≡ true) one (same_wanted_itself own) in
              cc (on, e))
          | inr differ ↦ change wanted ∙ ap (λ (z : Bool). cond z true (old wanted)) e ∙ are.each c call wanted (omega (arith, below, differ)) there is
        ]

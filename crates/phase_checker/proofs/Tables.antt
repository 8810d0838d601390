-- Tables of an order of phases, one entry more at a time.
use Rattle.std.proofs.Common.{◌≡◌, ◌≢◌, ℕ, ◌+◌, ◌-◌, ◌<◌, ◌≤◌, ◌⊎◌, inl, inr, Bool, true, false, if◌then◌else◌, max, List, [], ◌∷◌, ◌++◌, Option, Some, None, IfSome, length, take, get_or, set, slice_get, refl, sym, ap, ◌∙◌, subst, arith, length-set, length-append, get_or-set_same, get_or-set_other}
use Rattle.std.specs.List.{list_any}
use Rattle.std.specs.Global.{Vec}
use Rattle.std.proofs.lemmas.Bool.{cases_eq, cases_lt}
use Rattle.std.proofs.lemmas.List.{get_or-take, length-take-le}
use Rattle.std.proofs.lemmas.Option.{same_Some, slice_get_read, slice_get_within, slice_get-get_or, get_or_from_slice_get}
use Rattle.interning.proofs.Numbering.{pushed_front, pushed_last}
use Rattle.sealing.specs.declared.loose.Loose.{Loose}
use Rattle.sealing.specs.Sealing.{AreLoose}
use Rattle.phase_checker.specs.declared.phase.Phase.{Phase}
use Rattle.phase_checker.specs.declared.senders.Senders.{Senders}
use Rattle.phase_checker.specs.parts.Early.{AreLooseEnds, AreLast, AreSenders, is_sent, place_sent, IsRaisedToPlace}

-- ---- last places

-- the table for the places before this one
pub record IsLastTo (count : ℕ) (order : List ℕ) (last : List (Option ℕ)) (place : ℕ) : Type 0 where
  pub size : length last ≡ count
  pub stands : (number at : ℕ) → get_or last number None ≡ Some at → slice_get order at ≡ Some number
  pub past : (other number : ℕ) → other < place → slice_get order other ≡ Some number → number < count → (at : ℕ) × (get_or last number None ≡ Some at) × (other ≤ at)

pub last_done : (count : ℕ) (order : List ℕ) (last : List (Option ℕ)) (place : ℕ) → IsLastTo count order last place → length order ≤ place → AreLast count order last
last_done count order last place so_far all =
    record { size = so_far.size; stands = so_far.stands; past = λ other number there. so_far.past other number (omega (arith, all, slice_get_within order other number there)) there }

module _ (count : ℕ) (order : List ℕ) (last : List (Option ℕ)) (place : ℕ) (so_far : IsLastTo count order last place) (number : ℕ) (here : slice_get order place ≡ Some number) where
  pub last_put : number < count → IsLastTo count order (set last number (Some place)) (place + 1)
  last_put within = record { size = length-set last number (Some place) ∙ so_far.size; stands = stands; past = past }
    where
      same : get_or (set last number (Some place)) number None ≡ Some place
      same = get_or-set_same last number (Some place) None (omega (arith, within, so_far.size))

      other_is : (n : ℕ) → n ≢ number → get_or (set last number (Some place)) n None ≡ get_or last n None
      other_is n differ = get_or-set_other last number n (Some place) None differ

      stands : (n at : ℕ) → get_or (set last number (Some place)) n None ≡ Some at → slice_get order at ≡ Some n
      stands n at is = elim (cases_eq n number) [
        | inl e ↦
            let there : Some place ≡ Some at = sym same ∙ ap (λ (z : ℕ). get_or (set last number (Some place)) z None) (sym e) ∙ is in
            ap (slice_get order) (sym (same_Some place at there)) ∙ here ∙ ap (λ (z : ℕ). Some z) (sym e)
        | inr differ ↦ so_far.stands n at (sym (other_is n differ) ∙ is)
      ]

      past : (other n : ℕ) → other < place + 1 → slice_get order other ≡ Some n → n < count → (at : ℕ) × (get_or (set last number (Some place)) n None ≡ Some at) × (other ≤ at)
      past other n low there few = elim (cases_eq n number) [
        | inl e ↦ (place, ap (λ (z : ℕ). get_or (set last number (Some place)) z None) e ∙ same, omega (arith, low))
        | inr differ ↦ elim (cases_lt other place) [
          | inl before ↦ let old = so_far.past other n before there few in (old.0, other_is n differ ∙ old.1, old.2)
          | inr from ↦
              let e : other ≡ place = omega (arith, low, from) in
              absurd (differ (same_Some n number (sym there ∙ ap (slice_get order) e ∙ here)))
        ]
      ]

  pub last_passed : (number < count → ⊥) → IsLastTo count order last (place + 1)
  last_passed outside = record {
    size = so_far.size;
    stands = so_far.stands;
    past = λ other n low there few. elim (cases_lt other place) [
      | inl before ↦ so_far.past other n before there few
      | inr from ↦
          let e : other ≡ place = omega (arith, low, from) in
          let same : n ≡ number = same_Some n number (sym there ∙ ap (slice_get order) e ∙ here) in
          absurd (outside (omega (arith, same, few)))
    ];
  }

-- what was read at a number
pub read_at : (count : ℕ) (order : List ℕ) (last : List (Option ℕ)) (number : ℕ) (x : Option ℕ) → AreLast count order last → number < count
    → x ≡ get_or last number x → get_or last number None ≡ x
read_at count order last number x are within is =
    get_or_from_slice_get last number x None (slice_get_read last (length last) number x refl (omega (arith, within, are.size)) is)

-- ---- loose ends

-- what could be sent too early to the phases before this number
pub record IsEndsTo (phases : List Phase) (followed : List (Option ℕ)) (ends : List (Vec Loose)) (count : ℕ) : Type 0 where
  pub size : length ends ≡ count
  pub each : (number at : ℕ) (phase : Phase) → number < count → slice_get phases number ≡ Some phase → get_or followed number None ≡ Some at
      → (list : Vec Loose) × (slice_get ends number ≡ Some list) × AreLoose phase.program list.items

-- what could be sent too early to the phase, where others follow it
abbrev pub AreEndsOf : Phase → List Loose → Option ℕ → Type 0
AreEndsOf phase list followed = IfSome followed (λ place. AreLoose phase.program list)

module _ (phases : List Phase) (followed : List (Option ℕ)) (ends : List (Vec Loose)) (count : ℕ) (so_far : IsEndsTo phases followed ends count) where
  pub ends_more : (phase : Phase) (list : Vec Loose) (x : Option ℕ) → slice_get phases count ≡ Some phase → get_or followed count None ≡ x → AreEndsOf phase list.items x
      → IsEndsTo phases followed (ends ++ list ∷ []) (count + 1)
  ends_more phase list x here x_is loose = record {
    size = omega (arith, length-append ends (list ∷ []), so_far.size);
    each = λ number at other low there at_is. elim (cases_lt number count) [
      | inl before ↦ let old = so_far.each number at other before there at_is in (old.0, pushed_front ends list old.0 number old.1, old.2)
      | inr from ↦
          let e : number ≡ count = omega (arith, low, from) in
          let same : phase ≡ other = same_Some phase other (sym here ∙ ap (slice_get phases) (sym e) ∙ there) in
          let some : x ≡ Some at = sym x_is ∙ ap (λ (z : ℕ). get_or followed z None) (sym e) ∙ at_is in
          let own : AreLoose phase.program list.items = subst (AreEndsOf phase list.items) some loose in
          (list, pushed_last ends list number (e ∙ sym so_far.size), subst (λ (z : Phase). AreLoose z.program list.items) same own)
    ];
  }

  pub ends_done : (order earlier : List ℕ) → earlier ≡ take (length order - 1) order → AreLast (length phases) earlier followed → count ≡ length phases → AreLooseEnds phases order ends
  ends_done order earlier cut last all = record {
    size = so_far.size ∙ all;
    each = λ place number phase more entry there.
        let within = slice_get_within phases number phase there in
        let old = last.past place number (before place number more entry) within in
        so_far.each number old.0 phase (omega (arith, within, all)) there old.1;
  }
    where
      before : (place number : ℕ) → place + 1 < length order → slice_get order place ≡ Some number → slice_get earlier place ≡ Some number
      before place number more entry =
          let front = take (length order - 1) order in
          let size = length-take-le (length order - 1) order (omega arith) in
          let is : get_or front place 0 ≡ number = get_or-take (length order - 1) order place 0 (omega (arith, more)) ∙ get_or_from_slice_get order place number 0 entry in
          let stands : slice_get front place ≡ Some number = slice_get-get_or front place 0 (omega (arith, size, more)) ∙ ap (λ (z : ℕ). Some z) is in
          ap (λ (z : List ℕ). slice_get z place) cut ∙ stands

-- ---- senders

-- the phase has a send that the key stands for
abbrev pub Sends : Loose → Phase → Type 0
Sends key phase = list_any (is_sent key) phase.program.calls ≡ true

-- a phase that has one and stands last at this place
abbrev pub IsSentLast : List Phase → List (Option ℕ) → Loose → ℕ → Type 0
IsSentLast phases last key place = (number : ℕ) × (phase : Phase) × (slice_get phases number ≡ Some phase) × (get_or last number None ≡ Some place) × Sends key phase

-- what the phases before this number send, and how late
pub record IsSendersTo (phases : List Phase) (last : List (Option ℕ)) (senders : Senders) (count : ℕ) : Type 0 where
  pub sent : (key : Loose) → 0 < place_sent senders key → IsSentLast phases last key (place_sent senders key)
  pub past : (key : Loose) (number place : ℕ) (phase : Phase) → number < count → slice_get phases number ≡ Some phase → get_or last number None ≡ Some place → Sends key phase
      → place ≤ place_sent senders key

-- The entry of a key when a phase is put at a place, which sends what the key stands for where the
-- test says so: it is the place or the old entry, and no less than either.
abbrev IsEntry : ℕ → ℕ → ℕ → Bool → Type 0
IsEntry old place new sends = (((sends ≡ true) × (new ≡ place)) ⊎ (new ≡ old)) × (old ≤ new) × (sends ≡ true → place ≤ new)

entry_is : (old place new : ℕ) (b : Bool) → new ≡ (if b then max old place else old) → IsEntry old place new b
entry_is old place new true is = elim (cases_lt old place) [
  | inl low ↦ (inl (refl, omega (arith, is, low)), omega (arith, is, low), λ on. omega (arith, is, low))
  | inr high ↦ (inr (omega (arith, is, high)), omega (arith, is, high), λ on. omega (arith, is, high))
]
entry_is old place new false is = (inr is, omega (arith, is), λ on. absurd (cc))

module _ (phases : List Phase) (last : List (Option ℕ)) (senders : Senders) (count : ℕ) (so_far : IsSendersTo phases last senders count) where
  module _ (phase : Phase) (here : slice_get phases count ≡ Some phase) where
    module _ (more : Senders) (place : ℕ) (at : get_or last count None ≡ Some place) (raised : IsRaisedToPlace (λ key. list_any (is_sent key) phase.program.calls) place senders more) where
      entry : (key : Loose) → IsEntry (place_sent senders key) place (place_sent more key) (list_any (is_sent key) phase.program.calls)
      entry key = entry_is (place_sent senders key) place (place_sent more key) (list_any (is_sent key) phase.program.calls) (raised key)

      pub senders_more : IsSendersTo phases last more (count + 1)
      senders_more = record { sent = sent; past = past }
        where
          sent : (key : Loose) → 0 < place_sent more key → IsSentLast phases last key (place_sent more key)
          sent key some = elim ((entry key).0) [
            | inl (sends, is) ↦ (count, phase, here, at ∙ ap (λ (z : ℕ). Some z) (sym is), sends)
            | inr is ↦ subst (IsSentLast phases last key) (sym is) (so_far.sent key (omega (arith, some, is)))
          ]

          past : (key : Loose) (number place' : ℕ) (other : Phase) → number < count + 1 → slice_get phases number ≡ Some other → get_or last number None ≡ Some place' → Sends key other
              → place' ≤ place_sent more key
          past key number place' other low there is sends = elim (cases_lt number count) [
            | inl before ↦ omega (arith, (entry key).1, so_far.past key number place' other before there is sends)
            | inr from ↦
                let same : number ≡ count = omega (arith, low, from) in
                let phase_is : other ≡ phase = same_Some other phase (sym there ∙ ap (slice_get phases) same ∙ here) in
                let place_is : place' ≡ place = same_Some place' place (sym is ∙ ap (λ (z : ℕ). get_or last z None) same ∙ at) in
                let high = (entry key).2 (subst (Sends key) phase_is sends) in
                omega (arith, high, place_is)
          ]

  pub senders_passed : get_or last count None ≡ None → IsSendersTo phases last senders (count + 1)
  senders_passed none = record {
    sent = so_far.sent;
    past = λ key number place other low there is sends. elim (cases_lt number count) [
      | inl before ↦ so_far.past key number place other before there is sends
      | inr from ↦
          let same : number ≡ count = omega (arith, low, from) in
          let never : None ≡ Some place = sym none ∙ ap (λ (z : ℕ). get_or last z None) (sym same) ∙ is in
          absurd (cc)
    ];
  }

  pub senders_done : (order : List ℕ) → AreLast (length phases) order last → count ≡ length phases → AreSenders phases order senders
  senders_done order are all = record {
    sent = λ key some.
        let old = so_far.sent key some in
        (old.1, record { number = old.0; entry = are.stands old.0 (place_sent senders key) old.3; there = old.2 }, old.4);
    past = λ key place phase is sends.
        let within = slice_get_within phases is.number phase is.there in
        let at = are.past place is.number is.entry within in
        let high = so_far.past key is.number at.0 phase (omega (arith, within, all)) is.there at.1 sends in
        omega (arith, high, at.2);
  }

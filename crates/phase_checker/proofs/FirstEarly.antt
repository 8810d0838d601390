-- The first place before its reach is the first for whose phase a later one may send too early.
use Rattle.std.proofs.Common.{◌≡◌, ℕ, ◌<◌, inl, inr, List, Option, Some, None, length, get_or, slice_get, sym, ap, ◌∙◌, arith}
use Rattle.std.specs.Global.{Vec}
use Rattle.std.proofs.lemmas.Bool.{cases_lt}
use Rattle.std.proofs.lemmas.List.{get_or_past}
use Rattle.std.proofs.lemmas.Option.{same_Some, slice_get_cases, slice_get_within}
use Rattle.sealing.specs.declared.loose.Loose.{Loose}
use Rattle.phase_checker.specs.declared.phase.Phase.{Phase}
use Rattle.phase_checker.specs.declared.senders.Senders.{Senders}
use Rattle.phase_checker.specs.Dealing.{IsAt, IsEarly}
use Rattle.phase_checker.specs.parts.Early.{AreEmpty, AreLooseEnds, AreReachesOfLists, AreSenders, IsFirstWithin, place_sent}
use Rattle.phase_checker.specs.parts.Parts.{IsFirstEarly}
use Rattle.phase_checker.proofs.Sent.{loose_is_sent, sent_is_loose}

-- what stands in a list stands in each one that is there in its place
in_own : (ends : List (Vec Loose)) (number index : ℕ) (list own : Vec Loose) (entry : Loose) → slice_get ends number ≡ Some list
    → slice_get ends number ≡ Some own → slice_get list.items index ≡ Some entry → slice_get own.items index ≡ Some entry
in_own ends number index list own entry a b there = ap (λ (z : Vec Loose). slice_get z.items index) (same_Some own list (sym b ∙ a)) ∙ there

at_within : {X : Type 0} (xs : List X) (i : ℕ) → i < length xs → (x : X) × (slice_get xs i ≡ Some x)
at_within xs i within = elim ((slice_get_cases xs i).1) [
  | inl (x, low, there, is) ↦ (x, there)
  | inr (past, none) ↦ absurd (omega (arith, within, past))
]

module _ (phases : List Phase) (order : List ℕ) (ends : List (Vec Loose)) (are_ends : AreLooseEnds phases order ends) where
  -- what stands for a send that comes too early
  entry_of : (place : ℕ) (phase : Phase) (is : IsAt phases order place phase) (early : IsEarly phases order place phase)
      → (list : Vec Loose) × (slice_get ends is.number ≡ Some list) × (index : ℕ) × (slice_get list.items index ≡ Some early.entry)
  entry_of place phase is early =
      let past = slice_get_within order early.later early.is.number early.is.entry in
      let list = are_ends.each place is.number phase (omega (arith, past, early.behind)) is.entry is.there in
      let at = (list.2 early.entry).1 early.loose in
      (list.0, list.1, at.0, at.1)

  pub none_is_early : AreEmpty ends → IsFirstEarly phases order None
  none_is_early none = λ place phase is early.
      let at = entry_of place phase is early in
      let inside = slice_get_within at.0.items at.2 early.entry at.3 in
      omega (arith, inside, ap length (none is.number at.0 at.1))

  module _ (senders : Senders) (reaches : List ℕ) (are_senders : AreSenders phases order senders) (are_reaches : AreReachesOfLists senders ends reaches) where
    -- a place for whose phase a later one may send too early is before its reach
    early_is_within : (place : ℕ) (phase : Phase) (is : IsAt phases order place phase) → IsEarly phases order place phase → place < get_or reaches is.number 0
    early_is_within place phase is early =
        let at = entry_of place phase is early in
        let low = (are_reaches.each is.number at.0 at.1).past at.2 early.entry at.3 in
        let high = are_senders.past early.entry early.later early.other early.is (loose_is_sent early.entry early.other.program early.sends) in
        omega (arith, early.behind, low, high)

    -- and no other one is
    within_is_early : (place number : ℕ) → slice_get order place ≡ Some number → place < get_or reaches number 0
        → (phase : Phase) × IsAt phases order place phase × IsEarly phases order place phase
    within_is_early place number entry within = elim (cases_lt number (length reaches)) [
      | inl inside ↦ found (at_within phases number (omega (arith, inside, are_reaches.size, are_ends.size)))
      | inr past ↦ absurd (omega (arith, within, get_or_past reaches number 0 past))
    ]
      where
        found : (phase : Phase) × (slice_get phases number ≡ Some phase) → (phase : Phase) × IsAt phases order place phase × IsEarly phases order place phase
        found (phase, there) =
            let list = at_within ends number (omega (arith, slice_get_within phases number phase there, are_ends.size)) in
            let reach = (are_reaches.each number list.0 list.1).reached (omega (arith, within)) in
            let sent = are_senders.sent reach.1 (omega (arith, within, reach.3)) in
            let behind = slice_get_within order (place_sent senders reach.1) sent.1.number sent.1.entry in
            let own = are_ends.each place number phase (omega (arith, behind, within, reach.3)) entry there in
            let stands = in_own ends number reach.0 list.0 own.0 reach.1 list.1 own.1 reach.2 in (
              phase,
              record { number = number; entry = entry; there = there },
              record {
                entry = reach.1;
                loose = (own.2 reach.1).0 (reach.0, stands);
                later = place_sent senders reach.1;
                behind = omega (arith, within, reach.3);
                other = sent.0;
                is = sent.1;
                sends = sent_is_loose reach.1 sent.0.program sent.2;
              },
            )

    pub first_is_early : (first : Option ℕ) → IsFirstWithin order reaches first → IsFirstEarly phases order first
    first_is_early None none = λ place phase is early.
        let low = early_is_within place phase is early in
        let high = none place is.number is.entry in
        omega (arith, low, high)
    first_is_early (Some at) found = (
      within_is_early at found.0.0 found.0.1 found.0.2,
      λ place phase before is early.
          let low = early_is_within place phase is early in
          let high = found.1 place is.number before is.entry in
          omega (arith, low, high),
    )

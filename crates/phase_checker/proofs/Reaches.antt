-- How late something is sent to a phase that might come too early.
use Rattle.std.proofs.Common.{◌≡◌, ℕ, ◌+◌, ◌<◌, ◌≤◌, inl, inr, List, [], ◌∷◌, ◌++◌, Some, length, get_or, slice_get, refl, sym, ap, ◌∙◌, subst, arith, length-append}
use Rattle.std.proofs.Math.Seq.{get_or-append_seam}
use Rattle.std.specs.Global.{Vec}
use Rattle.std.proofs.lemmas.Bool.{cases_lt}
use Rattle.std.proofs.lemmas.List.{get_or_append_left}
use Rattle.std.proofs.lemmas.Option.{same_Some, slice_get_read, slice_get_within}
use Rattle.sealing.specs.declared.loose.Loose.{Loose}
use Rattle.phase_checker.specs.declared.senders.Senders.{Senders}
use Rattle.phase_checker.specs.parts.Early.{AreReachesOfLists, IsReachOfList, place_sent}

-- the last place at which something of the list before this index is sent, or 0
pub record IsReachTo (senders : Senders) (list : List Loose) (reach index : ℕ) : Type 0 where
  pub reached : 0 < reach → (place : ℕ) × (entry : Loose) × (slice_get list place ≡ Some entry) × (place_sent senders entry ≡ reach)
  pub past : (place : ℕ) (entry : Loose) → place < index → slice_get list place ≡ Some entry → place_sent senders entry ≤ reach

-- the reach of each list before this number
pub record AreReachesTo (senders : Senders) (ends : List (Vec Loose)) (reaches : List ℕ) (count : ℕ) : Type 0 where
  pub size : length reaches ≡ count
  pub each : (number : ℕ) (list : Vec Loose) → number < count → slice_get ends number ≡ Some list → IsReachOfList senders list.items (get_or reaches number 0)

pub reaches_more : (senders : Senders) (ends : List (Vec Loose)) (reaches : List ℕ) (count reach : ℕ) (item : Vec Loose) → AreReachesTo senders ends reaches count
    → count < length ends → item ≡ get_or ends count item → IsReachOfList senders item.items reach → AreReachesTo senders ends (reaches ++ reach ∷ []) (count + 1)
reaches_more senders ends reaches count reach item so_far within is reaches_it = record {
  size = omega (arith, length-append reaches (reach ∷ []), so_far.size);
  each = λ number list low there. elim (cases_lt number count) [
    | inl before ↦
        let same = get_or_append_left reaches (reach ∷ []) 0 number (omega (arith, before, so_far.size)) in
        subst (IsReachOfList senders list.items) (sym same) (so_far.each number list before there)
    | inr from ↦
        let e : number ≡ length reaches = omega (arith, low, from, so_far.size) in
        let last = ap (λ (z : ℕ). get_or (reaches ++ reach ∷ []) z 0) e ∙ get_or-append_seam reaches reach [] 0 in
        let here = slice_get_read ends (length ends) count item refl within is in
        let same : item ≡ list = same_Some item list (sym here ∙ ap (slice_get ends) (sym so_far.size ∙ sym e) ∙ there) in
        subst (IsReachOfList senders list.items) (sym last) (subst (λ (z : Vec Loose). IsReachOfList senders z.items reach) same reaches_it)
  ];
}

pub reaches_done : (senders : Senders) (ends : List (Vec Loose)) (reaches : List ℕ) (count : ℕ) → AreReachesTo senders ends reaches count → count ≡ length ends
    → AreReachesOfLists senders ends reaches
reaches_done senders ends reaches count so_far all = record {
  size = so_far.size ∙ all;
  each = λ number list there. so_far.each number list (omega (arith, all, slice_get_within ends number list there)) there;
}

-- nothing is in the lists before this index
abbrev pub AreEmptyTo : List (Vec Loose) → ℕ → Type 0
AreEmptyTo ends index = (number : ℕ) (list : Vec Loose) → number < index → slice_get ends number ≡ Some list → list.items ≡ []

pub empty_so_far : (ends : List (Vec Loose)) (index : ℕ) (item : Vec Loose) → AreEmptyTo ends index → index < length ends → item ≡ get_or ends index item → item.items ≡ []
    → AreEmptyTo ends (index + 1)
empty_so_far ends index item so_far within is none number list low there = elim (cases_lt number index) [
  | inl before ↦ so_far number list before there
  | inr from ↦
      let e : number ≡ index = omega (arith, low, from) in
      let here = slice_get_read ends (length ends) index item refl within is in
      let same : list ≡ item = same_Some list item (sym there ∙ ap (slice_get ends) e ∙ here) in
      ap (λ (z : Vec Loose). z.items) same ∙ none
]

pub none_in : {X : Type 0} (xs : List X) → length xs ≡ 0 → xs ≡ []
none_in [] none = refl
none_in (x ∷ xs) none = absurd (omega (arith, none))

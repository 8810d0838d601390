-- Supplies that are dealt out, and that change.
use Rattle.std.proofs.Common.{◌≡◌, ℕ, Bool, ◌+◌, ◌<◌, List, [], ◌∷◌, ◌++◌, All, length, get_or, set, map, count_by, refl, sym, ap, subst, ◌∙◌, arith}
use Rattle.std.proofs.lemmas.List.{length-map}
use Rattle.std.proofs.lemmas.List.Elements.{AllZip-get_or, length_all_zip}
use Rattle.std.specs.List.{AllZip, flat_map}
use Rattle.steal.specs.declared.seats.OwnerSeat.{OwnerSeat}
use Rattle.steal.specs.declared.seats.ThiefSeat.{ThiefSeat}
use Rattle.steal.specs.declared.supply.Supply.{Supply}
use Rattle.steal.specs.parts.Rows.{IsFreshOwner}
use Rattle.steal.specs.Seats.{pushed, popped, stolen_by, IsThiefOf, IsSameOwner, IsSameThief}
use Rattle.steal.specs.Supplies.{given, given_by, taken, taken_by_supplies, owners_of, AreSupplies, IsSameSupply, SuppliesStay}
use Rattle.steal.proofs.Moves.{count_by-append}
use Rattle.steal.proofs.Places.{All-from_map, AllZip-map, AllZip-refl, AllZip-set, AllZip-trans}

module _ (count : ℕ) (owners : List OwnerSeat) (supplies : List Supply) (all : owners_of supplies ≡ owners) (size : count ≡ length owners) (fresh : All (IsFreshOwner count) owners) (thieves : All (λ (s : Supply). AllZip IsThiefOf owners s.thieves.items × (stolen_by s.thieves.items ≡ [])) supplies) where
  own : All (λ (s : Supply). IsFreshOwner count s.own) supplies
  own = All-from_map (IsFreshOwner count) (λ (s : Supply). s.own) supplies (subst (λ (l : List OwnerSeat). All (IsFreshOwner count) l) (sym all) fresh)

  pub are_supplies : AreSupplies supplies
  are_supplies k d lt =
      let s = get_or supplies k d in (
        subst (λ (l : List OwnerSeat). AllZip IsThiefOf l s.thieves.items) (sym all) (thieves k d lt).0,
        omega (arith, (own k d lt).2, size, ap length all, length-map supplies (λ (u : Supply). u.own)),
      )

  pub are_fresh : All (λ (s : Supply). (given s ≡ []) × (taken s ≡ [])) supplies
  are_fresh k d lt =
      let s = get_or supplies k d in
      ((own k d lt).0, ap (λ (l : List ℕ). l ++ stolen_by s.thieves.items) (own k d lt).1 ∙ (thieves k d lt).1)

pub given_by-owners : (supplies : List Supply) → given_by supplies ≡ flat_map pushed (owners_of supplies)
given_by-owners [] = refl
given_by-owners (s ∷ supplies) = ap (λ (l : List ℕ). given s ++ l) (given_by-owners supplies)

pub count_taken_by : (p : ℕ → Bool) (supplies : List Supply) → count_by p (taken_by_supplies supplies) ≡ count_by p (flat_map popped (owners_of supplies)) + count_by p (flat_map stolen_by (map (λ (s : Supply). s.thieves.items) supplies))
count_taken_by p [] = refl
count_taken_by p (s ∷ supplies) =
    let rest = count_taken_by p supplies in
    let stolen = flat_map stolen_by (map (λ (u : Supply). u.thieves.items) supplies) in
    omega (
      arith,
      rest,
      count_by-append p (taken s) (taken_by_supplies supplies),
      count_by-append p (popped s.own) (stolen_by s.thieves.items),
      count_by-append p (popped s.own) (flat_map popped (owners_of supplies)),
      count_by-append p (stolen_by s.thieves.items) stolen,
    )

same_owners : (old new : List Supply) → AllZip IsSameSupply old new → AllZip IsSameOwner (owners_of old) (owners_of new)
same_owners [] [] same = tt
same_owners [] (t ∷ new) same = absurd same
same_owners (s ∷ old) [] same = absurd same
same_owners (s ∷ old) (t ∷ new) same = (same.0.owner, same_owners old new same.1)

still_thieves : (owners later : List OwnerSeat) (thieves back : List ThiefSeat) → AllZip IsThiefOf owners thieves → AllZip IsSameOwner owners later → AllZip IsSameThief thieves back → AllZip IsThiefOf later back
still_thieves [] [] [] [] of same same_thieves = tt
still_thieves [] later (t ∷ thieves) back of same same_thieves = absurd of
still_thieves (o ∷ owners) later [] back of same same_thieves = absurd of
still_thieves [] (l ∷ later) [] back of same same_thieves = absurd same
still_thieves [] [] [] (b ∷ back) of same same_thieves = absurd same_thieves
still_thieves (o ∷ owners) [] (t ∷ thieves) back of same same_thieves = absurd same
still_thieves (o ∷ owners) (l ∷ later) (t ∷ thieves) [] of same same_thieves = absurd same_thieves
still_thieves (o ∷ owners) (l ∷ later) (t ∷ thieves) (b ∷ back) of same same_thieves =
    (same_thieves.0 ∙ of.0 ∙ sym same.0.0, still_thieves owners later thieves back of.1 same.1 same_thieves.1)

pub supplies_stay : SuppliesStay
supplies_stay old new same all k d lt =
    let size : length old ≡ length new = length_all_zip IsSameSupply old new same in
    let within : k < length old = omega arith in
    let here = AllZip-get_or IsSameSupply old new k d d same within in
    let before = all k d within in
    (still_thieves (owners_of old) (owners_of new) (get_or old k d).thieves.items (get_or new k d).thieves.items before.0 (same_owners old new same) here.thieves, here.owner.1 ∙ before.1 ∙ size)

pub IsSameSupply-refl : (s : Supply) → IsSameSupply s s
IsSameSupply-refl s = record { owner = (refl, refl); thieves = AllZip-refl IsSameThief (λ t. refl) s.thieves.items }

pub IsSameSupply-trans : (s t u : Supply) → IsSameSupply s t → IsSameSupply t u → IsSameSupply s u
IsSameSupply-trans s t u first second =
    record {
      owner = (second.owner.0 ∙ first.owner.0, second.owner.1 ∙ first.owner.1);
      thieves = AllZip-trans IsSameThief (λ x y z e f. f ∙ e) s.thieves.items t.thieves.items u.thieves.items first.thieves second.thieves;
    }

-- one of them has changed
pub AreSupplies-set : (supplies : List Supply) (place : ℕ) (d s : Supply) → IsSameSupply (get_or supplies place d) s → AreSupplies supplies → AreSupplies (set supplies place s)
AreSupplies-set supplies place d s same =
    supplies_stay supplies (set supplies place s)
    (AllZip-set IsSameSupply supplies supplies place d s (λ t e. IsSameSupply-trans t (get_or supplies place d) s e same) (AllZip-refl IsSameSupply IsSameSupply-refl supplies))

-- where the supplies are parts of other values, as after a loop over these
pub part_supplies_stay : {A : Type 0} (part : A → Supply) (old new : List A) → length new ≡ length old → ((k : ℕ) (d : A) → k < length old → IsSameSupply (part (get_or old k d)) (part (get_or new k d)))
    → AreSupplies (map part old) → AreSupplies (map part new)
part_supplies_stay part old new size each = supplies_stay (map part old) (map part new) (AllZip-map IsSameSupply part old new size each)

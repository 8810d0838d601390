-- Supplies that have seats at the same deques.
use Rattle.std.proofs.Common.{◌≡◌, ℕ, ◌<◌, List, [], ◌∷◌, All, length, get_or, map, refl, sym, ap, subst, ◌∙◌}
use Rattle.std.proofs.lemmas.List.{get_or-map, length-map}
use Rattle.std.proofs.lemmas.List.Elements.{All-map}
use Rattle.std.specs.List.{AllZip}
use Rattle.crossbeam_deque.specs.Handles.{stealer_deque, worker_deque}
use Rattle.steal.specs.declared.seats.OwnerSeat.{OwnerSeat}
use Rattle.steal.specs.declared.seats.ThiefSeat.{ThiefSeat}
use Rattle.steal.specs.declared.supply.Supply.{Supply}
use Rattle.steal.specs.Seats.{IsThiefOf, IsSameThief}
use Rattle.steal.specs.Supplies.{AreSupplies, IsSameSupply, owners_of, DequeId, Deques, deques_of, AreDealt}

abbrev thief_deque : ThiefSeat → DequeId
thief_deque t = stealer_deque t.thief

abbrev owner_deque : OwnerSeat → DequeId
owner_deque o = worker_deque o.owner

same_thieves : (olds news : List ThiefSeat) → AllZip IsSameThief olds news → map thief_deque news ≡ map thief_deque olds
same_thieves [] [] all = refl
same_thieves [] (t ∷ news) all = absurd all
same_thieves (t ∷ olds) [] all = absurd all
same_thieves (t ∷ olds) (u ∷ news) all = ap (λ d. d ∷ map thief_deque news) all.0 ∙ ap (λ l. thief_deque t ∷ l) (same_thieves olds news all.1)

pub same_deques : (old new : Supply) → IsSameSupply old new → deques_of new ≡ deques_of old
same_deques old new same =
    ap (λ d. record { own = d; count = new.own.thieves; thieves = map thief_deque new.thieves.items }) same.owner.0
    ∙ (ap (λ n. record { own = owner_deque old.own; count = n; thieves = map thief_deque new.thieves.items }) same.owner.1
    ∙ ap (λ l. record { own = owner_deque old.own; count = old.own.thieves; thieves = l }) (same_thieves old.thieves.items new.thieves.items same.thieves))

-- ---- a list of supplies and the list of their deques

all_of_map : {A B : Type 0} (P : B → Type 0) (f : A → B) (xs : List A) → All P (map f xs) → All (λ (x : A). P (f x)) xs
all_of_map P f xs all k d lt = subst P (get_or-map f xs k d (f d) lt) (all k (f d) (subst (λ (n : ℕ). k < n) (sym (length-map xs f)) lt))

own_deques : (supplies : List Supply) → map (λ (e : Deques). e.own) (map deques_of supplies) ≡ map owner_deque (owners_of supplies)
own_deques [] = refl
own_deques (s ∷ supplies) = ap (λ l. owner_deque s.own ∷ l) (own_deques supplies)

heads : {A : Type 0} (x y : A) (xs ys : List A) → x ∷ xs ≡ y ∷ ys → (x ≡ y) × (xs ≡ ys)
heads x y xs ys e = (cc, cc)

zipped : (owners : List OwnerSeat) (thieves : List ThiefSeat) → map thief_deque thieves ≡ map owner_deque owners → AllZip IsThiefOf owners thieves
zipped [] [] same = tt
zipped [] (t ∷ thieves) same = absurd cc
zipped (o ∷ owners) [] same = absurd cc
zipped (o ∷ owners) (t ∷ thieves) same = let both = heads (thief_deque t) (owner_deque o) (map thief_deque thieves) (map owner_deque owners) same in (both.0, zipped owners thieves both.1)

mapped : (owners : List OwnerSeat) (thieves : List ThiefSeat) → AllZip IsThiefOf owners thieves → map thief_deque thieves ≡ map owner_deque owners
mapped [] [] all = refl
mapped [] (t ∷ thieves) all = absurd all
mapped (o ∷ owners) [] all = absurd all
mapped (o ∷ owners) (t ∷ thieves) all = ap (λ d. d ∷ map thief_deque thieves) all.0 ∙ ap (λ l. owner_deque o ∷ l) (mapped owners thieves all.1)

pub dealt_deques : (supplies : List Supply) → AreSupplies supplies → AreDealt (map deques_of supplies)
dealt_deques supplies all =
    All-map (λ (d : Deques). (d.thieves ≡ map (λ (e : Deques). e.own) (map deques_of supplies)) × (d.count ≡ length (map deques_of supplies))) deques_of supplies
    (λ k d lt. let s = get_or supplies k d in
    (mapped (owners_of supplies) s.thieves.items (all k d lt).0 ∙ sym (own_deques supplies), (all k d lt).1 ∙ sym (length-map supplies deques_of)))

pub dealt_supplies : (supplies : List Supply) → AreDealt (map deques_of supplies) → AreSupplies supplies
dealt_supplies supplies all k d lt =
    let here = all_of_map (λ (d : Deques). (d.thieves ≡ map (λ (e : Deques). e.own) (map deques_of supplies)) × (d.count ≡ length (map deques_of supplies))) deques_of supplies all k d lt in
    let s = get_or supplies k d in
    (zipped (owners_of supplies) s.thieves.items (here.0 ∙ own_deques supplies), here.1 ∙ length-map supplies deques_of)

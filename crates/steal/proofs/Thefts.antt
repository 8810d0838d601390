-- A row of thieves, after one of them has changed.
use Rattle.std.proofs.Common.{◌≡◌, ℕ, Bool, zero, suc, ◌<◌, List, [], ◌∷◌, ◌++◌, length, get_or, set, count_by, refl, ap, ◌∙◌, arith}
use Rattle.std.specs.List.{AllZip}
use Rattle.steal.specs.declared.seats.ThiefSeat.{ThiefSeat}
use Rattle.steal.specs.Seats.{stolen, stolen_by, IsSameThief}
use Rattle.steal.proofs.Moves.{count_by-append}
use Rattle.steal.proofs.Places.{AllZip-set}

-- one thief, at the same deque as before
pub same_thieves-set : (first thieves : List ThiefSeat) (place : ℕ) (d thief : ThiefSeat) → IsSameThief (get_or thieves place d) thief → AllZip IsSameThief first thieves → AllZip IsSameThief first (set thieves place thief)
same_thieves-set first thieves place d thief same = AllZip-set IsSameThief first thieves place d thief (λ x e. same ∙ e)

-- one thief that has stolen nothing more
pub stolen_by-set : (thieves : List ThiefSeat) (place : ℕ) (d thief : ThiefSeat) → stolen thief ≡ stolen (get_or thieves place d) → stolen_by (set thieves place thief) ≡ stolen_by thieves
stolen_by-set [] place d thief same = refl
stolen_by-set (t ∷ thieves) zero d thief same = ap (λ (l : List ℕ). l ++ stolen_by thieves) same
stolen_by-set (t ∷ thieves) (suc place) d thief same = ap (λ (l : List ℕ). stolen t ++ l) (stolen_by-set thieves place d thief same)

-- one thief that has stolen one more
pub count_stolen-set : (p : ℕ → Bool) (thieves : List ThiefSeat) (place : ℕ) (d thief : ThiefSeat) (cube : ℕ) → place < length thieves → stolen thief ≡ stolen (get_or thieves place d) ++ cube ∷ []
    → count_by p (stolen_by (set thieves place thief)) ≡ count_by p (cube ∷ stolen_by thieves)
count_stolen-set p [] place d thief cube within more = absurd (omega (arith, within))
count_stolen-set p (t ∷ thieves) zero d thief cube within more =
    omega (
      arith,
      ap (count_by p) more,
      count_by-append p (stolen t) (cube ∷ []),
      count_by-append p (stolen thief) (stolen_by thieves),
      count_by-append p (stolen t) (stolen_by thieves),
      count_by-append p (cube ∷ []) (stolen t ++ stolen_by thieves),
    )
count_stolen-set p (t ∷ thieves) (suc place) d thief cube within more =
    let rest = count_stolen-set p thieves place d thief cube (omega (arith, within)) more in
    omega (
      arith,
      rest,
      count_by-append p (stolen t) (stolen_by (set thieves place thief)),
      count_by-append p (stolen t) (stolen_by thieves),
      count_by-append p (cube ∷ []) (stolen t ++ stolen_by thieves),
      count_by-append p (cube ∷ []) (stolen_by thieves),
    )

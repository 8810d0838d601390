-- One deque after the other is settled.
use Rattle.std.proofs.Common.{◌≡◌, ℕ, Bool, ◌+◌, List, [], ◌∷◌, ◌++◌, All, length, count_by, ap, subst, arith}
use Rattle.std.proofs.lemmas.List.{length-map}
use Rattle.std.proofs.lemmas.List.Elements.{All-from_recursion, recursion_from_All}
use Rattle.std.specs.Global.{Vec}
use Rattle.std.specs.List.{AllByRecursion, flat_map}
use Rattle.steal.specs.declared.seats.OwnerSeat.{OwnerSeat}
use Rattle.steal.specs.declared.seats.ThiefSeat.{ThiefSeat}
use Rattle.steal.specs.parts.Rows.{thief_rows, EndInSeats}
use Rattle.steal.specs.Seats.{pushed, popped, stolen_by, thief_count, IsThiefOf}
use Rattle.steal.specs.Supplies.{AreThieves}
use Rattle.steal.proofs.Moves.{count_by-append}
use Rattle.steal.proofs.Places.{AllByRecursion-front, flat_map-snoc}
use Rattle.steal.proofs.Rows.{count_cut, none_stolen, thieves_cut}

-- of all cubes pushed and taken, those of the owners and rows that aren't settled, and what is left
-- of the others
abbrev pub IsEven : (ℕ → Bool) → List ℕ → List ℕ → List OwnerSeat → List (List ThiefSeat) → List ℕ → Type 0
IsEven p given taken owners rows left =
    count_by p given + (count_by p (flat_map popped owners) + count_by p (flat_map stolen_by rows)) ≡ (count_by p taken + count_by p left) + count_by p (flat_map pushed owners)

pub even_more : (p : ℕ → Bool) (given taken : List ℕ) (owners : List OwnerSeat) (owner : OwnerSeat) {rows others : List (List ThiefSeat)} {seats : List ThiefSeat} (left cubes : List ℕ) → EndInSeats rows others seats
    → count_by p (pushed owner) ≡ count_by p ((popped owner ++ stolen_by seats) ++ cubes) → IsEven p given taken (owners ++ owner ∷ []) rows left → IsEven p given taken owners others (left ++ cubes)
even_more p given taken owners owner {seats = seats} left cubes cut mine even =
    omega (
      arith,
      even,
      mine,
      count_cut p cut,
      count_by-append p left cubes,
      count_by-append p (popped owner ++ stolen_by seats) cubes,
      count_by-append p (popped owner) (stolen_by seats),
      ap (count_by p) (flat_map-snoc popped owners owner),
      count_by-append p (flat_map popped owners) (popped owner),
      ap (count_by p) (flat_map-snoc pushed owners owner),
      count_by-append p (flat_map pushed owners) (pushed owner),
    )

-- with no owner left
pub even_ended : (p : ℕ → Bool) (given taken : List ℕ) (owners : List OwnerSeat) (rows : List (List ThiefSeat)) (left : List ℕ) → owners ≡ [] → All (AreThieves owners) rows → IsEven p given taken owners rows left
    → count_by p given ≡ count_by p (taken ++ left)
even_ended p given taken owners rows left none thieves even =
    let unstolen = none_stolen rows (recursion_from_All (AreThieves []) rows (subst (λ (l : List OwnerSeat). All (AreThieves l) rows) none thieves)) in
    omega (
      arith,
      even,
      ap (count_by p) unstolen,
      ap (λ (l : List OwnerSeat). count_by p (flat_map popped l)) none,
      ap (λ (l : List OwnerSeat). count_by p (flat_map pushed l)) none,
      count_by-append p taken left,
    )

-- the last owner is taken, and each row's last seat
module _ (all owners : List OwnerSeat) (owner : OwnerSeat) (rows others : List (Vec ThiefSeat)) (seats : List ThiefSeat) (is : all ≡ owners ++ owner ∷ []) (thieves : All (AreThieves all) (thief_rows rows)) (counts : All (λ (o : OwnerSeat). thief_count o ≡ length rows) all) (cut : EndInSeats (thief_rows rows) (thief_rows others) seats) where
  parts : AllByRecursion (AreThieves owners) (thief_rows others) × AllByRecursion (IsThiefOf owner) seats × (length (thief_rows others) ≡ length (thief_rows rows)) × (length seats ≡ length (thief_rows rows))
  parts =
      thieves_cut owners owner cut
      (recursion_from_All (AreThieves (owners ++ owner ∷ [])) (thief_rows rows) (subst (λ (l : List OwnerSeat). All (AreThieves l) (thief_rows rows)) is thieves))

  tallies : AllByRecursion (λ (o : OwnerSeat). thief_count o ≡ length rows) owners × (thief_count owner ≡ length rows)
  tallies =
      let P : OwnerSeat → Type 0 = λ o. thief_count o ≡ length rows in
      AllByRecursion-front P owners owner (recursion_from_All P (owners ++ owner ∷ []) (subst (λ (l : List OwnerSeat). All P l) is counts))

  size : (vecs : List (Vec ThiefSeat)) → length (thief_rows vecs) ≡ length vecs
  size vecs = length-map vecs (λ (r : Vec ThiefSeat). r.items)

  pub others_thieves : All (AreThieves owners) (thief_rows others)
  others_thieves = All-from_recursion (AreThieves owners) (thief_rows others) parts.0

  pub others_counts : All (λ (o : OwnerSeat). thief_count o ≡ length others) owners
  others_counts =
      let same : length rows ≡ length others = omega (arith, size rows, size others, parts.2) in
      subst (λ (n : ℕ). All (λ (o : OwnerSeat). thief_count o ≡ n) owners) same (All-from_recursion (λ (o : OwnerSeat). thief_count o ≡ length rows) owners tallies.0)

  pub seats_thieves : All (λ (t : ThiefSeat). IsThiefOf owner t) seats
  seats_thieves = All-from_recursion (IsThiefOf owner) seats parts.1

  pub seats_count : length seats ≡ thief_count owner
  seats_count = omega (arith, parts.3, size rows, tallies.1)

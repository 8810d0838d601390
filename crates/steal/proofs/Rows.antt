-- Rows of thieves, while seats are dealt out and come back.
use Rattle.std.proofs.Common.{◌≡◌, ℕ, Bool, suc, ◌+◌, List, [], ◌∷◌, ◌++◌, All, length, count_by, refl, ap, ◌∙◌, arith, length-append}
use Rattle.std.proofs.lemmas.List.{map-append}
use Rattle.std.proofs.lemmas.List.Elements.{recursion_from_All}
use Rattle.std.specs.Global.{Vec}
use Rattle.std.specs.List.{AllByRecursion, AllZip, flat_map}
use Rattle.steal.specs.declared.seats.OwnerSeat.{OwnerSeat}
use Rattle.steal.specs.declared.seats.ThiefSeat.{ThiefSeat}
use Rattle.steal.specs.parts.Rows.{thief_rows, AreFreshThieves, EndInSeats, no_row, one_row}
use Rattle.steal.specs.Seats.{stolen, stolen_by, IsThiefOf}
use Rattle.steal.proofs.Moves.{count_by-append}
use Rattle.steal.proofs.Places.{AllByRecursion-front, AllZip-front, AllZip-snoc, flat_map-snoc}

rows_of-snoc : (rows : List (Vec ThiefSeat)) (row : Vec ThiefSeat) → thief_rows (rows ++ row ∷ []) ≡ thief_rows rows ++ row.items ∷ []
rows_of-snoc rows row = map-append (λ (r : Vec ThiefSeat). r.items) rows (row ∷ [])

-- one more owner, with its thieves
pub fresh_more : (count : ℕ) (owners : List OwnerSeat) (rows : List (Vec ThiefSeat)) (owner : OwnerSeat) (row : Vec ThiefSeat) → AllZip (AreFreshThieves count) owners (thief_rows rows)
    → length row.items ≡ count → All (λ thief. IsThiefOf owner thief × (stolen thief ≡ [])) row.items
    → AllZip (AreFreshThieves count) (owners ++ owner ∷ []) (thief_rows (rows ++ row ∷ []))
fresh_more count owners rows owner row all size fresh =
    rw (rows_of-snoc rows row)
    (AllZip-snoc (AreFreshThieves count) owners (thief_rows rows) owner row.items all (size, recursion_from_All (λ thief. IsThiefOf owner thief × (stolen thief ≡ [])) row.items fresh))

last_more : {rows left : List (List ThiefSeat)} {seats : List ThiefSeat} (row : List ThiefSeat) (seat : ThiefSeat) → EndInSeats rows left seats → EndInSeats (rows ++ (row ++ seat ∷ []) ∷ []) (left ++ row ∷ []) (seats ++ seat ∷ [])
last_more row seat no_row = one_row row seat no_row
last_more row seat (one_row r s rest) = one_row r s (last_more row seat rest)

-- one more row without its last seat
pub last_of_rows : (rows left : List (Vec ThiefSeat)) (seats : List ThiefSeat) (row rest : Vec ThiefSeat) (seat : ThiefSeat) → EndInSeats (thief_rows rows) (thief_rows left) seats → row.items ≡ rest.items ++ seat ∷ []
    → EndInSeats (thief_rows (rows ++ row ∷ [])) (thief_rows (left ++ rest ∷ [])) (seats ++ seat ∷ [])
last_of_rows rows left seats row rest seat so_far is =
    rw (rows_of-snoc rows row, rows_of-snoc left rest, is) (last_more rest.items seat so_far)

-- the last of each owner's fresh thieves make one worker's thieves
pub fresh_dealt : {rows left : List (List ThiefSeat)} {seats : List ThiefSeat} (count : ℕ) (owners : List OwnerSeat) → EndInSeats rows left seats → AllZip (AreFreshThieves (count + 1)) owners rows
    → AllZip (AreFreshThieves count) owners left × AllZip IsThiefOf owners seats × (stolen_by seats ≡ [])
fresh_dealt count [] no_row all = (tt, tt, refl)
fresh_dealt count (o ∷ owners) no_row all = absurd all
fresh_dealt count [] (one_row row seat more) all = absurd all
fresh_dealt count (o ∷ owners) (one_row {seats = seats} row seat more) all =
    let rest = fresh_dealt count owners more all.1 in
    let mine = AllByRecursion-front (λ thief. IsThiefOf o thief × (stolen thief ≡ [])) row seat all.0.1 in
    (((omega (arith, length-append row (seat ∷ []), all.0.0), mine.0), rest.0), (mine.1.0, rest.1), ap (λ (l : List ℕ). l ++ stolen_by seats) mine.1.1 ∙ rest.2)

pub fresh_rows : (count : ℕ) (owners : List OwnerSeat) (rows : List (Vec ThiefSeat)) → AllZip (AreFreshThieves count) owners (thief_rows rows) → AllByRecursion (λ (row : Vec ThiefSeat). length row.items ≡ count) rows
fresh_rows count [] [] all = tt
fresh_rows count (o ∷ owners) [] all = tt
fresh_rows count [] (row ∷ rows) all = absurd all
fresh_rows count (o ∷ owners) (row ∷ rows) all = (all.0.0, fresh_rows count owners rows all.1)

module _ (owners : List OwnerSeat) (owner : OwnerSeat) where
  -- the last seat of each row is a thief of the last owner, and the others are thieves of the
  -- others
  pub thieves_cut : {rows left : List (List ThiefSeat)} {seats : List ThiefSeat} → EndInSeats rows left seats → AllByRecursion (AllZip IsThiefOf (owners ++ owner ∷ [])) rows
      → AllByRecursion (AllZip IsThiefOf owners) left × AllByRecursion (IsThiefOf owner) seats × (length left ≡ length rows) × (length seats ≡ length rows)
  thieves_cut no_row all = (tt, tt, refl, refl)
  thieves_cut (one_row row seat more) all =
      let rest = thieves_cut more all.1 in
      let mine = AllZip-front IsThiefOf owners row owner seat all.0 in
      ((mine.0, rest.0), (mine.1, rest.1), ap suc rest.2, ap suc rest.3)

-- what the rows have stolen, by the last seats and by what is left of each
pub count_cut : (p : ℕ → Bool) {rows left : List (List ThiefSeat)} {seats : List ThiefSeat} → EndInSeats rows left seats
    → count_by p (flat_map stolen_by rows) ≡ count_by p (flat_map stolen_by left) + count_by p (stolen_by seats)
count_cut p no_row = refl
count_cut p (one_row {rows = rows} {left = left} {seats = seats} row seat more) =
    let rest = count_cut p more in
    omega (
      arith,
      rest,
      ap (count_by p) (flat_map-snoc stolen row seat),
      count_by-append p (stolen_by (row ++ seat ∷ [])) (flat_map stolen_by rows),
      count_by-append p (stolen_by row) (stolen seat),
      count_by-append p (stolen_by row) (flat_map stolen_by left),
      count_by-append p (stolen seat) (stolen_by seats),
    )

-- with no owner left there is no thief
pub none_stolen : (rows : List (List ThiefSeat)) → AllByRecursion (AllZip IsThiefOf []) rows → flat_map stolen_by rows ≡ []
none_stolen [] all = refl
none_stolen ([] ∷ rows) all = none_stolen rows all.1
none_stolen ((t ∷ row) ∷ rows) all = absurd all.0

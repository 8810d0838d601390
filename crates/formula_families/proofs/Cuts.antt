-- Parts of a list by their ends.
use Rattle.std.proofs.Common.{◌≡◌, ℕ, zero, suc, ◌-◌, ◌<◌, ◌≤◌, List, [], ◌∷◌, ◌++◌, length, take, drop, get_or, refl, sym, ap, ◌∙◌, arith}
use Rattle.std.proofs.lemmas.List.{length-append, length-drop, take-append-le, drop-append-le, drop_at, take_all}
use Rattle.formula_families.specs.PackedLists.{parts, start_of, AreEnds}

pub start_first : (ends : List ℕ) (place : ℕ) → place ≡ 0 → 0 ≡ start_of 0 ends place
start_first ends zero h = refl
start_first ends (suc k) h = absurd (omega (arith, h))

pub start_later : (ends : List ℕ) (place : ℕ) → (place ≡ 0 → ⊥) → get_or ends (place - 1) 0 ≡ start_of 0 ends place
start_later ends zero h = absurd (h refl)
start_later ends (suc k) h = let e : suc k - 1 ≡ k = omega arith in ap (λ (z : ℕ). get_or ends z 0) e

pub ends_most : (start whole : ℕ) (ends : List ℕ) → AreEnds start ends whole → start ≤ whole
ends_most start whole [] h = omega (arith, h)
ends_most start whole (end ∷ ends) h = omega (arith, h.0, ends_most end whole ends h.1)

pub ends_more : (start whole more : ℕ) (ends : List ℕ) → AreEnds start ends whole → whole ≤ more → AreEnds start (ends ++ (more ∷ [])) more
ends_more start whole more [] h le = (omega (arith, h, le), refl)
ends_more start whole more (end ∷ ends) h le = (h.0, ends_more end whole more ends h.1 le)

-- a part more
pub parts_more : {X : Type 0} (xs ys : List X) (start whole : ℕ) (ends : List ℕ) → AreEnds start ends (length xs) → whole ≡ length (xs ++ ys) → parts (xs ++ ys) start (ends ++ (whole ∷ [])) ≡ parts xs start ends ++ (ys ∷ [])
parts_more xs ys start whole [] h is =
    let both = length-append xs ys in
    let rest : drop start (xs ++ ys) ≡ ys = drop_at xs ys start (sym h) in
    ap (λ l. take (whole - start) l ∷ []) rest ∙ ap (λ l. l ∷ []) (take_all (whole - start) ys (omega (arith, both, is, h)))
parts_more xs ys start whole (end ∷ ends) h is =
    let most = ends_most end (length xs) ends h.1 in
    let size = length-drop start xs in
    ap (λ l. take (end - start) l ∷ parts (xs ++ ys) end (ends ++ (whole ∷ []))) (drop-append-le start xs ys (omega (arith, h.0, most))) ∙
    (ap (λ l. l ∷ parts (xs ++ ys) end (ends ++ (whole ∷ []))) (take-append-le (end - start) (drop start xs) ys (omega (arith, size, most))) ∙
    ap (λ l. take (end - start) (drop start xs) ∷ l) (parts_more xs ys end whole ends h.1 is))

pub parts_count : {X : Type 0} (xs : List X) (start : ℕ) (ends : List ℕ) → length (parts xs start ends) ≡ length ends
parts_count xs start [] = refl
parts_count xs start (end ∷ ends) = ap (λ n. suc n) (parts_count xs end ends)

pub part_at : {X : Type 0} (xs : List X) (start : ℕ) (ends : List ℕ) (k : ℕ) → k < length ends → get_or (parts xs start ends) k [] ≡ take (get_or ends k 0 - start_of start ends k) (drop (start_of start ends k) xs)
part_at xs start [] k below = absurd (omega (arith, below))
part_at xs start (end ∷ ends) zero below = refl
part_at xs start (end ∷ ends) (suc zero) below = part_at xs end ends zero (omega (arith, below))
part_at xs start (end ∷ ends) (suc (suc k)) below = part_at xs end ends (suc k) (omega (arith, below))

pub part_in : (start whole : ℕ) (ends : List ℕ) (k : ℕ) → AreEnds start ends whole → k < length ends → (start_of start ends k ≤ get_or ends k 0) × (get_or ends k 0 ≤ whole)
part_in start whole [] k h below = absurd (omega (arith, below))
part_in start whole (end ∷ ends) zero h below = (h.0, ends_most end whole ends h.1)
part_in start whole (end ∷ ends) (suc zero) h below = part_in end whole ends zero h.1 (omega (arith, below))
part_in start whole (end ∷ ends) (suc (suc k)) h below = part_in end whole ends (suc k) h.1 (omega (arith, below))

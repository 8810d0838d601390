-- How many lines stay before a line.
use Rattle.std.proofs.Common.{◌≡◌, ℕ, zero, suc, ◌+◌, ◌-◌, ◌<◌, ◌≤◌, inl, inr, Bool, true, false, nat_lt, if◌then◌else◌, List, [], ◌∷◌, Some, min, get_or, length, slice_get, refl, sym, ap, ◌∙◌, arith}
use Rattle.std.proofs.lemmas.Bool.{cases_lt}
use Rattle.std.proofs.lemmas.Option.{slice_get_read}
use Rattle.std.proofs.lemmas.Bool.Decides.{nat_tests}
use Rattle.trimming.specs.Needed.{count_first, renumber}
use Rattle.trimming.specs.parts.Marks.{running}

pub count_first_most : (k : ℕ) (flags : List Bool) → count_first k flags ≤ k
count_first_most zero flags = omega arith
count_first_most (suc k) [] = omega arith
count_first_most (suc k) (true ∷ flags) = omega (arith, count_first_most k flags)
count_first_most (suc k) (false ∷ flags) = omega (arith, count_first_most k flags)

pub length-running : (count : ℕ) (flags : List Bool) → length (running count flags) ≡ length flags + 1
length-running count [] = refl
length-running count (true ∷ flags) = omega (arith, length-running (count + 1) flags)
length-running count (false ∷ flags) = omega (arith, length-running count flags)

running_at : (count k : ℕ) (flags : List Bool) → k ≤ length flags → slice_get (running count flags) k ≡ Some (count + count_first k flags)
running_at count zero [] h = let same : count ≡ count + 0 = omega arith in ap Some same
running_at count (suc k) [] h = absurd (omega (arith, h))
running_at count zero (true ∷ flags) h = let same : count ≡ count + 0 = omega arith in ap Some same
running_at count zero (false ∷ flags) h = let same : count ≡ count + 0 = omega arith in ap Some same
running_at count (suc k) (true ∷ flags) h =
    running_at (count + 1) k flags (omega (arith, h)) ∙ (let same : count + 1 + count_first k flags ≡ count + suc (count_first k flags) = omega arith in ap Some same)
running_at count (suc k) (false ∷ flags) h = running_at count k flags (omega (arith, h))

count_first_past : (k : ℕ) (flags : List Bool) → length flags ≤ k → count_first (length flags) flags ≡ count_first k flags
count_first_past zero [] h = refl
count_first_past (suc k) [] h = refl
count_first_past zero (flag ∷ flags) h = absurd (omega (arith, h))
count_first_past (suc k) (true ∷ flags) h = ap suc (count_first_past k flags (omega (arith, h)))
count_first_past (suc k) (false ∷ flags) h = count_first_past k flags (omega (arith, h))

-- the count that is read at a place, or at the end for one past it
pub counted : (flags : List Bool) (counts : List ℕ) (k place count : ℕ) → counts ≡ running 0 flags → (k < length flags → place ≡ k) → (length flags ≤ k → place ≡ length flags) → slice_get counts place ≡ Some count
    → count ≡ count_first k flags
counted flags counts k place count is before past at =
    let read : (n : ℕ) → n ≤ length flags → slice_get (running 0 flags) n ≡ Some (count_first n flags) =
    (λ n h. running_at 0 n flags h ∙ (let same : 0 + count_first n flags ≡ count_first n flags = omega arith in ap Some same)) in
    elim (cases_lt k (length flags)) [
      | inl low ↦
          let both : Some count ≡ Some (count_first k flags) =
          sym at ∙ ap (λ (l : List ℕ). slice_get l place) is ∙ ap (slice_get (running 0 flags)) (before low) ∙ read k (omega (arith, low)) in
          cc
      | inr high ↦
          let both : Some count ≡ Some (count_first k flags) =
          sym at
          ∙ ap (λ (l : List ℕ). slice_get l place) is
          ∙ ap (slice_get (running 0 flags)) (past (omega (arith, high)))
          ∙ read (length flags) (omega arith)
          ∙ ap Some (count_first_past k flags (omega (arith, high))) in
          cc
    ]

pub count_read : (clauses number : ℕ) (flags : List Bool) (counts : List ℕ) (place count : ℕ) → counts ≡ running 0 flags → place ≡ min (number - clauses - 1) (length flags)
    → count ≡ get_or counts place count → count ≡ count_first (number - clauses - 1) flags
count_read clauses number flags counts place count is least read =
    let size = ap length is ∙ length-running 0 flags in
    counted flags counts (number - clauses - 1) place count is (λ low. omega (arith, least, low)) (λ high. omega (arith, least, high))
    (slice_get_read counts (length counts) place count refl (omega (arith, least, size)) read)

pub renumber_first : (clauses : ℕ) (flags : List Bool) (n : ℕ) → n ≤ clauses → n ≡ renumber clauses flags n
renumber_first clauses flags n h =
    let off : nat_lt clauses n ≡ false = grind (arith, nat_tests) in
    sym (ap (λ (b : Bool). if b then clauses + count_first (n - clauses - 1) flags + 1 else n) off)

pub renumber_later : (clauses : ℕ) (flags : List Bool) (n place : ℕ) → clauses < n → place ≡ n - clauses - 1 → clauses + count_first place flags + 1 ≡ renumber clauses flags n
renumber_later clauses flags n place h at =
    let on : nat_lt clauses n ≡ true = grind (arith, nat_tests) in
    ap (λ (p : ℕ). clauses + count_first p flags + 1) at
    ∙ sym (ap (λ (b : Bool). if b then clauses + count_first (n - clauses - 1) flags + 1 else n) on)

-- a new number is none larger than the old one, and none is 0 that wasn't
pub renumber_most : (clauses : ℕ) (flags : List Bool) (n : ℕ) → renumber clauses flags n ≤ n
renumber_most clauses flags n =
    elim (cases_lt clauses n) [
      | inl above ↦ omega (arith, above, renumber_later clauses flags n (n - clauses - 1) above refl, count_first_most (n - clauses - 1) flags)
      | inr first ↦ omega (arith, renumber_first clauses flags n (omega (arith, first)))
    ]

pub renumber_least : (clauses : ℕ) (flags : List Bool) (n : ℕ) → 1 ≤ n → 1 ≤ renumber clauses flags n
renumber_least clauses flags n h =
    elim (cases_lt clauses n) [
      | inl above ↦ omega (arith, renumber_later clauses flags n (n - clauses - 1) above refl)
      | inr first ↦ omega (arith, h, renumber_first clauses flags n (omega (arith, first)))
    ]

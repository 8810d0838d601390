-- Lists of which another one has a part.
use Rattle.std.proofs.Common.{◌≡◌, ℕ, zero, suc, ◌+◌, ◌-◌, ◌≤◌, ◌<◌, Some, Result, Ok, Err, OnOk, inl, inr, get_or, List, [], ◌∷◌, ◌++◌, length, take, drop, refl, sym, ap, ◌∙◌, append_assoc, arith}
use Rattle.std.proofs.lemmas.List.{take-append-drop, take_all, take_more, take_more_same, get_or-drop, length-drop}
use Rattle.std.proofs.lemmas.Option.{slice_get_cases, get_or_from_slice_get, slice_get_within}
use Rattle.std.specs.List.{slice_get}

take_none : {X : Type 0} (n : ℕ) → take {A = X} n [] ≡ []
take_none zero = refl
take_none (suc n) = refl

pub take-append-add : {X : Type 0} (xs ys : List X) (n : ℕ) → take (length xs + n) (xs ++ ys) ≡ xs ++ take n ys
take-append-add [] ys n = let e : 0 + n ≡ n = omega arith in ap (λ m. take m ys) e
take-append-add (x ∷ xs) ys n =
    let e : suc (length xs) + n ≡ suc (length xs + n) = omega arith in
    ap (λ m. take m (x ∷ (xs ++ ys))) e ∙ ap (λ l. x ∷ l) (take-append-add xs ys n)

pub take_on : {X : Type 0} (a j : ℕ) (xs : List X) → take a xs ++ take j (drop a xs) ≡ take (a + j) xs
take_on zero j xs = let e : 0 + j ≡ j = omega arith in ap (λ m. take m xs) (sym e)
take_on (suc a) j [] = take_none j ∙ sym (take_none (suc a + j))
take_on (suc a) j (x ∷ xs) =
    let e : suc a + j ≡ suc (a + j) = omega arith in
    ap (λ l. x ∷ l) (take_on a j xs) ∙ ap (λ m. take m (x ∷ xs)) (sym e)

-- where the next ones are the first of another list, that one behind goes on from there
pub spliced : {X : Type 0} (a j : ℕ) (xs ys : List X) → take j (drop a xs) ≡ take j ys → take a xs ++ ys ≡ take (a + j) xs ++ drop j ys
spliced {X} a j xs ys same =
    ap (λ (l : List X). take a xs ++ l) (sym (take-append-drop j ys))
    ∙ sym (append_assoc (take a xs) (take j ys) (drop j ys))
    ∙ ap (λ (l : List X). (take a xs ++ l) ++ drop j ys) (sym same)
    ∙ ap (λ (l : List X). l ++ drop j ys) (take_on a j xs)

-- the lines up to a place are the first of others, and so is the one at that place
pub take_more_at : {X : Type 0} (from i : ℕ) (xs ys : List X) → from + i < length xs → i < length ys → slice_get xs (from + i) ≡ slice_get ys i
    → take i (drop from xs) ≡ take i ys → take (i + 1) (drop from xs) ≡ take (i + 1) ys
take_more_at {X} from i xs ys low below same so_far =
    elim (slice_get_cases ys i).1 [
      | inl u ↦ take_more_same (drop from xs) ys i u.0 (omega (arith, length-drop from xs, low)) below so_far
          (get_or-drop from xs i u.0 ∙ get_or_from_slice_get xs (from + i) u.0 u.0 (same ∙ u.2) ∙ sym u.3)
      | inr past ↦ absurd (omega (arith, past.0, below))
    ]

-- one more of the lines from a place on
pub one_more_at : {X : Type 0} (from place : ℕ) (xs copies : List X) (x : X) → from ≤ place → slice_get xs place ≡ Some x
    → copies ≡ take (place - from) (drop from xs) → copies ++ x ∷ [] ≡ take (place + 1 - from) (drop from xs)
one_more_at {X} from place xs copies x least is so_far =
    let at : from + (place - from) ≡ place = omega arith in
    let low : place - from < length (drop from xs) = omega (arith, length-drop from xs, slice_get_within xs place x is, least) in
    let next : place - from + 1 ≡ place + 1 - from = omega (arith, least) in
    let found : get_or (drop from xs) (place - from) x ≡ x = get_or-drop from xs (place - from) x ∙ ap (λ n. get_or xs n x) at ∙ get_or_from_slice_get xs place x x is in
    ap (λ (l : List X). l ++ x ∷ []) so_far
    ∙ ap (λ (y : X). take (place - from) (drop from xs) ++ y ∷ []) (sym found)
    ∙ sym (take_more (drop from xs) (place - from) x low)
    ∙ ap (λ n. take n (drop from xs)) next

-- the same by other words
pub ok_as : {A E X : Type 0} (result : Result A E) (made told meant : X) → OnOk result (made ≡ told) → told ≡ meant → OnOk result (made ≡ meant)
ok_as (Ok _) made told meant is e = is ∙ e
ok_as (Err _) made told meant is e = tt

-- a front, the lines from there on, and others
pub copied_behind : {X : Type 0} (kept from count : ℕ) (xs ys : List X) → kept ≤ from → count ≡ length ys
    → take kept xs ++ (take (from - kept) (drop kept xs) ++ take (count - 0) (drop 0 ys)) ≡ take from xs ++ ys
copied_behind {X} kept from count xs ys within many =
    let at : kept + (from - kept) ≡ from = omega (arith, within) in
    let all : take (count - 0) (drop 0 ys) ≡ ys = take_all (count - 0) ys (omega (arith, many)) in
    sym (append_assoc (take kept xs) (take (from - kept) (drop kept xs)) (take (count - 0) (drop 0 ys)))
    ∙ ap (λ (l : List X). l ++ take (count - 0) (drop 0 ys)) (take_on kept (from - kept) xs ∙ ap (λ n. take n xs) at)
    ∙ ap (λ (l : List X). take from xs ++ l) all

-- where all lines from a place on are the first of others, those of the others that are missing are
-- the rest of them
pub appended : {X : Type 0} (from held count : ℕ) (xs ys : List X) → held ≡ length xs - from → held ≤ count → count ≡ length ys → take held (drop from xs) ≡ take held ys
    → xs ++ take (count - held) (drop held ys) ≡ take from xs ++ ys
appended {X} from held count xs ys is within many same =
    let rest : take (count - held) (drop held ys) ≡ drop held ys = take_all (count - held) (drop held ys) (omega (arith, length-drop held ys, many)) in
    let all : take held (drop from xs) ≡ drop from xs = take_all held (drop from xs) (omega (arith, length-drop from xs, is)) in
    ap (λ (l : List X). xs ++ l) rest
    ∙ ap (λ (l : List X). l ++ drop held ys) (sym (take-append-drop from xs))
    ∙ append_assoc (take from xs) (drop from xs) (drop held ys)
    ∙ ap (λ (l : List X). take from xs ++ (l ++ drop held ys)) (sym all ∙ same)
    ∙ ap (λ (l : List X). take from xs ++ l) (take-append-drop held ys)

-- what follows at success
pub ok_then : {A E P Q : Type 0} (result : Result A E) → (P → Q) → OnOk result P → OnOk result Q
ok_then (Ok _) f is = f is
ok_then (Err _) f is = tt

-- past a front, the rest of what stands behind it
pub drop_front : {X : Type 0} (a j : ℕ) (xs ys : List X) → a ≤ length xs → drop (a + j) (take a xs ++ ys) ≡ drop j ys
drop_front zero j xs ys within = let e : 0 + j ≡ j = omega arith in ap (λ n. drop n ys) e
drop_front (suc a) j [] ys within = absurd (omega (arith, within))
drop_front (suc a) j (x ∷ xs) ys within =
    let e : suc a + j ≡ suc (a + j) = omega arith in
    ap (λ n. drop n (x ∷ (take a xs ++ ys))) e ∙ drop_front a j xs ys (omega (arith, within))

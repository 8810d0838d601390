-- Sorting by a key: the same items, each as often as before, and in the order of their keys.
use Rattle.std.proofs.Common.{◌≡◌, ℕ, zero, suc, ◌<◌, ◌≤◌, ◌==◌, Bool, true, false, true≢false, cond, ◌||◌, nat_lt, if◌then◌else◌, AllPairs, List, [], ◌∷◌, ◌++◌, length, get_or, refl, ap, ◌∙◌, arith}
use Rattle.std.specs.List.{filter, list_any}
use Rattle.std.proofs.lemmas.Bool.{or_parts}
use Rattle.std.proofs.lemmas.Bool.Decides.{nat_tests}
use Rattle.std.proofs.lemmas.List.Folds.{list_any-append}
use Rattle.formula.specs.Families.{events}
use Rattle.formula.proofs.Elements.{Each, each_mono}
use Rattle.formula.proofs.NormalForms.{or_swap}
use Rattle.run_from_formula.specs.Schedules.{happens, insert_by, sorted_by}
use Rattle.run_from_formula.specs.Laws.{SchedulesAreByClock}

-- ---- tests along lists

pub false_or : (a b : Bool) → a ≡ false → b ≡ false → (a || b) ≡ false
false_or true b h k = absurd (cc)
false_or false b h k = k

-- ---- what stands in the sorted list

any_inserted_step : {X : Type 0} (test : X → Bool) (x y : X) (ys zs : List X) (b : Bool) → list_any test zs ≡ (test x || list_any test ys) → list_any test (if b then y ∷ zs else x ∷ y ∷ ys) ≡ (test x || list_any test (y ∷ ys))
any_inserted_step test x y ys zs true rest = ap (λ (z : Bool). test y || z) rest ∙ or_swap (test y) (test x) (list_any test ys)
any_inserted_step test x y ys zs false rest = refl

any_inserted : {X : Type 0} (key : X → ℕ) (test : X → Bool) (x : X) (ys : List X) → list_any test (insert_by key x ys) ≡ (test x || list_any test ys)
any_inserted key test x [] = refl
any_inserted key test x (y ∷ ys) = any_inserted_step test x y ys (insert_by key x ys) (nat_lt (key y) (key x)) (any_inserted key test x ys)

pub any_sorted : {X : Type 0} (key : X → ℕ) (test : X → Bool) (xs : List X) → list_any test (sorted_by key xs) ≡ list_any test xs
any_sorted key test [] = refl
any_sorted key test (x ∷ xs) = any_inserted key test x (sorted_by key xs) ∙ ap (λ (z : Bool). test x || z) (any_sorted key test xs)

each_inserted_step : {X : Type 0} (P : X → Type 0) (x y : X) (ys zs : List X) (b : Bool) → P x → P y → Each P ys → Each P zs → Each P (if b then y ∷ zs else x ∷ y ∷ ys)
each_inserted_step P x y ys zs true h k rest more = (k, more)
each_inserted_step P x y ys zs false h k rest more = (h, (k, rest))

each_inserted : {X : Type 0} (P : X → Type 0) (key : X → ℕ) (x : X) (ys : List X) → P x → Each P ys → Each P (insert_by key x ys)
each_inserted P key x [] h rest = (h, tt)
each_inserted P key x (y ∷ ys) h rest =
    each_inserted_step P x y ys (insert_by key x ys) (nat_lt (key y) (key x)) h rest.0 rest.1 (each_inserted P key x ys h rest.1)

pub each_sorted : {X : Type 0} (P : X → Type 0) (key : X → ℕ) (xs : List X) → Each P xs → Each P (sorted_by key xs)
each_sorted P key [] h = tt
each_sorted P key (x ∷ xs) h = each_inserted P key x (sorted_by key xs) h.0 (each_sorted P key xs h.1)

-- ---- the order

-- no item has a smaller key than one before it
abbrev pub Rises : {X : Type 0} → (X → ℕ) → List X → Type 0
Rises key [] = Unit {0}
Rises key (x ∷ xs) = Each (λ y. key x ≤ key y) xs × Rises key xs

rises_inserted_step : {X : Type 0} (key : X → ℕ) (x y : X) (ys : List X) (b : Bool) → nat_lt (key y) (key x) ≡ b → Each (λ z. key y ≤ key z) ys → Rises key ys → Rises key (insert_by key x ys) → Rises key (if b then y ∷ insert_by key x ys else x ∷ y ∷ ys)
rises_inserted_step key x y ys true e first rest more =
    let before : key y ≤ key x = grind (arith, nat_tests) in
    (each_inserted (λ z. key y ≤ key z) key x ys before first, more)
rises_inserted_step key x y ys false e first rest more =
    let before : key x ≤ key y = grind (arith, nat_tests) in
    ((before, each_mono (λ z. key y ≤ key z) (λ z. key x ≤ key z) (λ z h. omega (arith, before, h)) ys first), (first, rest))

rises_inserted : {X : Type 0} (key : X → ℕ) (x : X) (ys : List X) → Rises key ys → Rises key (insert_by key x ys)
rises_inserted key x [] h = (tt, tt)
rises_inserted key x (y ∷ ys) h = rises_inserted_step key x y ys (nat_lt (key y) (key x)) refl h.0 h.1 (rises_inserted key x ys h.1)

pub rises_sorted : {X : Type 0} (key : X → ℕ) (xs : List X) → Rises key (sorted_by key xs)
rises_sorted key [] = tt
rises_sorted key (x ∷ xs) = rises_inserted key x (sorted_by key xs) (rises_sorted key xs)

-- ---- each item once

-- no item stands in the list twice
abbrev pub IsOnce : {X : Type 0} → (X → X → Bool) → List X → Type 0
IsOnce same [] = Unit {0}
IsOnce same (x ∷ xs) = (list_any (same x) xs ≡ false) × IsOnce same xs

once_inserted_step : {X : Type 0} (same : X → X → Bool) (x y : X) (ys zs : List X) (b : Bool) → (same x y || list_any (same x) ys) ≡ false → IsOnce same (y ∷ ys) → list_any (same y) zs ≡ false → IsOnce same zs → IsOnce same (if b then y ∷ zs else x ∷ y ∷ ys)
once_inserted_step same x y ys zs true none once first more = (first, more)
once_inserted_step same x y ys zs false none once first more = (none, once)

once_inserted : {X : Type 0} (same : X → X → Bool) (key : X → ℕ) → ((x y : X) → same x y ≡ same y x) → (x : X) (ys : List X) → list_any (same x) ys ≡ false → IsOnce same ys → IsOnce same (insert_by key x ys)
once_inserted same key either x [] none once = (refl, tt)
once_inserted same key either x (y ∷ ys) none once =
    let parts = or_parts (same x y) (list_any (same x) ys) none in
    once_inserted_step same x y ys (insert_by key x ys) (nat_lt (key y) (key x)) none once
    (any_inserted key (same y) x ys ∙ false_or (same y x) (list_any (same y) ys) (either y x ∙ parts.0) once.0)
    (once_inserted same key either x ys parts.1 once.1)

pub once_sorted : {X : Type 0} (same : X → X → Bool) (key : X → ℕ) → ((x y : X) → same x y ≡ same y x) → (xs : List X) → IsOnce same xs → IsOnce same (sorted_by key xs)
once_sorted same key either [] once = tt
once_sorted same key either (x ∷ xs) once =
    once_inserted same key either x (sorted_by key xs) (any_sorted key (same x) xs ∙ once.0) (once_sorted same key either xs once.1)

-- ---- the same of what passes a test

none_kept_step : {X : Type 0} (test : X → Bool) (x : X) (rest : List X) (b : Bool) → test x ≡ false → list_any test rest ≡ false → list_any test (cond b (x ∷ rest) rest) ≡ false
none_kept_step test x rest true h k = false_or (test x) (list_any test rest) h k
none_kept_step test x rest false h k = k

none_kept : {X : Type 0} (test keep : X → Bool) (xs : List X) → list_any test xs ≡ false → list_any test (filter keep xs) ≡ false
none_kept test keep [] h = h
none_kept test keep (x ∷ xs) h =
    let parts = or_parts (test x) (list_any test xs) h in
    none_kept_step test x (filter keep xs) (keep x) parts.0 (none_kept test keep xs parts.1)

once_kept_step : {X : Type 0} (same : X → X → Bool) (x : X) (rest : List X) (b : Bool) → list_any (same x) rest ≡ false → IsOnce same rest → IsOnce same (cond b (x ∷ rest) rest)
once_kept_step same x rest true none once = (none, once)
once_kept_step same x rest false none once = once

pub once_kept : {X : Type 0} (same : X → X → Bool) (keep : X → Bool) (xs : List X) → IsOnce same xs → IsOnce same (filter keep xs)
once_kept same keep [] once = tt
once_kept same keep (x ∷ xs) once =
    once_kept_step same x (filter keep xs) (keep x) (none_kept (same x) keep xs once.0) (once_kept same keep xs once.1)

pub once_append : {X : Type 0} (same : X → X → Bool) (xs ys : List X) → Each (λ x. list_any (same x) ys ≡ false) xs → IsOnce same xs → IsOnce same ys → IsOnce same (xs ++ ys)
once_append same [] ys apart once more = more
once_append same (x ∷ xs) ys apart once more =
    (list_any-append (same x) xs ys ∙ false_or (list_any (same x) xs) (list_any (same x) ys) once.0 apart.0, once_append same xs ys apart.1 once.1 more)

-- the item has this key
abbrev pub has_key : {X : Type 0} → (X → ℕ) → ℕ → X → Bool
has_key key k x = key x == k

-- the items of this key
abbrev pub of_key : {X : Type 0} → (X → ℕ) → ℕ → List X → List X
of_key key k xs = filter (has_key key k) xs

-- ---- sorting by insertion is stable

exchanged : {X : Type 0} (x y : X) (rest : List X) (c d : Bool) → (c ≡ true → d ≡ false) → cond d (y ∷ cond c (x ∷ rest) rest) (cond c (x ∷ rest) rest) ≡ cond c (x ∷ cond d (y ∷ rest) rest) (cond d (y ∷ rest) rest)
exchanged x y rest true true h = absurd (true≢false (h refl))
exchanged x y rest true false h = refl
exchanged x y rest false d h = refl

kept_inserted_step : {X : Type 0} (test : X → Bool) (x y : X) (ys zs : List X) (b : Bool) → (b ≡ true → test x ≡ true → test y ≡ false) → filter test zs ≡ filter test (x ∷ ys) → filter test (if b then y ∷ zs else x ∷ y ∷ ys) ≡ filter test (x ∷ y ∷ ys)
kept_inserted_step test x y ys zs true apart rest =
    ap (λ l. cond (test y) (y ∷ l) l) rest ∙ exchanged x y (filter test ys) (test x) (test y) (apart refl)
kept_inserted_step test x y ys zs false apart rest = refl

not_of_key : (a b k : ℕ) → nat_lt b a ≡ true → (a == k) ≡ true → (b == k) ≡ false
not_of_key a b k less same = grind (arith, nat_tests)

kept_inserted : {X : Type 0} (key : X → ℕ) (k : ℕ) (x : X) (ys : List X) → of_key key k (insert_by key x ys) ≡ of_key key k (x ∷ ys)
kept_inserted key k x [] = refl
kept_inserted key k x (y ∷ ys) =
    kept_inserted_step (has_key key k) x y ys (insert_by key x ys) (nat_lt (key y) (key x)) (not_of_key (key x) (key y) k) (kept_inserted key k x ys)

pub kept_sorted : {X : Type 0} (key : X → ℕ) (k : ℕ) (xs : List X) → of_key key k (sorted_by key xs) ≡ of_key key k xs
kept_sorted key k [] = refl
kept_sorted key k (x ∷ xs) = kept_inserted key k x (sorted_by key xs) ∙ ap (λ l. cond (key x == k) (x ∷ l) l) (kept_sorted key k xs)

-- ---- what is sorted rises

each_get : {X : Type 0} (P : X → Type 0) (xs : List X) → Each P xs → (k : ℕ) (d : X) → k < length xs → P (get_or xs k d)
each_get P [] h k d less = absurd (omega arith)
each_get P (x ∷ xs) h zero d less = h.0
each_get P (x ∷ xs) h (suc k) d less = each_get P xs h.1 k d (omega arith)

pairs_from_rises : {X : Type 0} (key : X → ℕ) (xs : List X) → Rises key xs → AllPairs (λ x y. key x ≤ key y) xs
pairs_from_rises key [] h i j d low less = absurd (omega arith)
pairs_from_rises key (x ∷ xs) h i zero d low less = absurd (omega arith)
pairs_from_rises key (x ∷ xs) h zero (suc j) d low less = each_get (λ y. key x ≤ key y) xs h.0 j d (omega arith)
pairs_from_rises key (x ∷ xs) h (suc i) (suc j) d low less = pairs_from_rises key xs h.1 i j d (omega arith) (omega arith)

pub in_order_by : SchedulesAreByClock
in_order_by p world =
    let happening = filter (happens p world) (events p) in
    (pairs_from_rises world.clock (sorted_by world.clock happening) (rises_sorted world.clock happening), λ k. kept_sorted world.clock k happening)

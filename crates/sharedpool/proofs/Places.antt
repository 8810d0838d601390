-- A place is kept for each worker that has not left.
use Rattle.std.proofs.Common.{◌≡◌, ◌≢◌, ⊎_elim, ℕ, zero, suc, ◌+◌, ◌<◌, ◌≤◌, ◌==◌, ◌&&◌, ◌||◌, Bool, true, false, true≢false, if◌then◌else◌, List, [], ◌∷◌, ◌++◌, map, refl, sym, ap, ◌∙◌, subst, arith}
use Rattle.std.proofs.lemmas.Bool.{cases_eq, or_left, or_right}
use Rattle.std.proofs.lemmas.List.Folds.{list_any-append}
use Rattle.pool.specs.declared.entry.LoggedCall.{LoggedCall}
use Rattle.sharedpool.specs.parts.Leaves.{has_entry, leavers, places_after}
use Rattle.sharedpool.specs.Leaves.{is_leave, has_left}
use Rattle.sharedpool.specs.Views.{items_of}
use Rattle.sharedpool.proofs.Moves.{items_of-mine, items_of-other}

abbrev bit : Bool → ℕ
bit b = if b then 1 else 0

bit_most : (b : Bool) → bit b ≤ 1
bit_most true = omega arith
bit_most false = omega arith

bits_more : (b c : Bool) → (b ≡ true → c ≡ true) → bit b ≤ bit c
bits_more false c more = omega arith
bits_more true true more = omega arith
bits_more true false more = absurd (true≢false (sym (more refl)))

left_more : (items : List LoggedCall) (item : LoggedCall) → has_left items ≡ true → has_left (items ++ item ∷ []) ≡ true
left_more items item is =
    list_any-append (λ (i : LoggedCall). is_leave i.entry.operation) items (item ∷ []) ∙ or_left (has_left items) (has_left (item ∷ [])) is

left_now : (items : List LoggedCall) (item : LoggedCall) → is_leave item.entry.operation ≡ true → has_left (items ++ item ∷ []) ≡ true
left_now items item is =
    list_any-append (λ (i : LoggedCall). is_leave i.entry.operation) items (item ∷ [])
    ∙ or_right (has_left items) (has_left (item ∷ [])) (or_left (is_leave item.entry.operation) false is)

-- who left has left
still_left : (worker : ℕ) (items : List LoggedCall) (item : LoggedCall) → has_left (items_of worker items) ≡ true → has_left (items_of worker (items ++ item ∷ [])) ≡ true
still_left worker items item is =
    ⊎_elim
    (λ (same : item.entry.worker ≡ worker). ap has_left (items_of-mine worker items item same) ∙ left_more (items_of worker items) item is)
    (λ (apart : item.entry.worker ≢ worker). ap has_left (items_of-other worker items item apart) ∙ is)
    (cases_eq item.entry.worker worker)

bit_more : (worker : ℕ) (items : List LoggedCall) (item : LoggedCall) → bit (has_left (items_of worker items)) ≤ bit (has_left (items_of worker (items ++ item ∷ [])))
bit_more worker items item = bits_more _ _ (still_left worker items item)

pub leavers_more : (workers : ℕ) (items : List LoggedCall) (item : LoggedCall) → leavers workers items ≤ leavers workers (items ++ item ∷ [])
leavers_more zero items item = omega arith
leavers_more (suc worker) items item = omega (arith, bit_more worker items item, leavers_more worker items item)

leavers_most : (workers : ℕ) (items : List LoggedCall) → leavers workers items ≤ workers
leavers_most zero items = omega arith
leavers_most (suc worker) items = omega (arith, bit_most (has_left (items_of worker items)), leavers_most worker items)

-- one of the workers did not leave
leavers_below : (workers worker : ℕ) (items : List LoggedCall) → worker < workers → has_left (items_of worker items) ≡ false → leavers workers items < workers
leavers_below zero worker items low none = absurd (omega (arith, low))
leavers_below (suc last) worker items low none =
    ⊎_elim
    (λ (same : worker ≡ last). omega (arith, ap bit (subst (λ n. has_left (items_of n items) ≡ false) same none), leavers_most last items))
    (λ (apart : worker ≢ last). omega (arith, bit_most (has_left (items_of last items)), leavers_below last worker items (omega (arith, low, apart)) none))
    (cases_eq worker last)

-- one more of the workers leaves
leavers_strict : (workers worker : ℕ) (items : List LoggedCall) (item : LoggedCall)
    → is_leave item.entry.operation ≡ true → item.entry.worker ≡ worker → worker < workers → has_left (items_of worker items) ≡ false
    → leavers workers items + 1 ≤ leavers workers (items ++ item ∷ [])
leavers_strict zero worker items item leave is low none = absurd (omega (arith, low))
leavers_strict (suc last) worker items item leave is low none =
    ⊎_elim
    (λ (same : worker ≡ last).
    let before : bit (has_left (items_of last items)) ≡ 0 = ap bit (subst (λ n. has_left (items_of n items) ≡ false) same none) in
    let now : bit (has_left (items_of last (items ++ item ∷ []))) ≡ 1 = ap bit (ap has_left (items_of-mine last items item (is ∙ same)) ∙ left_now (items_of last items) item leave) in
    omega (arith, before, now, leavers_more last items item))
    (λ (apart : worker ≢ last). omega (arith, bit_more last items item, leavers_strict last worker items item leave is (omega (arith, low, apart)) none))
    (cases_eq worker last)

-- a place is kept for a worker that did not leave
pub place_kept : (workers worker places : ℕ) (items : List LoggedCall) → worker < workers → workers ≤ places + leavers workers items → has_left (items_of worker items) ≡ false → 1 ≤ places
place_kept workers worker places items low kept none = omega (arith, kept, leavers_below workers worker items low none)

-- and after a leave one for each of the others that did not
pub places_left : (workers worker places : ℕ) (items : List LoggedCall) (item : LoggedCall) (left : Bool)
    → is_leave item.entry.operation ≡ true → item.entry.worker ≡ worker → worker < workers → workers ≤ places + leavers workers items → has_left (items_of worker items) ≡ left
    → workers ≤ places_after left places + leavers workers (items ++ item ∷ [])
places_left workers worker places items item true leave is low kept left = omega (arith, kept, leavers_more workers items item)
places_left workers worker places items item false leave is low kept left =
    omega (arith, kept, place_kept workers worker places items low kept left, leavers_strict workers worker items item leave is low left)

left_if : (mine : Bool) (item : LoggedCall) (rest : List LoggedCall) (left : Bool) → has_left rest ≡ left → has_left (if mine then item ∷ rest else rest) ≡ ((mine && is_leave item.entry.operation) || left)
left_if true item rest left is = ap (λ b. is_leave item.entry.operation || b) is
left_if false item rest left is = is

-- a worker's items tell as much of it as all entries
pub left_as : (worker : ℕ) (items : List LoggedCall) → has_left (items_of worker items) ≡ has_entry worker (map (λ (i : LoggedCall). i.entry) items)
left_as worker [] = refl
left_as worker (item ∷ items) = left_if (item.entry.worker == worker) item (items_of worker items) _ (left_as worker items)

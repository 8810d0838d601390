-- Marks of pairs of events.
use Rattle.std.proofs.Common.{◌≡◌, ℕ, zero, suc, if◌then◌else◌, take, replicate, ◌+◌, ◌-◌, ◌*◌, ◌<◌, ◌≤◌, inl, inr, Bool, true, false, ◌&&◌, ◌||◌, ◌==◌, List, [], ◌∷◌, ◌++◌, map, length, get_or, set, refl, sym, ap, ◌∙◌, subst, arith}
use Rattle.std.specs.List.{filter, flat_map, range_with_len}
use Rattle.std.proofs.lemmas.Bool.{cases_eq}
use Rattle.std.proofs.lemmas.List.{get_or-set_same, get_or-set_other, length-set, take_more, append_assoc, append-nil}
use Rattle.std.proofs.lemmas.List.Concat.{flat_map-append}
use Rattle.std.proofs.lemmas.List.Elements.{filter-append}
use Rattle.std.proofs.lemmas.List.FromFn.{filter_of_map_range_with_len_more}
use Rattle.candidates.proofs.Ranges.{flat_map_range_more}
use Rattle.std.proofs.lemmas.List.Folds.{list_any-append}
use Rattle.std.proofs.lemmas.Nat.{mul-add-lt}
use Rattle.formula.specs.Orders.{are_of_same_events, is_among}
use Rattle.formula_tables.proofs.Apart.{first_told, second_told, both_equal, not_both}
use Rattle.formula_families.specs.parts.Blocks.{AreMarks}

or_false : (b c d : Bool) → c ≡ false → d ≡ false → b ≡ (b || ((c || d) || false))
or_false true false false h k = refl
or_false false false false h k = refl
or_false b true d h k = absurd cc
or_false true false true h k = absurd cc
or_false false false true h k = absurd cc

or_true_left : (b c d : Bool) → c ≡ true → true ≡ (b || ((c || d) || false))
or_true_left true true d h = refl
or_true_left false true d h = refl
or_true_left b false d h = absurd cc

or_true_right : (b c d : Bool) → d ≡ true → true ≡ (b || ((c || d) || false))
or_true_right true true true h = refl
or_true_right true false true h = refl
or_true_right false true true h = refl
or_true_right false false true h = refl
or_true_right true true false h = absurd cc
or_true_right true false false h = absurd cc
or_true_right false true false h = absurd cc
or_true_right false false false h = absurd cc

one_more : (m : ℕ) (orders : List (ℕ × ℕ)) (marks : List Bool) (a b e f : ℕ) → length marks ≡ m * m → a < m → b < m → e < m → f < m → get_or marks (e * m + f) false ≡ is_among orders (e, f) → get_or (set (set marks (a * m + b) true) (b * m + a) true) (e * m + f) false ≡ (is_among orders (e, f) || (((e == a && f == b) || (e == b && f == a)) || false))
one_more m orders marks a b e f size below_a below_b below_e below_f before =
    let place = e * m + f in
    let one = a * m + b in
    let other = b * m + a in
    let marked = set marks one true in
    let inside_one = mul-add-lt a m b m below_a below_b in
    let inside_other = mul-add-lt b m a m below_b below_a in
    let longer = length-set marks one true in
    elim (cases_eq place other) [
      | inl same ↦
          (let e_is = first_told m e f b a below_f below_a same in
          let f_is = second_told m e f b a e_is same in
          ap (λ (z : ℕ). get_or (set marked other true) z false) same ∙
          (get_or-set_same marked other true false (omega (arith, inside_other, size, longer)) ∙
          or_true_right (is_among orders (e, f)) (e == a && f == b) (e == b && f == a) (both_equal e f b a e_is f_is)))
      | inr differ ↦
          get_or-set_other marked other place true false differ ∙
          (elim (cases_eq place one) [
            | inl same ↦
                (let e_is = first_told m e f a b below_f below_b same in
                let f_is = second_told m e f a b e_is same in
                ap (λ (z : ℕ). get_or (set marks one true) z false) same ∙
                (get_or-set_same marks one true false (omega (arith, inside_one, size)) ∙
                or_true_left (is_among orders (e, f)) (e == a && f == b) (e == b && f == a) (both_equal e f a b e_is f_is)))
            | inr apart ↦
                get_or-set_other marks one place true false apart ∙
                (before ∙ or_false (is_among orders (e, f)) (e == a && f == b) (e == b && f == a)
                (not_both e f a b (λ x y. apart (ap (λ (z : ℕ). z * m + f) x ∙ ap (λ (z : ℕ). a * m + z) y)))
                (not_both e f b a (λ x y. differ (ap (λ (z : ℕ). z * m + f) x ∙ ap (λ (z : ℕ). b * m + z) y))))
          ])
    ]

-- both entries of two places are set
pub marks_more : (m : ℕ) (orders : List (ℕ × ℕ)) (marks new : List Bool) (a b : ℕ) → length marks ≡ m * m → a < m → b < m → new ≡ set (set marks (a * m + b) true) (b * m + a) true → AreMarks m orders marks → AreMarks m (orders ++ ((a, b) ∷ [])) new
marks_more m orders marks new a b size below_a below_b is h e f below_e below_f =
    ap (λ (l : List Bool). get_or l (e * m + f) false) is ∙
    (one_more m orders marks a b e f size below_a below_b below_e below_f (h e f below_e below_f) ∙
    sym (list_any-append (are_of_same_events (e, f)) orders ((a, b) ∷ [])))

-- nothing is set for places that are out of range
pub marks_same : (m : ℕ) (orders : List (ℕ × ℕ)) (marks : List Bool) (a b : ℕ) → (a < m → b < m → ⊥) → AreMarks m orders marks → AreMarks m (orders ++ ((a, b) ∷ [])) marks
marks_same m orders marks a b out h e f below_e below_f =
    h e f below_e below_f ∙
    (or_false (is_among orders (e, f)) (e == a && f == b) (e == b && f == a)
    (not_both e f a b (λ x y. out (omega (arith, x, below_e)) (omega (arith, y, below_f))))
    (not_both e f b a (λ x y. out (omega (arith, y, below_f)) (omega (arith, x, below_e)))) ∙
    sym (list_any-append (are_of_same_events (e, f)) orders ((a, b) ∷ [])))

-- ---- along lists

pub front : {X Y : Type 0} (f : X → List Y) (xs : List X) (i : ℕ) (d : X) → i < length xs → flat_map f (take (i + 1) xs) ≡ flat_map f (take i xs) ++ f (get_or xs i d)
front f xs i d in_range =
    ap (flat_map f) (take_more xs i d in_range) ∙ (flat_map-append f (take i xs) (get_or xs i d ∷ []) ∙ ap (λ l. flat_map f (take i xs) ++ l) (append-nil (f (get_or xs i d))))

-- the marks of one more element of a list
pub marks_step : {X : Type 0} (m : ℕ) (f : X → List (ℕ × ℕ)) (xs : List X) (i : ℕ) (d x : X) (old mid new : List Bool) → i < length xs → x ≡ get_or xs i d → ((orders : List (ℕ × ℕ)) → AreMarks m orders old → AreMarks m (orders ++ flat_map f (take i xs)) mid) → ((orders : List (ℕ × ℕ)) → AreMarks m orders mid → AreMarks m (orders ++ f x) new) → (orders : List (ℕ × ℕ)) → AreMarks m orders old → AreMarks m (orders ++ flat_map f (take (i + 1) xs)) new
marks_step m f xs i d x old mid new in_range is first more orders h =
    let so_far = flat_map f (take i xs) in
    subst (λ (l : List (ℕ × ℕ)). AreMarks m l new)
    (append_assoc orders so_far (f x) ∙ (ap (λ z. orders ++ (so_far ++ f z)) is ∙ ap (λ l. orders ++ l) (sym (front f xs i d in_range))))
    (more (orders ++ so_far) (first orders h))

-- one more place of a row
pub row_step : (q : ℕ × ℕ → Bool) (first second : ℕ) (b : Bool) (old mid new : List (ℕ × ℕ)) → first + 1 ≤ second → mid ≡ old ++ filter q (map (λ f. (first, f)) (range_with_len (first + 1) (second - (first + 1)))) → new ≡ mid ++ (if b then (first, second) ∷ [] else []) → b ≡ q (first, second) → new ≡ old ++ filter q (map (λ f. (first, f)) (range_with_len (first + 1) (second + 1 - (first + 1))))
row_step q first second b old mid new low e h is =
    let n = second - (first + 1) in
    let f : ℕ → ℕ × ℕ = λ g. (first, g) in
    let more = filter_of_map_range_with_len_more q f (first + 1) n second (omega (arith, low)) in
    let size : n + 1 ≡ second + 1 - (first + 1) = omega (arith, low) in
    let row : List (ℕ × ℕ) = filter q (map f (range_with_len (first + 1) n)) in
    h ∙ (ap (λ l. l ++ (if b then (first, second) ∷ [] else [])) e ∙ (append_assoc old row (if b then (first, second) ∷ [] else []) ∙
    (ap (λ z. old ++ (row ++ (if z then (first, second) ∷ [] else []))) is ∙
    (ap (λ l. old ++ l) (sym more) ∙ ap (λ (z : ℕ). old ++ filter q (map f (range_with_len (first + 1) z))) size))))

-- one more row
pub rows_step : (q : ℕ × ℕ → Bool) (g : ℕ → List (ℕ × ℕ)) (k : ℕ) (mid new : List (ℕ × ℕ)) → mid ≡ filter q (flat_map g (range_with_len 0 k)) → new ≡ mid ++ filter q (g k) → new ≡ filter q (flat_map g (range_with_len 0 (k + 1)))
rows_step q g k mid new e h =
    h ∙ (ap (λ l. l ++ filter q (g k)) e ∙ (sym (filter-append q (flat_map g (range_with_len 0 k)) (g k)) ∙ ap (filter q) (sym (flat_map_range_more g k))))

pub none_marked : (m n : ℕ) → AreMarks m [] (replicate n false)
none_marked m n e f below_e below_f = none n (e * m + f)
  where
    none : (n i : ℕ) → get_or (replicate n false) i false ≡ false
    none zero i = refl
    none (suc n) zero = refl
    none (suc n) (suc i) = none n i

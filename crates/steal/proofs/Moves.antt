-- Each move of a deque keeps the balance.
use Rattle.std.proofs.Common.{◌≡◌, ◌≢◌, ⊎_elim, ℕ, Bool, true, cond, zero, suc, ◌+◌, ◌-◌, ◌<◌, ◌≤◌, List, [], ◌∷◌, ◌++◌, set, refl, sym, ap, ◌∙◌, subst, arith, length-append, length, count_by}
use Rattle.std.proofs.lemmas.List.Sums.{sum_by-append, sum_by-cons}
use mathlib.Core.Option.{some, some-ne-none, some-injective}
use lib.ListN.{get_elem?}
use Rattle.crossbeam_deque.specs.Tasks.{Pushes, Takes, Forks, Merges, Finds}
use Rattle.crossbeam_deque.proofs.Lists.{at_set, at_snoc}
use Rattle.steal.specs.declared.rule.Hand.{Hand}
use Rattle.steal.specs.parts.Hands.{hand, total, IdleIsEmpty, Balanced}
use Rattle.steal.specs.Hands.{all_parts}

pub count_by-append : (p : ℕ → Bool) (xs ys : List ℕ) → count_by p (xs ++ ys) ≡ count_by p xs + count_by p ys
count_by-append p xs ys = sum_by-append (λ x. cond (p x) 1 0) xs ys

-- the total after a change of one pass
total_set : (f : Hand → ℕ) (views : List Hand) (port : ℕ) (v w : Hand) → get_elem? views port ≡ some v → total f (set views port w) + f v ≡ total f views + f w
total_set f [] port v w e = absurd (some-ne-none v (sym e))
total_set f (x ∷ views) zero v w e = let same : f x ≡ f v = ap f (some-injective x v e) in omega arith
total_set f (x ∷ views) (suc port) v w e = let rest = total_set f views port v w e in omega arith

total_snoc : (f : Hand → ℕ) (views : List Hand) (w : Hand) → total f (views ++ w ∷ []) ≡ total f views + f w
total_snoc f [] w = omega arith
total_snoc f (x ∷ views) w = let rest = total_snoc f views w in omega arith

idle_set : (views : List Hand) (port : ℕ) (w : Hand) → (w.parts ≡ 0 → (w.pushed ≡ []) × (w.taken ≡ [])) → IdleIsEmpty views → IdleIsEmpty (set views port w)
idle_set views port w mine others j u e =
    ⊎_elim (λ (x : (j ≡ port) × (w ≡ u)). subst (λ (y : Hand). y.parts ≡ 0 → (y.pushed ≡ []) × (y.taken ≡ [])) x.1 mine)
    (λ (x : (j ≢ port) × (get_elem? views j ≡ some u)). others j u x.1)
    (at_set views port j w u e)

idle_snoc : (views : List Hand) (w : Hand) → (w.parts ≡ 0 → (w.pushed ≡ []) × (w.taken ≡ [])) → IdleIsEmpty views → IdleIsEmpty (views ++ w ∷ [])
idle_snoc views w mine others j u e =
    ⊎_elim (λ was. others j u was) (λ (is : w ≡ u). subst (λ (y : Hand). y.parts ≡ 0 → (y.pushed ≡ []) × (y.taken ≡ [])) is mine) (at_snoc views w u j e)

pub begins : Balanced [] (hand all_parts [] [] ∷ [])
begins =
    record {
      parts = refl;
      even = λ p. refl;
      idle = idle_snoc [] (hand all_parts [] []) (λ none. absurd (omega (arith, none))) (λ j u e. absurd (some-ne-none u (sym e)));
    }

pub pushes : (port : ℕ) (v : Hand) (cubes : List ℕ) → 0 < v.parts → Pushes Balanced port v cubes (λ w. w ≡ hand v.parts (v.pushed ++ cubes) v.taken)
pushes port v cubes some_part items views b at = let w = hand v.parts (v.pushed ++ cubes) v.taken in (
  w,
  record {
    parts = let s = total_set (λ u. u.parts) views port v w at in omega (arith, s, b.parts);
    even = λ p.
        let s = total_set (λ u. count_by p u.pushed) views port v w at in
        let t = total_set (λ u. count_by p u.taken) views port v w at in
        omega (arith, s, t, b.even p, count_by-append p v.pushed cubes, count_by-append p items cubes);
    idle = idle_set views port w (λ none. absurd (omega (arith, none, some_part))) b.idle;
  },
  refl,
)

pub takes : (port : ℕ) (v : Hand) → 0 < v.parts → Takes Balanced port v 1 (λ cubes w. w ≡ hand v.parts v.pushed (v.taken ++ cubes))
takes port v some_part cubes items views _ _ b at = let w = hand v.parts v.pushed (v.taken ++ cubes) in (
  w,
  record {
    parts = let s = total_set (λ u. u.parts) views port v w at in omega (arith, s, b.parts);
    even = λ p.
        let s = total_set (λ u. count_by p u.pushed) views port v w at in
        let t = total_set (λ u. count_by p u.taken) views port v w at in
        omega (arith, s, t, b.even p, count_by-append p v.taken cubes, count_by-append p cubes items);
    idle = idle_set views port w (λ none. absurd (omega (arith, none, some_part))) b.idle;
  },
  refl,
)

pub forks : (port : ℕ) (v : Hand) → 1 < v.parts → Forks Balanced port v (hand (v.parts - 1) v.pushed v.taken) (hand 1 [] [])
forks port v two_parts items views b at = let l = hand (v.parts - 1) v.pushed v.taken in let r = hand 1 [] [] in let after = set views port l in
    record {
      parts =
          let s = total_set (λ u. u.parts) views port v l at in
          let t = total_snoc (λ u. u.parts) after r in
          omega (arith, s, t, b.parts, two_parts);
      even = λ p.
          let s = total_set (λ u. count_by p u.pushed) views port v l at in
          let t = total_set (λ u. count_by p u.taken) views port v l at in
          omega (arith, s, t, b.even p, total_snoc (λ u. count_by p u.pushed) after r, total_snoc (λ u. count_by p u.taken) after r);
      idle = idle_snoc after r (λ none. (refl, refl)) (idle_set views port l (λ none. absurd (omega (arith, none, two_parts))) b.idle);
    }

pub merges : (port : ℕ) (v : Hand) (other : ℕ) (u : Hand) → 0 < v.parts → Merges Balanced port v other u (hand (v.parts + u.parts) (v.pushed ++ u.pushed) (v.taken ++ u.taken)) (hand 0 [] [])
merges port v other u some_part items views b at apart there = let both = hand (v.parts + u.parts) (v.pushed ++ u.pushed) (v.taken ++ u.taken) in let after = set views port both in
    record {
      parts =
          let s = total_set (λ x. x.parts) views port v both at in
          let t = total_set (λ x. x.parts) after other u (hand 0 [] []) there in
          omega (arith, s, t, b.parts);
      even = λ p.
          let s = total_set (λ x. count_by p x.pushed) views port v both at in
          let t = total_set (λ x. count_by p x.taken) views port v both at in
          let s' = total_set (λ x. count_by p x.pushed) after other u (hand 0 [] []) there in
          let t' = total_set (λ x. count_by p x.taken) after other u (hand 0 [] []) there in
          omega (arith, s, t, s', t', b.even p, count_by-append p v.pushed u.pushed, count_by-append p v.taken u.taken);
      idle = idle_set after other (hand 0 [] []) (λ none. (refl, refl)) (idle_set views port both (λ none. absurd (omega (arith, none, some_part))) b.idle);
    }

-- with every part, the others have pushed and taken nothing
none_left : (views : List Hand) → total (λ v. v.parts) views ≡ 0 → IdleIsEmpty views → (p : ℕ → Bool) → (total (λ v. count_by p v.pushed) views ≡ 0) × (total (λ v. count_by p v.taken) views ≡ 0)
none_left [] parts idle p = (refl, refl)
none_left (v ∷ views) parts idle p =
    let mine = idle 0 v refl (omega (arith, parts)) in
    let rest = none_left views (omega (arith, parts)) (λ j u e. idle (suc j) u e) p in
    (omega (arith, ap (count_by p) mine.0, rest.0), omega (arith, ap (count_by p) mine.1, rest.1))

parts_within : (views : List Hand) (port : ℕ) (v : Hand) → get_elem? views port ≡ some v → v.parts ≤ total (λ u. u.parts) views
parts_within [] port v e = absurd (some-ne-none v (sym e))
parts_within (x ∷ views) zero v e = let same : x.parts ≡ v.parts = ap (λ (u : Hand). u.parts) (some-injective x v e) in omega arith
parts_within (x ∷ views) (suc port) v e = let rest = parts_within views port v e in omega arith

all_mine : (views : List Hand) (port : ℕ) (v : Hand) → get_elem? views port ≡ some v → total (λ u. u.parts) views ≡ v.parts → IdleIsEmpty views
    → (p : ℕ → Bool) → (total (λ u. count_by p u.pushed) views ≡ count_by p v.pushed) × (total (λ u. count_by p u.taken) views ≡ count_by p v.taken)
all_mine [] port v e parts idle p = absurd (some-ne-none v (sym e))
all_mine (x ∷ views) zero v e parts idle p =
    let same : x ≡ v = some-injective x v e in
    let rest = none_left views (omega (arith, parts, ap (λ (u : Hand). u.parts) same)) (λ j u q. idle (suc j) u q) p in
    (omega (arith, rest.0, ap (λ (u : Hand). count_by p u.pushed) same), omega (arith, rest.1, ap (λ (u : Hand). count_by p u.taken) same))
all_mine (x ∷ views) (suc port) v e parts idle p =
    let none : x.parts ≡ 0 = omega (arith, parts, parts_within views port v e) in
    let mine = idle 0 x refl none in
    let rest = all_mine views port v e (omega (arith, parts, none)) (λ j u q. idle (suc j) u q) p in
    (omega (arith, ap (count_by p) mine.0, rest.0), omega (arith, ap (count_by p) mine.1, rest.1))

-- a pass with every part knows what the deque holds beside what it has pushed and taken
whole_of : (views : List Hand) (items : List ℕ) (port : ℕ) (v : Hand) → Balanced items views → get_elem? views port ≡ some v → v.parts ≡ all_parts
    → (p : ℕ → Bool) → count_by p v.pushed ≡ count_by p v.taken + count_by p items
whole_of views items port v b at whole p =
    let mine = all_mine views port v at (b.parts ∙ sym whole) b.idle p in
    omega (arith, b.even p, mine.0, mine.1)

-- where it is empty, the cubes taken are those pushed
pub finds : (port : ℕ) (v : Hand) → v.parts ≡ all_parts → Finds Balanced port v ((p : ℕ → Bool) → count_by p v.pushed ≡ count_by p v.taken)
finds port v whole views b at p = let all = whole_of views [] port v b at whole p in omega (arith, all)

count_all : (xs : List ℕ) → count_by (λ _. true) xs ≡ length xs
count_all [] = refl
count_all (x ∷ xs) = let rest = count_all xs in omega (arith, sum_by-cons (λ (y : ℕ). cond true 1 0) x xs, rest)

-- no more cubes are taken than were pushed
pub drains : (port : ℕ) (v : Hand) → v.parts ≡ all_parts → Takes Balanced port v 1 (λ cubes w. (w ≡ hand v.parts v.pushed (v.taken ++ cubes)) × (length (v.taken ++ cubes) ≤ length v.pushed))
drains port v whole cubes items views some_cube one_cube b at =
    let step = takes port v (omega (arith, whole)) cubes items views some_cube one_cube b at in
    let all = whole_of views (cubes ++ items) port v b at whole (λ _. true) in
    (step.0, step.1, (step.2, omega (arith, all, count_all v.pushed, count_all v.taken, count_by-append (λ _. true) cubes items, count_all cubes, length-append v.taken cubes)))

-- Groups with the same ranks are spelled alike.
use Rattle.std.proofs.Common.{◌≡◌, ℕ, ◌+◌, ◌-◌, ◌*◌, ◌/◌, ◌%◌, ◌<◌, ◌≤◌, Bool, true, false, ap, sym, refl, ◌∙◌, subst, nat_eq, arith, true≢false, ◌⊎◌, inl, inr}
use Rattle.std.specs.Prelude.{if◌then◌else◌}
use Rattle.std.proofs.lemmas.Bool.{cases_lt, eq-eqb}
use Rattle.std.proofs.lemmas.Bool.Decides.{nat_tests}
use Rattle.std.proofs.lemmas.Nat.Gcd.{dvd_of_mod-eq-zero, le_of_dvd}
use Rattle.std.proofs.Math.Nat.{div-add-mod, mod-le, mod_self, zero-mod, mul-mod_right, div-mul-le_self, le-div_iff_mul-le, mul-le-mul_left}
use Rattle.unroll.specs.declared.call.Group.{Group}
use Rattle.unroll.specs.Groups.{is_member, last_member, alike}
use Rattle.unroll.specs.Apart.{HaveSameRanks, GroupsAreSpelledAlike}

-- the rank is one of a group
record Has (g : Group) (r : ℕ) : Type 0 where
  rises : 0 < g.step
  low : g.first ≤ r
  high : r ≤ g.last
  steps : (r - g.first) % g.step ≡ 0

has : (g : Group) (r : ℕ) → is_member g r ≡ true → Has g r
has g r e =
    record { rises = grind (arith, nat_tests, e); low = grind (arith, nat_tests, e); high = grind (arith, nat_tests, e); steps = grind (arith, nat_tests, e) }

is_one : (g : Group) (r : ℕ) → Has g r → is_member g r ≡ true
is_one g r h = let a = h.rises in let b = h.low in let c = h.high in let d = h.steps in grind (arith, nat_tests, a, b, c, d)

other : (a b : Group) (r : ℕ) → HaveSameRanks a b → Has a r → Has b r
other a b r same h = has b r (sym (same r) ∙ is_one a r h)

-- the last multiple of a step up to a number
multiple : (d s : ℕ) → (d - d % s) % s ≡ 0
multiple d s =
    let e : d - d % s ≡ s * (d / s) = omega (arith, div-add-mod d s) in
    ap (λ (n : ℕ). n % s) e ∙ mul-mod_right s (d / s)

up_to_last : (d s n : ℕ) → 0 < s → n ≤ d → n % s ≡ 0 → n ≤ d - d % s
up_to_last d s n some le e =
    let times : n / s ≤ d / s = (le-div_iff_mul-le some).1 (omega (arith, div-mul-le_self n s, le)) in
    let whole : s * (n / s) ≡ n = omega (arith, div-add-mod n s, e) in
    let fewer : s * (n / s) ≤ s * (d / s) = mul-le-mul_left s times in
    omega (arith, div-add-mod d s, whole, fewer)

first_in : (g : Group) (q : ℕ) → Has g q → Has g g.first
first_in g q h =
    let low : g.first ≤ g.last = omega (arith, h.low, h.high) in
    let nothing : g.first - g.first ≡ 0 = omega arith in
    let none : (g.first - g.first) % g.step ≡ 0 = ap (λ (n : ℕ). n % g.step) nothing ∙ zero-mod g.step in
    record { rises = h.rises; low = omega arith; high = low; steps = none }

last_in : (g : Group) (q : ℕ) → Has g q → Has g (last_member g)
last_in g q h =
    let low : g.first ≤ g.last = omega (arith, h.low, h.high) in
    let most : (g.last - g.first) % g.step ≤ g.last - g.first = mod-le (g.last - g.first) g.step in
    let steps : (last_member g - g.first) % g.step ≡ 0 =
    ap (λ (n : ℕ). n % g.step) (omega (arith, low, most)) ∙ multiple (g.last - g.first) g.step in
    record { rises = h.rises; low = omega (arith, low, most); high = omega (arith, low, most); steps = steps }

-- no rank of the group is above its last one
below_last : (g : Group) (r : ℕ) → Has g r → r ≤ last_member g
below_last g r h =
    let most : (g.last - g.first) % g.step ≤ g.last - g.first = mod-le (g.last - g.first) g.step in
    let within : r - g.first ≤ (g.last - g.first) - (g.last - g.first) % g.step = up_to_last (g.last - g.first) g.step (r - g.first) h.rises (omega (arith, h.high)) h.steps in
    omega (arith, h.low, h.high, most, within)

both_ways : (b c : Bool) → (b ≡ true → c ≡ true) → (c ≡ true → b ≡ true) → b ≡ c
both_ways true true f g = refl
both_ways true false f g = absurd (true≢false (sym (f refl)))
both_ways false true f g = absurd (true≢false (sym (g refl)))
both_ways false false f g = refl

abbrev one_or : Bool → ℕ → ℕ
one_or single step = if single then 1 else step

step_of_one : (a : Group) → last_member a ≡ a.first → (alike a).step ≡ 1
step_of_one a e = let same : nat_eq (last_member a) a.first ≡ true = eq-eqb (last_member a) a.first e in ap (λ (b : Bool). one_or b a.step) same

step_of_more : (a : Group) → a.first < last_member a → (alike a).step ≡ a.step
step_of_more a lt = let other : nat_eq (last_member a) a.first ≡ false = grind (arith, nat_tests, lt) in ap (λ (b : Bool). one_or b a.step) other

-- a group of one rank has that rank alone
keeps_one : (a : Group) (q r : ℕ) → Has a q → last_member a ≡ a.first → is_member (alike a) r ≡ is_member a r
keeps_one a q r h one =
    let step : (alike a).step ≡ 1 = step_of_one a one in
    both_ways (is_member (alike a) r) (is_member a r)
    (λ e. let s = has (alike a) r e in
    let at : r ≡ a.first = omega (arith, s.low, s.high, one) in
    is_one a r (subst (λ (n : ℕ). Has a n) (sym at) (first_in a q h)))
    (λ e. let s = has a r e in
    let above : r ≤ last_member a = below_last a r s in
    let rises : 0 < (alike a).step = omega (arith, step) in
    let nothing : r - a.first ≡ 0 = omega (arith, above, one) in
    let steps : (r - a.first) % (alike a).step ≡ 0 = ap (λ (n : ℕ). n % (alike a).step) nothing ∙ zero-mod (alike a).step in
    is_one (alike a) r (record { rises = rises; low = s.low; high = above; steps = steps }))

keeps_more : (a : Group) (q r : ℕ) → Has a q → a.first < last_member a → is_member (alike a) r ≡ is_member a r
keeps_more a q r h more =
    let step : (alike a).step ≡ a.step = step_of_more a more in
    let below : last_member a ≤ a.last = (last_in a q h).high in
    both_ways (is_member (alike a) r) (is_member a r)
    (λ e. let s = has (alike a) r e in
    let steps : (r - a.first) % a.step ≡ 0 = subst (λ (n : ℕ). (r - a.first) % n ≡ 0) step s.steps in
    is_one a r (record { rises = h.rises; low = s.low; high = omega (arith, s.high, below); steps = steps }))
    (λ e. let s = has a r e in
    let steps : (r - a.first) % (alike a).step ≡ 0 = subst (λ (n : ℕ). (r - a.first) % n ≡ 0) (sym step) s.steps in
    let rises : 0 < (alike a).step = omega (arith, step, s.rises) in
    is_one (alike a) r (record { rises = rises; low = s.low; high = below_last a r s; steps = steps }))

abbrev group_with : ℕ → ℕ → ℕ → Group
group_with first last step = record { first = first; last = last; step = step }

-- of a group with two ranks or more the second is a step above the first
step_in : (g : Group) (q : ℕ) → Has g q → g.first < last_member g → Has g (g.first + g.step)
step_in g q h more =
    let l = last_in g q h in
    let few : g.step ≤ last_member g - g.first = le_of_dvd (omega (arith, more)) (dvd_of_mod-eq-zero g.step l.steps) in
    let steps : (g.first + g.step - g.first) % g.step ≡ 0 = ap (λ (n : ℕ). n % g.step) (omega arith) ∙ mod_self g.step in
    record { rises = h.rises; low = omega arith; high = omega (arith, few, l.low, l.high); steps = steps }

-- the steps of a group with the second rank of another are no longer
no_longer : (a b : Group) (q : ℕ) → HaveSameRanks a b → Has a q → a.first ≡ b.first → a.first < last_member a → b.step ≤ a.step
no_longer a b q same h firsts more =
    let s = other a b (a.first + a.step) same (step_in a q h more) in
    let e : a.step % b.step ≡ 0 = ap (λ (n : ℕ). n % b.step) (omega (arith, firsts)) ∙ s.steps in
    le_of_dvd h.rises (dvd_of_mod-eq-zero b.step e)

turned : (a b : Group) → HaveSameRanks a b → HaveSameRanks b a
turned a b same r = sym (same r)

same_first : (a b : Group) (q : ℕ) → HaveSameRanks a b → Has a q → a.first ≡ b.first
same_first a b q same h =
    let one = other a b a.first same (first_in a q h) in
    let two = other b a b.first (turned a b same) (first_in b q (other a b q same h)) in
    omega (arith, one.low, two.low)

same_last : (a b : Group) (q : ℕ) → HaveSameRanks a b → Has a q → last_member a ≡ last_member b
same_last a b q same h =
    let one : last_member a ≤ last_member b = below_last b (last_member a) (other a b (last_member a) same (last_in a q h)) in
    let two : last_member b ≤ last_member a = below_last a (last_member b) (other b a (last_member b) (turned a b same) (last_in b q (other a b q same h))) in
    omega (arith, one, two)

-- what is written of groups whose first and last ranks, and steps, are these
same_steps : (a b : Group) (q : ℕ) → HaveSameRanks a b → Has a q → a.first ≡ b.first → last_member a ≡ last_member b
    → (last_member a ≡ a.first) ⊎ (a.first < last_member a) → (alike a).step ≡ (alike b).step
same_steps a b q same h firsts lasts (inl one) = step_of_one a one ∙ sym (step_of_one b (sym lasts ∙ one ∙ firsts))
same_steps a b q same h firsts lasts (inr more) =
    let back : b.first < last_member b = omega (arith, firsts, lasts, more) in
    let up : b.step ≤ a.step = no_longer a b q same h firsts more in
    let down : a.step ≤ b.step = no_longer b a q (turned a b same) (other a b q same h) (sym firsts) back in
    let steps : a.step ≡ b.step = omega (arith, up, down) in
    step_of_more a more ∙ steps ∙ sym (step_of_more b back)

one_or_more : (g : Group) (q : ℕ) → Has g q → (last_member g ≡ g.first) ⊎ (g.first < last_member g)
one_or_more g q h = cases_last (last_in g q h).low
  where
    cases_last : g.first ≤ last_member g → (last_member g ≡ g.first) ⊎ (g.first < last_member g)
    cases_last le = elim (cases_lt g.first (last_member g)) [ inl lt ↦ inr lt | inr ge ↦ inl (omega (arith, le, ge)) ]

keeps_by : (a : Group) (q r : ℕ) → Has a q → (last_member a ≡ a.first) ⊎ (a.first < last_member a) → is_member (alike a) r ≡ is_member a r
keeps_by a q r h (inl one) = keeps_one a q r h one
keeps_by a q r h (inr more) = keeps_more a q r h more

pub groups_are_spelled_alike : GroupsAreSpelledAlike
groups_are_spelled_alike a q e =
    let h = has a q e in
    let parted = one_or_more a q h in
    record {
      same = λ b same.
          let firsts = same_first a b q same h in
          let lasts = same_last a b q same h in
          ap (λ (n : ℕ). group_with n (last_member a) (alike a).step) firsts
          ∙ ap (λ (n : ℕ). group_with b.first n (alike a).step) lasts
          ∙ ap (λ (n : ℕ). group_with b.first (last_member b) n) (same_steps a b q same h firsts lasts parted);
      keeps = λ r. keeps_by a q r h parted;
    }

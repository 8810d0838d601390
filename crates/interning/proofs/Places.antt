-- The last place below a bound that passes a test is the greatest that passes, and there is one at
-- most.
use Rattle.std.proofs.Common.{◌≡◌, ℕ, zero, suc, ◌<◌, Bool, true, false, cond, Option, None, Some, refl, sym, subst, ◌∙◌, arith, inl, inr}
use Rattle.std.proofs.lemmas.Bool.{cases_eq, cases_lt}
use Rattle.interning.specs.LastPlaces.{last_below}
use Rattle.interning.specs.Places.{IsLast, LastBelowIsLast}

-- what is last below n stays so where n fails the test
still_last : (test : ℕ → Bool) (n : ℕ) (last : Option ℕ) → test n ≡ false → IsLast test n last → IsLast test (suc n) last
still_last test n None fails none =
    λ q below. elim (cases_eq q n) [
      | inl e ↦ subst (λ (k : ℕ). test k ≡ false) (sym e) fails
      | inr differ ↦ none q (omega arith)
    ]
still_last test n (Some p) fails last = (
  omega (arith, last.0),
  last.1,
  λ q above below. elim (cases_eq q n) [
    | inl e ↦ subst (λ (k : ℕ). test k ≡ false) (sym e) fails
    | inr differ ↦ last.2 q above (omega arith)
  ],
)

-- one more place
one_more : (test : ℕ → Bool) (n : ℕ) (last : Option ℕ) (passes : Bool) → test n ≡ passes → IsLast test n last → IsLast test (suc n) (cond passes (Some n) last)
one_more test n last true passes before = (omega arith, passes, λ q above below. absurd (omega arith))
one_more test n last false fails before = still_last test n last fails before

-- what `last_below` answers is the greatest place that passes
pub is_last : (test : ℕ → Bool) (n : ℕ) → IsLast test n (last_below test n)
unfolding last_below
is_last test zero = λ q below. absurd (omega arith)
is_last test (suc n) = one_more test n (last_below test n) (test n) refl (is_last test n)

-- there is one last place at most
pub one_last : (test : ℕ → Bool) (n : ℕ) (a b : Option ℕ) → IsLast test n a → IsLast test n b → a ≡ b
one_last test n None None p q = refl
one_last test n None (Some b) p q = absurd (let fails : test b ≡ false = p b q.0 in let passes : test b ≡ true = q.1 in cc)
one_last test n (Some a) None p q = absurd (let fails : test a ≡ false = q a p.0 in let passes : test a ≡ true = p.1 in cc)
one_last test n (Some a) (Some b) p q =
    elim (cases_eq a b) [
      | inl e ↦ (cc)
      | inr differ ↦
          elim (cases_lt a b) [
            | inl below ↦ absurd (let fails : test b ≡ false = p.2 b below q.0 in let passes : test b ≡ true = q.1 in cc)
            | inr above ↦ absurd (let fails : test a ≡ false = q.2 a (omega arith) p.0 in let passes : test a ≡ true = p.1 in cc)
          ]
    ]

-- what a last place that was found says
pub last_found : (test : ℕ → Bool) (n p : ℕ) → last_below test n ≡ Some p → (p < n) × (test p ≡ true) × ((q : ℕ) → p < q → q < n → test q ≡ false)
last_found test n p found = subst (IsLast test n) found (is_last test n)

-- where there is none, no place passes
pub last_none : (test : ℕ → Bool) (n : ℕ) → last_below test n ≡ None → (q : ℕ) → q < n → test q ≡ false
last_none test n none = subst (IsLast test n) none (is_last test n)

-- the greatest place that passes is the last one
pub last_is : (test : ℕ → Bool) (n p : ℕ) → p < n → test p ≡ true → ((q : ℕ) → p < q → q < n → test q ≡ false) → last_below test n ≡ Some p
last_is test n p below passes later = one_last test n (last_below test n) (Some p) (is_last test n) (below, passes, later)

-- where no place passes, there is none
pub none_is : (test : ℕ → Bool) (n : ℕ) → ((q : ℕ) → q < n → test q ≡ false) → last_below test n ≡ None
none_is test n none = one_last test n (last_below test n) None (is_last test n) none

-- tests that agree below n have the same last place
pub last_same : (f g : ℕ → Bool) (n : ℕ) → ((q : ℕ) → q < n → f q ≡ g q) → last_below f n ≡ last_below g n
last_same f g n same = one_last g n (last_below f n) (last_below g n) (agrees f g n (last_below f n) same (is_last f n)) (is_last g n)
  where
    agrees : (f g : ℕ → Bool) (n : ℕ) (last : Option ℕ) → ((q : ℕ) → q < n → f q ≡ g q) → IsLast f n last → IsLast g n last
    agrees f g n None same none = λ q below. sym (same q below) ∙ none q below
    agrees f g n (Some p) same last = (last.0, sym (same p last.0) ∙ last.1, λ q above below. sym (same q below) ∙ last.2 q above below)

-- the law
pub last_below_is_last : LastBelowIsLast
last_below_is_last test n last = (λ e. subst (IsLast test n) e (is_last test n), λ h. one_last test n (last_below test n) last (is_last test n) h)

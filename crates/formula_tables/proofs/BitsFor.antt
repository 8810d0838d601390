-- How many bits the clocks have.
use Rattle.std.proofs.Common.{◌≡◌, ℕ, ◌^◌, ◌<◌, ◌≤◌, inl, inr, Bool, true, false, not, get_or, sym, ap, ◌∙◌, arith}
use Rattle.std.specs.Prelude.{nat_le}
use Rattle.std.specs.List.{range_with_len}
use Rattle.std.proofs.lemmas.Bool.{cases_lt}
use Rattle.std.proofs.lemmas.Bool.Decides.{nat_tests}
use Rattle.std.proofs.lemmas.List.FromFn.{get_or-range_with_len, length-range_with_len}
use Rattle.std.proofs.lemmas.List.Sums.{fails_before_first, position_or_len_is, prefix_len-le-length}
use Rattle.formula.specs.Orders.{bits_for}

test_true : (a b : ℕ) → a ≤ b → nat_le a b ≡ true
test_true a b h = grind (arith, nat_tests)

at : (most k : ℕ) → k < most → get_or (range_with_len 0 most) k 0 ≡ k
at most k below = let e = get_or-range_with_len 0 most k 0 below in omega (arith, e)

-- the first number of bits that suffices
pub bits_found : (most size : ℕ) → size ≤ most → ((k : ℕ) → k < size → nat_le most (2 ^ k) ≡ false) → (size < most → most ≤ 2 ^ size) → size ≡ bits_for most
bits_found most size within before enough =
    let count = length-range_with_len 0 most in
    sym (position_or_len_is (λ k. nat_le most (2 ^ k)) (range_with_len 0 most) size 0 (omega (arith, within, count))
    (λ k first. ap (λ (z : ℕ). nat_le most (2 ^ z)) (at most k (omega (arith, first, within))) ∙ before k first)
    (λ below. (let inside : size < most = omega (arith, below, count) in ap (λ (z : ℕ). nat_le most (2 ^ z)) (at most size inside) ∙ test_true most (2 ^ size) (enough inside))))

-- up to 1,024 numbers differ by ten bits
pub few_bits : (most : ℕ) → most ≤ 1024 → bits_for most ≤ 10
few_bits most few =
    elim (cases_lt 10 (bits_for most)) [
      | inl more ↦
          (let test : ℕ → Bool = λ k. nat_le most (2 ^ k) in
          let range = range_with_len 0 most in
          let inside : 10 < most = omega (arith, more, prefix_len-le-length (λ k. not (test k)) range, length-range_with_len 0 most) in
          let fails = fails_before_first test range 10 0 more in
          absurd (differ (test (get_or range 10 0)) (ap test (at most 10 inside) ∙ test_true most 1024 few) fails))
      | inr enough ↦ enough
    ]
  where
    differ : (b : Bool) → b ≡ true → b ≡ false → ⊥
    differ b e f = cc

-- Two programs that are joined are a cut of the whole; and many phases.
use Rattle.std.proofs.Common.{◌≡◌, ℕ, zero, suc, ◌+◌, ◌<◌, ◌≤◌, ◌⊎◌, inl, inr, Bool, true, false, cond, nat_lt, List, [], ◌∷◌, Option, Some, None, length, slice_get, refl, sym, ap, ◌∙◌, arith}
use Rattle.std.specs.List.{count_by}
use Rattle.std.proofs.lemmas.Bool.{cases_lt}
use Rattle.std.proofs.lemmas.Bool.Decides.{nat_tests}
use Rattle.std.proofs.lemmas.List.Sums.{sum_by-cons}
use Rattle.callorder.specs.declared.calls.Call.{Call}
use Rattle.callorder.specs.Programs.{MpiProgram, call_at, is_of_rank}
use Rattle.semantics.specs.Machine.{first_call}
use Rattle.phases.specs.CallPlaces.{IsFrom, IsWellFormed}
use Rattle.phases.specs.Cuts.{Cut, IsCutInTwo}
use Rattle.phases.specs.Joining.{IsJoinOf, cut_between}
use Rattle.phases.specs.Laws.{JoinedIsCut}
use Rattle.phases.proofs.Parts.{of_rank, rank_is}
use Rattle.phases.proofs.Clean.{both_ways}
use Rattle.run_laws.proofs.Issued.{lower_before}

-- ---- the calls of a rank stand from its first one on to the next rank's

-- where the first ones are of lower ranks, they are counted
pub upper_before : (r : ℕ) (calls : List Call) (c : ℕ) (call : Call) → slice_get calls c ≡ Some call → ((d : ℕ) (x : Call) → d ≤ c → slice_get calls d ≡ Some x → x.rank < r) → c + 1 ≤ count_by (λ call. nat_lt call.rank r) calls
upper_before r [] c call there low = absurd (cc)
upper_before r (x ∷ xs) zero call there low =
    let first : x.rank < r = low 0 x (omega arith) refl in
    let on : nat_lt x.rank r ≡ true = grind (arith, nat_tests) in
    let one : cond (nat_lt x.rank r) 1 0 ≡ 1 + 0 = ap (λ (b : Bool). cond b 1 0) on in
    omega (arith, one, sum_by-cons (λ (y : Call). cond (nat_lt y.rank r) 1 0) x xs)
upper_before r (x ∷ xs) (suc c) call there low =
    let first : x.rank < r = low 0 x (omega arith) refl in
    let on : nat_lt x.rank r ≡ true = grind (arith, nat_tests) in
    let one : cond (nat_lt x.rank r) 1 0 ≡ 1 + 0 = ap (λ (b : Bool). cond b 1 0) on in
    let rest = upper_before r xs c call there (λ d y h at_d. low (suc d) y (omega (arith, h)) at_d) in
    omega (arith, one, rest, sum_by-cons (λ (y : Call). cond (nat_lt y.rank r) 1 0) x xs)

pub count_le_length : (r : ℕ) (calls : List Call) → count_by (λ call. nat_lt call.rank r) calls ≤ length calls
count_le_length r [] = omega arith
count_le_length r (x ∷ xs) = omega (arith, one (nat_lt x.rank r), count_le_length r xs, sum_by-cons (λ (y : Call). cond (nat_lt y.rank r) 1 0) x xs)
  where
    one : (b : Bool) → cond b 1 0 ≤ 1
    one true = omega arith
    one false = omega arith

-- no call stands before one of a lower rank
abbrev pub InOrder : MpiProgram → Type 0
InOrder p = (c d : ℕ) (call other : Call) → c ≤ d → call_at p c ≡ Some call → call_at p d ≡ Some other → call.rank ≤ other.rank

module _ (p : MpiProgram) (is : InOrder p) where
  pub at_or_behind : (r c : ℕ) (call : Call) → call_at p c ≡ Some call → r ≤ call.rank → first_call p r ≤ c
  at_or_behind r c call there high = lower_before r p.calls c (λ d y h at_d. low (is c d call y h there at_d))
    where
      low : {k : ℕ} → call.rank ≤ k → r ≤ k
      low h = omega (arith, h, high)

  pub before_first : (r c : ℕ) (call : Call) → call_at p c ≡ Some call → call.rank < r → c < first_call p r
  before_first r c call there low =
      let counted = upper_before r p.calls c call there (λ d y h at_d. less (is d c y call h at_d there)) in
      omega (arith, counted)
    where
      less : {k : ℕ} → k ≤ call.rank → k < r
      less h = omega (arith, h, low)

  pub of_next : (r d : ℕ) → first_call p r ≤ d → d < first_call p (r + 1) → (o : Option Call) → call_at p d ≡ o → is_of_rank (call_at p d) r ≡ true
  of_next r d low high None at_d = absurd (omega (arith, high, count_le_length (r + 1) p.calls, past p.calls d at_d))
    where
      past : (xs : List Call) (d : ℕ) → slice_get xs d ≡ None → length xs ≤ d
      past [] d none = omega arith
      past (x ∷ xs) zero none = absurd (cc)
      past (x ∷ xs) (suc d) none = omega (arith, past xs d none)
  of_next r d low high (Some x) at_d =
      elim (cases_lt x.rank r) [
        | inl below ↦ absurd (omega (arith, low, before_first r d x at_d below))
        | inr above ↦ elim (cases_lt r x.rank) [
          | inl over ↦ absurd (omega (arith, high, at_or_behind (r + 1) d x at_d (omega (arith, over))))
          | inr same ↦ rank_is (call_at p d) x r at_d (omega (arith, above, same))
        ]
      ]

  -- a call of a rank stands among them
  pub among : (r c : ℕ) (call : Call) → call_at p c ≡ Some call → call.rank ≡ r → (first_call p r ≤ c) × (c < first_call p (r + 1))
  among r c call there own = (at_or_behind r c call there (omega (arith, own)), before_first (r + 1) c call there (omega (arith, own)))

  pub ordered_firsts : (r : ℕ) → first_call p r ≤ first_call p (r + 1)
  ordered_firsts r =
      elim (cases_lt (first_call p (r + 1)) (first_call p r)) [
        | inl less ↦ absurd (by (first_call p (r + 1)) less refl (call_at p (first_call p (r + 1))) refl)
        | inr fine ↦ omega (arith, fine)
      ]
    where
      past : (xs : List Call) (d : ℕ) → slice_get xs d ≡ None → length xs ≤ d
      past [] d none = omega arith
      past (x ∷ xs) zero none = absurd (cc)
      past (x ∷ xs) (suc d) none = omega (arith, past xs d none)

      by : (d : ℕ) → d < first_call p r → d ≡ first_call p (r + 1) → (o : Option Call) → call_at p d ≡ o → ⊥
      by d less e None at_d = omega (arith, less, count_le_length r p.calls, past p.calls d at_d)
      by d less e (Some y) at_d =
          elim (cases_lt y.rank (r + 1)) [
            | inl low ↦ omega (arith, e, before_first (r + 1) d y at_d low)
            | inr high ↦ omega (arith, less, at_or_behind r d y at_d (omega (arith, high)))
          ]

  -- where a rank's first place has none of its calls, it has none
  pub no_calls : (r : ℕ) → is_of_rank (call_at p (first_call p r)) r ≡ false → first_call p (r + 1) ≡ first_call p r
  no_calls r none =
      elim (cases_lt (first_call p r) (first_call p (r + 1))) [
        | inl some ↦ absurd (both_ways (is_of_rank (call_at p (first_call p r)) r) (of_next r (first_call p r) (omega arith) some (call_at p (first_call p r)) refl) none)
        | inr fine ↦ omega (arith, fine, ordered_firsts r)
      ]

module _ (p first second : MpiProgram) (whole : InOrder p) (one : IsWellFormed first) (two : IsWellFormed second) (joined : IsJoinOf p first second) where
  abbrev x : Cut
  x = cut_between first second

  pub each : (c : ℕ) (call : Call) → call_at p c ≡ Some call → IsFrom first (first_call second) c ⊎ IsFrom second (λ rank. first_call first (rank + 1)) c
  each c call there =
      let r = call.rank in
      let bounds = among p whole r c call there refl in
      elim (cases_lt c (first_call first (r + 1) + first_call second r)) [
        | inl low ↦ in_first r bounds.0 low
        | inr high ↦ in_second r high bounds.1
      ]
    where
      in_first : (r : ℕ) → first_call p r ≤ c → c < first_call first (r + 1) + first_call second r → IsFrom first (first_call second) c ⊎ IsFrom second (λ rank. first_call first (rank + 1)) c
      in_first r from low = inl (at (difference c (first_call second r) (omega (arith, from, joined.sizes r))))
        where
          difference : (a b : ℕ) → b ≤ a → (d : ℕ) × (a ≡ d + b)
          difference a zero h = (a, omega arith)
          difference zero (suc b) h = absurd (omega (arith, h))
          difference (suc a) (suc b) h = let k = difference a b (omega (arith, h)) in (k.0, omega (arith, k.1))

          at : (d : ℕ) × (c ≡ d + first_call second r) → IsFrom first (first_call second) c
          at k =
              let y = of_rank (call_at first k.0) r (of_next first one.rank_order r k.0 (omega (arith, from, k.1, joined.sizes r)) (omega (arith, low, k.1)) (call_at first k.0) refl) in
              record { place = k.0; call = y.0; there = y.1; is = k.1 ∙ ap (λ (z : ℕ). k.0 + first_call second z) (sym y.2) }

      in_second : (r : ℕ) → first_call first (r + 1) + first_call second r ≤ c → c < first_call p (r + 1) → IsFrom first (first_call second) c ⊎ IsFrom second (λ rank. first_call first (rank + 1)) c
      in_second r high upto = inr (at (difference c (first_call first (r + 1)) (omega (arith, high))))
        where
          difference : (a b : ℕ) → b ≤ a → (d : ℕ) × (a ≡ d + b)
          difference a zero h = (a, omega arith)
          difference zero (suc b) h = absurd (omega (arith, h))
          difference (suc a) (suc b) h = let k = difference a b (omega (arith, h)) in (k.0, omega (arith, k.1))

          at : (d : ℕ) × (c ≡ d + first_call first (r + 1)) → IsFrom second (λ rank. first_call first (rank + 1)) c
          at k =
              let y = of_rank (call_at second k.0) r (of_next second two.rank_order r k.0 (omega (arith, high, k.1)) (omega (arith, upto, k.1, joined.sizes (r + 1))) (call_at second k.0) refl) in
              record { place = k.0; call = y.0; there = y.1; is = k.1 ∙ ap (λ (z : ℕ). k.0 + first_call first (z + 1)) (sym y.2) }

  pub is_cut : IsCutInTwo p (cut_between first second)
  is_cut =
      record {
        first = record { policy = joined.policy_first; ranks = joined.ranks_first; calls = joined.firsts };
        second = record { policy = joined.policy_second; ranks = joined.ranks_second; calls = joined.seconds };
        each = each;
        before = λ c call there. let low = (among first one.rank_order call.rank c call there refl).1 in omega (arith, low);
        behind = λ c call there. let low = (among second two.rank_order call.rank c call there refl).0 in omega (arith, low);
        last = λ c call there off. last c call there off;
        begins = λ rank range e. joined.sizes rank;
        empty = λ rank range e. omega (arith, joined.sizes rank, no_calls first one.rank_order rank e);
        none = λ rank c range e. none rank c e (is_of_rank (call_at first c) rank) refl;
        goes_on = λ rank range. omega arith;
      }
    where
      last : (c : ℕ) (call : Call) → call_at first c ≡ Some call → is_of_rank (call_at first (c + 1)) call.rank ≡ false → (c + first_call second call.rank) + 1 ≡ first_call first (call.rank + 1) + first_call second call.rank
      last c call there off =
          let bounds = among first one.rank_order call.rank c call there refl in
          elim (cases_lt (c + 1) (first_call first (call.rank + 1))) [
            | inl more ↦ absurd (both_ways (is_of_rank (call_at first (c + 1)) call.rank) (of_next first one.rank_order call.rank (c + 1) (omega (arith, bounds.0)) more (call_at first (c + 1)) refl) off)
            | inr end ↦ omega (arith, end, bounds.1)
          ]

      none : (rank c : ℕ) → is_of_rank (call_at first (first_call first rank)) rank ≡ false → (t : Bool) → is_of_rank (call_at first c) rank ≡ t → is_of_rank (call_at first c) rank ≡ false
      none rank c e false h = h
      none rank c e true h =
          let y = of_rank (call_at first c) rank h in
          let bounds = among first one.rank_order rank c y.0 y.1 y.2 in
          absurd (omega (arith, bounds.0, bounds.1, no_calls first one.rank_order rank e))

pub joined_is_cut : JoinedIsCut
joined_is_cut p first second whole one two joined = is_cut p first second whole.rank_order one two joined

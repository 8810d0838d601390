-- Times of events give clocks: their places in the order of times.
use Rattle.std.proofs.Common.{Bool, ◌≡◌, ◌≢◌, ℕ, ◌^◌, ◌<◌, ◌≤◌, false, nat_lt, length, sym, ◌∙◌, arith, List, [], ◌∷◌, map}
use Rattle.std.proofs.lemmas.Bool.Decides.{nat_tests}
use Rattle.formula.specs.Facts.{Meaning, fact}
use Rattle.formula.specs.Families.{events}
use Rattle.formula.specs.Orders.{clock_size, used_pairs, order_meanings, is_so_by, rank_in_time}
use Rattle.formula.specs.Numbering.{facts, meanings, variable_of}
use Rattle.formula.specs.Laws.{IsOrderTold, Means, TimesGiveOrder, assignment_by, TimesHaveAssignments}
use Rattle.formula.proofs.Elements.{Each, each_mono, each_both, each_parts, all_from_each, each_of_all}
use Rattle.formula.proofs.Meanings.{assignments_mean_all}
use Rattle.formula.proofs.Ranks.{ranks_are_clocks}
use Rattle.formula.proofs.Used.{each_used}
use Rattle.formula.proofs.Clocks.{clocks_suffice, clocks_give_order}

-- ranks differ where the times do
ranks_differ : (r s t u : ℕ) → nat_lt r s ≡ nat_lt t u → nat_lt s r ≡ nat_lt u t → t ≢ u → r ≢ s
ranks_differ r s t u e f differ same = differ (one_time t u (sym e ∙ not_less r s same) (sym f ∙ not_less s r (sym same)))
  where
    not_less : (m n : ℕ) → m ≡ n → nat_lt m n ≡ false
    not_less m n h = grind (arith, nat_tests)

    one_time : (m n : ℕ) → nat_lt m n ≡ false → nat_lt n m ≡ false → m ≡ n
    one_time m n h k = grind (arith, nat_tests)

rank_fits : (rank most limit : ℕ) → rank < most → most ≤ limit → rank < limit
rank_fits rank most limit h k = omega (arith, h, k)

pub times_give_order : TimesGiveOrder
times_give_order p a has time differ told =
    let most = length (events p) in
    let rank : ℕ → ℕ = rank_in_time most time in
    let D : ℕ × ℕ → Type 0 = λ q. rank q.0 ≢ rank q.1 in
    let apart : Each D (used_pairs p) =
    each_used p D (λ e f first below used.
    let e_below : e < most = omega (arith, first, below) in
    ranks_differ (rank e) (rank f) (time e) (time f) ((ranks_are_clocks most time e e_below).1 f) ((ranks_are_clocks most time f below).1 e) (differ e f first below)) in
    let given = clocks_give_order p a has rank (λ e below. rank_fits (rank e) most (2 ^ clock_size p) (ranks_are_clocks most time e below).0 (clocks_suffice p)) (all_from_each D (used_pairs p) apart) told in (
      given.0,
      all_from_each (IsOrderTold p a time) (used_pairs p)
          (each_mono (λ q. IsOrderTold p a rank q × (IsOrderTold p a rank q → IsOrderTold p a time q)) (IsOrderTold p a time) (λ q both. both.1 both.0) (used_pairs p)
          (each_both (IsOrderTold p a rank) (λ q. IsOrderTold p a rank q → IsOrderTold p a time q) (used_pairs p) (each_of_all (IsOrderTold p a rank) (used_pairs p) given.1)
          (each_used p (λ q. IsOrderTold p a rank q → IsOrderTold p a time q) (λ e f first below used by_rank.
          let e_below : e < most = omega (arith, first, below) in (
            differ e f first below,
            by_rank.1 ∙ (ranks_are_clocks most time e e_below).1 f,
          ))))),
    )

-- ---- facts and times together

pub each_of_map : {X Y : Type 0} (P : Y → Type 0) (f : X → Y) (xs : List X) → Each P (map f xs) → Each (λ x. P (f x)) xs
each_of_map P f [] h = tt
each_of_map P f (x ∷ xs) h = (h.0, each_of_map P f xs h.1)

pub times_have_assignments : TimesHaveAssignments
times_have_assignments p has time differ =
    let is_so : Meaning → Bool = is_so_by has (clock_size p) (rank_in_time (length (events p)) time) in
    let a = assignment_by p has time in
    let parts = each_parts (Means p a is_so) (map fact (facts p)) (order_meanings p) (each_of_all (Means p a is_so) (meanings p) (assignments_mean_all p is_so)) in
    let given = times_give_order p a has time differ (all_from_each (Means p a is_so) (order_meanings p) parts.1) in (
      given.0,
      given.1,
      all_from_each (λ x. a (variable_of p (fact x)) ≡ has x) (facts p) (each_of_map (Means p a is_so) fact (facts p) parts.0),
    )

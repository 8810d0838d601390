-- One more number in an order.
use Rattle.std.proofs.Common.{◌≡◌, ◌≢◌, ℕ, ◌+◌, ◌<◌, ◌≤◌, List, [], ◌∷◌, ◌++◌, Some, length, slice_get, inl, inr, refl, sym, subst, arith}
use Rattle.std.proofs.lemmas.Bool.{cases_lt}
use Rattle.interning.proofs.Numbering.{in_pushed, pushed_front, pushed_last}
use Rattle.cutting.specs.Orders.{IsOrder}

pub no_order : IsOrder 0 []
no_order = record { known = λ place number there. cc; used = λ number below. absurd (omega (arith, below)) }

-- one more number, of a text that is there or of one that is added now
one_more : (count more number : ℕ) (order : List ℕ) → IsOrder count order → number < more → count ≤ more
    → ((k : ℕ) → k < more → count ≤ k → number ≡ k) → IsOrder more (order ++ number ∷ [])
one_more count more number order is below grows new = record {
  known = λ place found there. elim (in_pushed order number found place there) [
    | inl before ↦ omega (arith, is.known place found before, grows)
    | inr last ↦ omega (arith, last.1, below)
  ];
  used = λ k low. elim (cases_lt k count) [
    | inl old ↦ let at = is.used k old in (at.0, pushed_front order number k at.0 at.1)
    | inr late ↦ (length order, subst (λ (z : ℕ). slice_get (order ++ number ∷ []) (length order) ≡ Some z) (new k low late) (pushed_last order number (length order) refl))
  ];
}

pub new_text : (count more number : ℕ) (order next : List ℕ) → IsOrder count order → number ≡ count → more ≡ count + 1 → next ≡ order ++ number ∷ []
    → IsOrder more next
new_text count more number order next is same size pushed =
    subst (IsOrder more) (sym pushed) (one_more count more number order is (omega (arith, same, size)) (omega (arith, size)) (λ k low late. omega (arith, same, size, low, late)))

pub old_text : (count number : ℕ) (order next : List ℕ) → IsOrder count order → number ≤ count → number ≢ count → next ≡ order ++ number ∷ [] → IsOrder count next
old_text count number order next is most other pushed =
    let below : number < count = omega (arith, most, other) in
    subst (IsOrder count) (sym pushed) (one_more count count number order is below (omega arith) (λ k low late. absurd (omega (arith, low, late))))

-- Workers no two of which are the same, and seats in order of their workers.
use Rattle.std.proofs.Common.{◌≡◌, ℕ, ◌+◌, ◌<◌, ◌≤◌, List, [], ◌∷◌, ◌++◌, length, Option, Some, slice_get, ⊎_elim, sym, ap, ◌∙◌, subst, arith}
use Rattle.std.proofs.lemmas.Bool.{cases_lt}
use Rattle.std.proofs.lemmas.List.{length-append, map-append}
use Rattle.pages.proofs.Joined.{slice_get-front, slice_get-back}
use Rattle.sharedpool.specs.Views.{IsNoneOf, AreDifferent}
use Rattle.sharedpool.specs.Seats.{AreNumbered, Chair, workers_of}

none_push : (workers : List ℕ) (last worker : ℕ) → IsNoneOf workers worker → (last ≡ worker → ⊥) → IsNoneOf (workers ++ last ∷ []) worker
none_push [] last worker none apart = (apart, tt)
none_push (first ∷ workers) last worker none apart = (none.0, none_push workers last worker none.1 apart)

different_push : (workers : List ℕ) (last : ℕ) → AreDifferent workers → IsNoneOf workers last → AreDifferent (workers ++ last ∷ [])
different_push [] last different none = (tt, tt)
different_push (first ∷ workers) last different none =
    (none_push workers last first different.0 (λ same. none.0 (sym same)), different_push workers last different.1 none.1)

-- one more seat, whose worker is none of those before
pub seats_push : (seats : List Chair) (seat : Chair) → AreDifferent (workers_of seats) → IsNoneOf (workers_of seats) seat.worker → AreDifferent (workers_of (seats ++ seat ∷ []))
seats_push seats seat different none =
    subst AreDifferent (sym (map-append (λ (s : Chair). s.worker) seats (seat ∷ []))) (different_push (workers_of seats) seat.worker different none)

pub seats_none : (seats : List Chair) (seat : Chair) (worker : ℕ) → IsNoneOf (workers_of seats) worker → (seat.worker ≡ worker → ⊥) → IsNoneOf (workers_of (seats ++ seat ∷ [])) worker
seats_none seats seat worker none apart =
    subst (λ l. IsNoneOf l worker) (sym (map-append (λ (s : Chair). s.worker) seats (seat ∷ []))) (none_push (workers_of seats) seat.worker worker none apart)

-- one more seat, that of the next worker
pub numbered_push : (seats : List Chair) (seat : Chair) → AreNumbered seats → seat.worker ≡ length seats → AreNumbered (seats ++ seat ∷ [])
numbered_push seats seat numbered next k x within there =
    ⊎_elim
    (λ (low : k < length seats). numbered k x low (sym (slice_get-front seats (seat ∷ []) k low) ∙ there))
    (λ (high : length seats ≤ k).
    let here : length seats + 0 ≡ k = omega (arith, high, within, length-append seats (seat ∷ [])) in
    let found : ◌≡◌ {A = Option Chair} (Some seat) (Some x) = sym (slice_get-back seats (seat ∷ []) 0) ∙ ap (slice_get (seats ++ seat ∷ [])) here ∙ there in
    let same : seat ≡ x = cc in
    let last : length seats ≡ k = omega (arith, here) in
    sym (ap (λ (s : Chair). s.worker) same) ∙ next ∙ last)
    (cases_lt k (length seats))

-- What an owner knows that takes in its thieves.
use Rattle.std.proofs.Common.{◌≡◌, ℕ, ◌+◌, List, [], ◌∷◌, ◌++◌, length, ap, sym, ◌∙◌, arith, length-append, append_assoc, append-nil}
use Rattle.crossbeam_deque.specs.Handles.{view}
use Rattle.steal.specs.declared.rule.Hand.{Hand}
use Rattle.steal.specs.declared.seats.ThiefSeat.{ThiefSeat}
use Rattle.steal.specs.parts.Hands.{hand}
use Rattle.steal.specs.Seats.{stolen, stolen_by}
use Rattle.steal.proofs.Places.{flat_map-snoc}

same_hand : (m n : ℕ) (xs ys us vs : List ℕ) → m ≡ n → xs ≡ ys → us ≡ vs → hand m xs us ≡ hand n ys vs
same_hand m n xs ys us vs parts pushed taken =
    ap (λ (k : ℕ). hand k xs us) parts ∙ ap (λ (l : List ℕ). hand n l us) pushed ∙ ap (λ (l : List ℕ). hand n ys l) taken

-- one more thief
pub with_thief : (b v w : Hand) (seats : List ThiefSeat) (seat : ThiefSeat) → v ≡ hand (b.parts + length seats) b.pushed (b.taken ++ stolen_by seats)
    → (view seat.pass).parts ≡ 1 → (view seat.pass).pushed ≡ []
    → w ≡ hand (v.parts + (view seat.pass).parts) (v.pushed ++ (view seat.pass).pushed) (v.taken ++ (view seat.pass).taken)
    → w ≡ hand (b.parts + length (seats ++ seat ∷ [])) b.pushed (b.taken ++ stolen_by (seats ++ seat ∷ []))
with_thief b v w seats seat knows part none is =
    is ∙ same_hand _ _ _ _ _ _
    (omega (arith, ap (λ (u : Hand). u.parts) knows, part, length-append seats (seat ∷ [])))
    (ap (λ (l : List ℕ). v.pushed ++ l) none ∙ append-nil v.pushed ∙ ap (λ (u : Hand). u.pushed) knows)
    (ap (λ (u : Hand). u.taken ++ stolen seat) knows
    ∙ append_assoc b.taken (stolen_by seats) (stolen seat)
    ∙ ap (λ (l : List ℕ). b.taken ++ l) (sym (flat_map-snoc stolen seats seat)))

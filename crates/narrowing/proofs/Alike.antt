-- What a program and a narrowed one have alike, whichever call is narrowed to which way.
use Rattle.std.proofs.Common.{◌≡◌, ℕ, suc, ◌+◌, inl, inr, Bool, false, cond, List, [], ◌∷◌, Option, Some, None, map, replicate, length, take, slice_get, refl, sym, ap, ◌∙◌, subst, arith}
use Rattle.std.specs.Prelude.{nat_lt, slice_index}
use Rattle.std.specs.Option.{option_map}
use Rattle.std.specs.List.{sum_by, range_with_len}
use Rattle.std.proofs.lemmas.Bool.{cases_eq}
use Rattle.std.proofs.lemmas.Option.{same_Some}
use Rattle.std.proofs.lemmas.List.Sums.{sum_by-cons}
use Rattle.callorder.specs.declared.calls.Call.{Call}
use Rattle.callorder.specs.Programs.{MpiProgram, call_at, is_of_rank, are_of_one_rank, have_one_rank}
use Rattle.callorder.specs.Calls.{both_hold, holds_of}
use Rattle.semantics.specs.declared.state.Step.{Step}
use Rattle.semantics.specs.Machine.{Configuration, IsEnabled, IsRun, first_call, opening, after, after_all, is_issued, is_issued_call, has_next}
use Rattle.narrowing.specs.declared.taken.ChoiceTaken.{ChoiceTaken}
use Rattle.narrowing.specs.Narrowed.{narrowed_call, IsNarrowed}

-- ---- what narrowing a call leaves

mapped : (X : Type 0) (f : Option Call → X) (way : ChoiceTaken) → ((call : Call) → f (Some (narrowed_call way call)) ≡ f (Some call)) → (x : Option Call) → f (option_map (narrowed_call way) x) ≡ f x
mapped X f way same None = refl
mapped X f way same (Some call) = same call

-- what is the same of a call and of the narrowed one is the same of each call of both programs
pub same_call : (X : Type 0) (f : Option Call → X) (p q : MpiProgram) (c : ℕ) (way : ChoiceTaken) → IsNarrowed p c way q → ((call : Call) → f (Some (narrowed_call way call)) ≡ f (Some call)) → (d : ℕ) → f (call_at q d) ≡ f (call_at p d)
same_call X f p q c way n same d =
    elim (cases_eq d c) [
      | inl e ↦ subst (λ (z : ℕ). f (call_at q z) ≡ f (call_at p z)) (sym e) (ap f n.there ∙ mapped X f way same (call_at p c))
      | inr differ ↦ ap f (n.elsewhere d differ)
    ]

pub same_issued : (p q : MpiProgram) (c : ℕ) (way : ChoiceTaken) → IsNarrowed p c way q → (m : Configuration) (d : ℕ) → is_issued q m d ≡ is_issued p m d
same_issued p q c way n m d = same_call Bool (holds_of (is_issued_call m d)) p q c way n (λ call. refl) d

pub same_of_rank : (p q : MpiProgram) (c : ℕ) (way : ChoiceTaken) → IsNarrowed p c way q → (d rank : ℕ) → is_of_rank (call_at q d) rank ≡ is_of_rank (call_at p d) rank
same_of_rank p q c way n d rank = same_call Bool (λ x. is_of_rank x rank) p q c way n (λ call. refl) d

pub same_one_rank : (p q : MpiProgram) (c : ℕ) (way : ChoiceTaken) → IsNarrowed p c way q → (e d : ℕ) → are_of_one_rank q e d ≡ are_of_one_rank p e d
same_one_rank p q c way n e d =
    same_call Bool (λ x. both_hold have_one_rank x (call_at q d)) p q c way n (λ call. refl) e
    ∙ same_call Bool (both_hold have_one_rank (call_at p e)) p q c way n (at (call_at p e)) d
  where
    at : (x : Option Call) (call : Call) → both_hold have_one_rank x (Some (narrowed_call way call)) ≡ both_hold have_one_rank x (Some call)
    at None call = refl
    at (Some y) call = refl

-- ---- the opening configuration

-- calls of the same ranks, one after another, have as many of each kind of rank
counts_alike : (weight : ℕ → ℕ) (xs ys : List Call) → length xs ≡ length ys → ((i : ℕ) → option_map (λ (call : Call). call.rank) (slice_get xs i) ≡ option_map (λ (call : Call). call.rank) (slice_get ys i)) → sum_by (λ (call : Call). weight call.rank) xs ≡ sum_by (λ (call : Call). weight call.rank) ys
counts_alike weight [] [] long same = refl
counts_alike weight [] (y ∷ ys) long same = absurd (omega arith)
counts_alike weight (x ∷ xs) [] long same = absurd (omega arith)
counts_alike weight (x ∷ xs) (y ∷ ys) long same =
    let ranks : x.rank ≡ y.rank = same_Some x.rank y.rank (same 0) in
    let rest : sum_by (λ (call : Call). weight call.rank) xs ≡ sum_by (λ (call : Call). weight call.rank) ys = counts_alike weight xs ys (omega arith) (λ i. same (suc i)) in
    sum_by-cons (λ (call : Call). weight call.rank) x xs ∙ ap (λ (k : ℕ). weight k + sum_by (λ (call : Call). weight call.rank) xs) ranks ∙ ap (λ (k : ℕ). weight y.rank + k) rest ∙ sym (sum_by-cons (λ (call : Call). weight call.rank) y ys)

same_first : (p q : MpiProgram) (c : ℕ) (way : ChoiceTaken) → IsNarrowed p c way q → (rank : ℕ) → first_call q rank ≡ first_call p rank
same_first p q c way n rank =
    counts_alike (λ k. cond (nat_lt k rank) 1 0) q.calls p.calls n.length (λ i. same_call (Option ℕ) (option_map (λ (call : Call). call.rank)) p q c way n (λ call. refl) i)

maps_alike : (f g : ℕ → ℕ) → ((k : ℕ) → f k ≡ g k) → (xs : List ℕ) → map f xs ≡ map g xs
maps_alike f g same [] = refl
maps_alike f g same (x ∷ xs) = ap (λ (k : ℕ). k ∷ map f xs) (same x) ∙ ap (λ (l : List ℕ). g x ∷ l) (maps_alike f g same xs)

abbrev nobody : Option ℕ
nobody = None

pub same_opening : (p q : MpiProgram) (c : ℕ) (way : ChoiceTaken) → IsNarrowed p c way q → opening q ≡ opening p
same_opening p q c way n =
    ap (λ (l : List ℕ). record { next = l; buffered = replicate (length q.calls) false; partner = replicate (length q.calls) nobody }) (maps_alike (first_call q) (first_call p) (same_first p q c way n) (range_with_len 0 q.ranks) ∙ ap (λ (k : ℕ). map (first_call p) (range_with_len 0 k)) n.ranks)
    ∙ ap (λ (k : ℕ). record { next = map (first_call p) (range_with_len 0 p.ranks); buffered = replicate k false; partner = replicate k nobody }) n.length

-- ---- steps

-- where each step is enabled where it is taken, the steps are a run
pub run_from_each : (p : MpiProgram) (m : Configuration) (steps : List Step) → ((i : ℕ) (x : Step) → slice_get steps i ≡ Some x → IsEnabled p (after_all m (take i steps)) x) → IsRun p m steps
run_from_each p m [] each = tt
run_from_each p m (x ∷ steps) each = (each 0 x refl, run_from_each p (after m x) steps (λ i y there. each (suc i) y there))

pub same_has_next : (p q : MpiProgram) (c : ℕ) (way : ChoiceTaken) → IsNarrowed p c way q → (m : Configuration) (rank : ℕ) → has_next q m rank ≡ has_next p m rank
same_has_next p q c way n m rank = same_of_rank p q c way n (slice_index m.next rank) rank

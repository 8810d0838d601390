-- Rows of calls that fit, looked up.
use Rattle.std.proofs.Common.{◌&&◌, ◌≡◌, ℕ, ◌+◌, ◌≤◌, inl, inr, Bool, true, false, not, List, [], ◌∷◌, ◌++◌, Option, Some, None, map, length, refl, sym, ap, ◌∙◌, arith}
use Rattle.std.specs.Prelude.{slice_get, slice_index_or}
use Rattle.std.specs.List.{filter, range_with_len}
use Rattle.std.proofs.lemmas.Bool.{cases_lt}
use Rattle.std.proofs.lemmas.List.{get_or_past, map-append}
use Rattle.std.proofs.lemmas.List.FromFn.{get_or-map-range_with_len, length-map-range_with_len, map-range_with_len_more}
use Rattle.std.proofs.lemmas.Option.{slice_get_within}
use Rattle.callorder.specs.declared.calls.Call.{Call}
use Rattle.callorder.specs.Programs.{is_probe, takes, MpiProgram, are_of_one_rank, have_one_rank}
use Rattle.callorder.specs.Calls.{both_hold, fits}
use Rattle.candidates.specs.Pairs.{places, takers_of}
use Rattle.formula.specs.Families.{sends_of}

filter_none : (pass : ℕ → Bool) (xs : List ℕ) → ((x : ℕ) → pass x ≡ false) → filter pass xs ≡ []
filter_none pass [] h = refl
filter_none pass (x ∷ xs) h = rw (h x) (filter_none pass xs h)

no_send : (p : MpiProgram) (s : ℕ) (x y : Option Call) → slice_get p.calls s ≡ x → length p.calls ≤ s → both_hold fits x y ≡ false
no_send p s None y e past = refl
no_send p s (Some x) y e past = absurd (omega (arith, slice_get_within p.calls s x e))

no_taker : (p : MpiProgram) (t : ℕ) (x y : Option Call) → slice_get p.calls t ≡ y → length p.calls ≤ t → both_hold fits x y ≡ false
no_taker p t None y e past = refl
no_taker p t (Some x) None e past = refl
no_taker p t (Some x) (Some y) e past = absurd (omega (arith, slice_get_within p.calls t y e))

row_at : (f : ℕ → List ℕ) (n s : ℕ) → (n ≤ s → f s ≡ []) → slice_index_or (map f (range_with_len 0 n)) s [] ≡ f s
row_at f n s past =
    elim (cases_lt s n) [
      | inl below ↦ get_or-map-range_with_len f 0 n s s [] below (omega arith)
      | inr above ↦ get_or_past (map f (range_with_len 0 n)) s [] (rw (length-map-range_with_len f 0 n) above) ∙ sym (past above)
    ]

takers_row : (p : MpiProgram) (s : ℕ) → slice_index_or (map (takers_of p) (places p)) s [] ≡ takers_of p s
takers_row p s = row_at (takers_of p) (length p.calls) s (λ past. filter_none (takes p s) (places p) (λ t. ap (λ (b : Bool). b && not (is_probe p t)) (no_send p s (slice_get p.calls s) (slice_get p.calls t) refl past)))

sends_row : (p : MpiProgram) (t : ℕ) → slice_index_or (map (sends_of p) (places p)) t [] ≡ sends_of p t
sends_row p t = row_at (sends_of p) (length p.calls) t (λ past. filter_none _ (places p) (λ s. no_taker p t (slice_get p.calls s) (slice_get p.calls t) refl past))

-- the row of a call in the lists of a program
pub takers_found : (p q : MpiProgram) (rows : List (List ℕ)) (s : ℕ) (row : List ℕ) → rows ≡ map (takers_of q) (places q) → q ≡ p → row ≡ slice_index_or rows s [] → row ≡ takers_of p s
takers_found p q rows s row all same e = e ∙ ap (λ (l : List (List ℕ)). slice_index_or l s []) all ∙ takers_row q s ∙ ap (λ z. takers_of z s) same

pub sends_found : (p q : MpiProgram) (rows : List (List ℕ)) (t : ℕ) (row : List ℕ) → rows ≡ map (sends_of q) (places q) → q ≡ p → row ≡ slice_index_or rows t [] → row ≡ sends_of p t
sends_found p q rows t row all same e = e ∙ ap (λ (l : List (List ℕ)). slice_index_or l t []) all ∙ sends_row q t ∙ ap (λ z. sends_of z t) same

-- one more row
pub rows_more : {V : Type 0} (g : V → List ℕ) (f : ℕ → List ℕ) (k : ℕ) (old new : List V) (v : V) → map g old ≡ map f (range_with_len 0 k) → new ≡ old ++ v ∷ [] → g v ≡ f k → map g new ≡ map f (range_with_len 0 (k + 1))
rows_more g f k old new v e is here =
    ap (map g) is ∙ (map-append g old (v ∷ []) ∙ (ap (λ l. l ++ (g v ∷ [])) e ∙ (ap (λ x. map f (range_with_len 0 k) ++ (x ∷ [])) here ∙ sym (map-range_with_len_more f 0 k k (omega arith)))))

alone : (p : MpiProgram) (c : ℕ) (x y : Option Call) → slice_get p.calls c ≡ x → length p.calls ≤ c → not (both_hold have_one_rank x y) ≡ true
alone p c None y e past = refl
alone p c (Some x) y e past = absurd (omega (arith, slice_get_within p.calls c x e))

-- what stands past the calls has nothing after it
pub past_is_last : (p : MpiProgram) (c : ℕ) → length p.calls ≤ c → not (are_of_one_rank p c (c + 1)) ≡ true
past_is_last p c past = alone p c (slice_get p.calls c) (slice_get p.calls (c + 1)) refl past

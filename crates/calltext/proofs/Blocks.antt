-- The lines of ranks: what may follow them, and that they can go on.
use Rattle.std.proofs.Common.{◌≡◌, ℕ, suc, ◌+◌, ◌<◌, List, [], ◌∷◌, ◌++◌, length, map, refl, sym, ap, ◌∙◌, append_assoc, arith, inl, inr, ◌⊎◌, add-zero}
use Rattle.std.specs.List.{AllByRecursion}
use Rattle.std.proofs.lemmas.List.{append-nil, map_push}
use Rattle.plaintext.specs.Plain.{line_of}
use Rattle.calltext.specs.declared.call.CallLine.{CallLine}
use Rattle.calltext.specs.Grammar.{call_words, rank_words, rank_lines, CallFits}
use Rattle.calltext.specs.declared.limits.Limits.{Limits}
use Rattle.plaintext.proofs.FirstFaults.{heads}
use Rattle.calltext.proofs.Verbs.{call_no_rank, call_no_end}

abbrev pub call_lines : List CallLine → List (List ℕ)
call_lines calls = map (λ c. line_of (call_words c)) calls

pub rank_lines-append : (i : ℕ) (xs ys : List (List CallLine)) → rank_lines i (xs ++ ys) ≡ rank_lines i xs ++ rank_lines (i + length xs) ys
rank_lines-append i [] ys = rw add-zero refl
rank_lines-append i (x ∷ xs) ys =
    let at : (i + 1) + length xs ≡ i + length (x ∷ xs) = omega arith in
    let rest : rank_lines (i + 1) (xs ++ ys) ≡ rank_lines (i + 1) xs ++ rank_lines (i + length (x ∷ xs)) ys = rank_lines-append (i + 1) xs ys ∙ ap (λ (k : ℕ). rank_lines (i + 1) xs ++ rank_lines k ys) at in
    ap (λ (ls : List (List ℕ)). line_of (rank_words i) ∷ (call_lines x ++ ls)) rest
    ∙ ap (λ (ls : List (List ℕ)). line_of (rank_words i) ∷ ls) (sym (append_assoc (call_lines x) (rank_lines (i + 1) xs) (rank_lines (i + length (x ∷ xs)) ys)))

-- one more call in the open rank
pub rank_lines-call : (ranks : List (List CallLine)) (open_calls : List CallLine) (c : CallLine) → rank_lines 0 (ranks ++ (open_calls ++ c ∷ []) ∷ []) ≡ rank_lines 0 (ranks ++ open_calls ∷ []) ++ line_of (call_words c) ∷ []
rank_lines-call ranks open_calls c =
    let r : ℕ = 0 + length ranks in
    rank_lines-append 0 ranks ((open_calls ++ c ∷ []) ∷ [])
    ∙ ap (λ (ls : List (List ℕ)). rank_lines 0 ranks ++ (line_of (rank_words r) ∷ ls)) (append-nil (call_lines (open_calls ++ c ∷ [])) ∙ map_push (λ x. line_of (call_words x)) open_calls c ∙ ap (λ (ls : List (List ℕ)). ls ++ line_of (call_words c) ∷ []) (sym (append-nil (call_lines open_calls))))
    ∙ sym (append_assoc (rank_lines 0 ranks) (rank_lines r (open_calls ∷ [])) (line_of (call_words c) ∷ []))
    ∙ ap (λ (ls : List (List ℕ)). ls ++ line_of (call_words c) ∷ []) (sym (rank_lines-append 0 ranks (open_calls ∷ [])))

-- one more rank
pub rank_lines-rank : (done : List (List CallLine)) → rank_lines 0 (done ++ [] ∷ []) ≡ rank_lines 0 done ++ line_of (rank_words (length done)) ∷ []
rank_lines-rank done = rank_lines-append 0 done ([] ∷ []) ∙ ap (λ (k : ℕ). rank_lines 0 done ++ line_of (rank_words k) ∷ []) (omega arith)

-- ---- what may follow the lines of some ranks

abbrev pub AllKeep : (CallLine → Type 0) → List (List CallLine) → Type 0
AllKeep P ranks = AllByRecursion (AllByRecursion P) ranks

abbrev pub AllFit : Limits → List (List CallLine) → Type 0
AllFit l ranks = AllKeep (CallFits l) ranks

-- a call that keeps P where all do, the next rank's heading or the end
abbrev pub Follows : (CallLine → Type 0) → Type 0 → ℕ → ℕ → ℕ → List ℕ → Type 0
Follows P fit next done total line =
    ((c : CallLine) × (line_of (call_words c) ≡ line) × (fit → P c)) ⊎ (((line_of (rank_words next) ≡ line) × (done < total)) ⊎ ((line ≡ []) × (done ≡ total)))

shifted : (P : CallLine → Type 0) (p q : Type 0) (next next' done total : ℕ) (line : List ℕ) → (q → p) → next ≡ next' → Follows P p next done total line → Follows P q next' (suc done) (suc total) line
shifted P p q next next' done total line from e (inl (c, spelled, fits)) = inl (c, spelled, λ h. fits (from h))
shifted P p q next next' done total line from e (inr (inl (spelled, lt))) = inr (inl (ap (λ (k : ℕ). line_of (rank_words k)) (sym e) ∙ spelled, omega arith))
shifted P p q next next' done total line from e (inr (inr (ended, same))) = inr (inr (ended, ap suc same))

after_calls : (P : CallLine → Type 0) (i : ℕ) (cs ds : List CallLine) (qs done : List (List CallLine)) (line : List ℕ) (more : List (List ℕ))
    → (0 < length done → rank_lines (i + 1) qs ++ [] ∷ [] ≡ rank_lines (i + 1) done ++ line ∷ more → Follows P (AllKeep P qs) (i + 1 + length done) (length done) (length qs) line)
    → call_lines cs ++ (rank_lines (i + 1) qs ++ [] ∷ []) ≡ call_lines ds ++ (rank_lines (i + 1) done ++ line ∷ more)
    → Follows P (AllKeep P (cs ∷ qs)) (i + suc (length done)) (suc (length done)) (suc (length qs)) line
after_calls P i [] [] [] [] line more ih e = inr (inr (sym (heads [] line [] more e).0, refl))
after_calls P i [] [] (q ∷ qs) [] line more ih e = inr (inl (ap (λ (k : ℕ). line_of (rank_words k)) (omega arith) ∙ (heads (line_of (rank_words (i + 1))) line _ more e).0, omega arith))
after_calls P i [] [] qs (d ∷ done) line more ih e = shifted P (AllKeep P qs) (AllKeep P ([] ∷ qs)) (i + 1 + length (d ∷ done)) (i + suc (length (d ∷ done))) (length (d ∷ done)) (length qs) line (λ h. h.1) (omega arith) (ih (omega arith) e)
after_calls P i (c ∷ cs) [] qs [] line more ih e = inl (c, (heads (line_of (call_words c)) line _ more e).0, λ h. h.0.0)
after_calls P i (c ∷ cs) [] qs (d ∷ done) line more ih e = absurd (call_no_rank c (i + 1) (heads (line_of (call_words c)) (line_of (rank_words (i + 1))) _ _ e).0)
after_calls P i [] (d ∷ ds) [] done line more ih e = absurd (call_no_end d (sym (heads [] (line_of (call_words d)) _ _ e).0))
after_calls P i [] (d ∷ ds) (q ∷ qs) done line more ih e = absurd (call_no_rank d (i + 1) (sym (heads (line_of (rank_words (i + 1))) (line_of (call_words d)) _ _ e).0))
after_calls P i (c ∷ cs) (d ∷ ds) qs done line more ih e =
    elim (after_calls P i cs ds qs done line more ih (heads (line_of (call_words c)) (line_of (call_words d)) _ _ e).1) [
      | inl x ↦ inl (x.0, x.1, λ h. x.2 (h.0.1, h.1))
      | inr x ↦ inr x
    ]

pub after_ranks : (P : CallLine → Type 0) (i : ℕ) (qs done : List (List CallLine)) (line : List ℕ) (more : List (List ℕ)) → 0 < length done → rank_lines i qs ++ [] ∷ [] ≡ rank_lines i done ++ line ∷ more
    → Follows P (AllKeep P qs) (i + length done) (length done) (length qs) line
after_ranks P i qs [] line more some e = absurd (omega arith)
after_ranks P i [] (d ∷ done) line more some e = absurd cc
after_ranks P i (q ∷ qs) (d ∷ done) line more some e =
    let tails = (heads (line_of (rank_words i)) (line_of (rank_words i)) _ _ e).1 in
    after_calls P i q d qs done line more (λ s f. after_ranks P (i + 1) qs done line more s f)
    (sym (append_assoc (call_lines q) (rank_lines (i + 1) qs) ([] ∷ [])) ∙ tails ∙ append_assoc (call_lines d) (rank_lines (i + 1) done) (line ∷ more))

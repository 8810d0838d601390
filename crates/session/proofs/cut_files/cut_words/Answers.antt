-- The parts stand one after another.
use Rattle.std.proofs.Common.{◌≡◌, ◌∙◌, ◌++◌, [], append_assoc, ap, codes, decimal, List, ℕ}
use Rattle.session.proofs.cut_files.cut_words.Goals as goal

regrouped : (p a q b r d n : List ℕ) → (((p ++ a) ++ (q ++ b)) ++ (r ++ d)) ++ n ≡ p ++ (a ++ (q ++ (b ++ (r ++ (d ++ n)))))
regrouped p a q b r d n = simp append_assoc

one_after_another : (w0 w1 w2 w3 w4 p a q b r d n : List ℕ)
    → w0 ≡ [] → w1 ≡ w0 ++ (p ++ a) → w2 ≡ w1 ++ (q ++ b) → w3 ≡ w2 ++ (r ++ d) → w4 ≡ w3 ++ n → w4 ≡ p ++ (a ++ (q ++ (b ++ (r ++ (d ++ n)))))
one_after_another w0 w1 w2 w3 w4 p a q b r d n none first second third last =
    let one : w1 ≡ p ++ a = first ∙ ap (λ (w : List ℕ). w ++ (p ++ a)) none in
    let two : w2 ≡ (p ++ a) ++ (q ++ b) = second ∙ ap (λ (w : List ℕ). w ++ (q ++ b)) one in
    let three : w3 ≡ ((p ++ a) ++ (q ++ b)) ++ (r ++ d) = third ∙ ap (λ (w : List ℕ). w ++ (r ++ d)) two in
    last ∙ ap (λ (w : List ℕ). w ++ n) three ∙ regrouped p a q b r d n

pub returns : goal.returns
returns c =
    one_after_another _ _ _ _ _ (codes "phases ") (decimal c.args.phases) (codes ", different ") (decimal c.args.different)
    (codes ", to prove ") (decimal c.args.jobs) (codes "\n")
    c.new-words.ensures.bytes c.in_ok-put_count.ensures c.in_ok-put_count-2.ensures c.in_ok-put_count-3.ensures c.in_ok-push_str.ensures.bytes

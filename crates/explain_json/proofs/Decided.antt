-- Objects in the list of what decided a run, one behind the other.
use Rattle.std.proofs.Common.{◌≡◌, ℕ, ◌+◌, ◌<◌, ◌≤◌, List, [], ◌∷◌, ◌++◌, length, map, get_or, take, refl, sym, ◌∙◌, ap, subst, append_assoc, append-nil, arith}
use Rattle.std.proofs.Math.Seq.{take-length}
use Rattle.std.proofs.lemmas.List.{get_or-map, length-map, take_more}
use Rattle.explain_json.specs.Objects.{AreDecided, verdict_member}

-- one more behind them
decided_push : (verdicts : List (List ℕ)) (verdict front text : List ℕ) → AreDecided verdicts text → AreDecided (verdicts ++ verdict ∷ []) (text ++ (front ++ verdict_member verdict))
decided_push [] verdict front text are =
    let item = front ++ verdict_member verdict in
    (front, [], refl, ap (λ (t : List ℕ). t ++ item) are ∙ sym (append-nil item))
decided_push (first ∷ verdicts) verdict front text are =
    let item = front ++ verdict_member verdict in
    (are.0, are.1 ++ item, decided_push verdicts verdict front are.1 are.2, ap (λ (t : List ℕ). t ++ item) are.3 ∙ append_assoc (are.0 ++ verdict_member first) are.1 item)

-- the next one behind those so far
decided_next : (verdicts : List (List ℕ)) (place : ℕ) (verdict front old new : List ℕ) → place < length verdicts → get_or verdicts place verdict ≡ verdict
    → AreDecided (take place verdicts) old → new ≡ old ++ (front ++ verdict_member verdict) → AreDecided (take (place + 1) verdicts) new
decided_next verdicts place verdict front old new within there are is =
    subst (λ (some : List (List ℕ)). AreDecided some new) (sym (take_more verdicts place verdict within ∙ ap (λ (v : List ℕ). take place verdicts ++ v ∷ []) there))
    (subst (AreDecided (take place verdicts ++ verdict ∷ [])) (sym is) (decided_push (take place verdicts) verdict front old are))

-- the same of what a list holds
pub decided_more : {X : Type 0} (spelled : X → List ℕ) (items : List X) (place : ℕ) (d : X) (front old new : List ℕ) → place < length items
    → AreDecided (take place (map spelled items)) old → new ≡ old ++ (front ++ verdict_member (spelled (get_or items place d))) → AreDecided (take (place + 1) (map spelled items)) new
decided_more spelled items place d front old new within are is =
    let verdict = spelled (get_or items place d) in
    decided_next (map spelled items) place verdict front old new (omega (arith, within, length-map items spelled)) (get_or-map spelled items place d verdict within) are is

-- all of them
pub decided_all : {X : Type 0} (spelled : X → List ℕ) (items : List X) (place : ℕ) (text : List ℕ) → place ≤ length items → length items ≤ place
    → AreDecided (take place (map spelled items)) text → AreDecided (map spelled items) text
decided_all spelled items place text within past are =
    let at : place ≡ length (map spelled items) = omega (arith, within, past, length-map items spelled) in
    subst (λ (some : List (List ℕ)). AreDecided some text) (ap (λ (n : ℕ). take n (map spelled items)) at ∙ take-length (map spelled items)) are

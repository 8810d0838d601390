-- Lines that tell steps, one after another.
use Rattle.std.proofs.Common.{◌≡◌, ℕ, ◌+◌, ◌<◌, ◌≤◌, List, [], ◌∷◌, ◌++◌, length, get_or, take, sym, ap, ◌∙◌, append_assoc}
use Rattle.std.proofs.lemmas.List.{append-nil, take_more, take_all}
use Rattle.callorder.specs.Programs.{MpiProgram}
use Rattle.semantics.specs.declared.state.Step.{Step}
use Rattle.semantics.specs.Machine.{Configuration, opening, after, after_all}
use Rattle.reports.specs.Telling.{told_line, told_steps}

-- the lines so far, and one more
told_push : (p : MpiProgram) (m : Configuration) (steps : List Step) (step : Step) → told_steps p m (steps ++ step ∷ []) ≡ told_steps p m steps ++ told_line p (after_all m steps) step
told_push p m [] step = append-nil (told_line p m step)
told_push p m (first ∷ steps) step =
    ap (λ (text : List ℕ). told_line p m first ++ text) (told_push p (after m first) steps step)
    ∙ sym (append_assoc (told_line p m first) (told_steps p (after m first) steps) (told_line p (after_all (after m first) steps) step))

-- one more step of a run is told
pub told_more : (p : MpiProgram) (steps : List Step) (k : ℕ) (d : Step) (state : Configuration) (text more : List ℕ) → k < length steps → state ≡ after_all (opening p) (take k steps)
    → text ≡ told_steps p (opening p) (take k steps) → more ≡ text ++ told_line p state (get_or steps k d) → more ≡ told_steps p (opening p) (take (k + 1) steps)
told_more p steps k d state text more within now told one =
    one
    ∙ ap (λ (t : List ℕ). t ++ told_line p state (get_or steps k d)) told
    ∙ ap (λ (m : Configuration). told_steps p (opening p) (take k steps) ++ told_line p m (get_or steps k d)) now
    ∙ sym (told_push p (opening p) (take k steps) (get_or steps k d))
    ∙ ap (told_steps p (opening p)) (sym (take_more steps k d within))

-- all are told
pub told_all : (p : MpiProgram) (steps : List Step) (k : ℕ) (text all end : List ℕ) → length steps ≤ k → text ≡ told_steps p (opening p) (take k steps) → all ≡ text ++ end → all ≡ told_steps p (opening p) steps ++ end
told_all p steps k text all end past told last = last ∙ ap (λ (t : List ℕ). t ++ end) (told ∙ ap (told_steps p (opening p)) (take_all k steps past))

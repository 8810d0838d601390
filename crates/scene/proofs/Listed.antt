-- Lists that grow by one.
use Rattle.std.proofs.Common.{◌≡◌, ℕ, ◌+◌, ◌<◌, List, [], ◌∷◌, ◌++◌, Option, Some, refl, length, get_or, slice_get, take, sym, ap, ◌∙◌, add-one}
use Rattle.std.proofs.lemmas.List.{take_more}
use Rattle.std.proofs.lemmas.Option.{slice_get-get_or}
use Rattle.callorder.specs.declared.calls.Call.{Call}
use Rattle.semantics.specs.declared.state.Step.{Step}
use Rattle.semantics.specs.Machine.{Configuration, after, after_all}
use Rattle.scene.specs.declared.acts.Act.{Act}
use Rattle.scene.specs.Labels.{Label, caller_rank, label_at, labels, act_of, acts_from}

-- what the steps so far do, and one more
acts_push : (m : Configuration) (steps : List Step) (step : Step) → acts_from m (steps ++ step ∷ []) ≡ acts_from m steps ++ act_of (after_all m steps) step ∷ []
acts_push m [] step = refl
acts_push m (first ∷ steps) step = ap (λ (acts : List Act). act_of m first ∷ acts) (acts_push (after m first) steps step)

-- one more step
pub acts_more : (m state : Configuration) (steps : List Step) (k : ℕ) (d : Step) (acts more : List Act) → k < length steps → state ≡ after_all m (take k steps)
    → acts ≡ acts_from m (take k steps) → more ≡ acts ++ act_of state (get_or steps k d) ∷ [] → more ≡ acts_from m (take (k + 1) steps)
acts_more m state steps k d acts more within now so_far one =
    one
    ∙ ap (λ (a : List Act). a ++ act_of state (get_or steps k d) ∷ []) so_far
    ∙ ap (λ (n : Configuration). acts_from m (take k steps) ++ act_of n (get_or steps k d) ∷ []) now
    ∙ sym (acts_push m (take k steps) (get_or steps k d))
    ∙ ap (acts_from m) (sym (take_more steps k d within))

-- one more call
pub labels_more : (lines read : List (List ℕ)) (numbers copied : List ℕ) (calls items : List Call) (place : ℕ) (d : Call) (told more : List Label) (one : Label) → read ≡ lines → copied ≡ numbers → items ≡ calls → place < length items
    → one ≡ label_at read copied place (get_or items place d).rank → more ≡ told ++ one ∷ [] → told ≡ labels lines numbers calls place → more ≡ labels lines numbers calls (place + 1)
labels_more lines read numbers copied calls items place d told more one same_lines same_numbers same_calls within is grows so_far =
    let there : Some (get_or items place d) ≡ slice_get calls place = sym (slice_get-get_or items place d within) ∙ ap (λ (cs : List Call). slice_get cs place) same_calls in
    let it : one ≡ label_at lines numbers place (caller_rank (slice_get calls place)) =
    is ∙ (λ i. label_at (same_lines i) (same_numbers i) place (get_or items place d).rank) ∙ ap (λ (o : Option Call). label_at lines numbers place (caller_rank o)) there in
    grows ∙ (λ i. so_far i ++ it i ∷ []) ∙ ap (labels lines numbers calls) (sym (add-one place))

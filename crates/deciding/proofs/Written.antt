-- The text of a schedule is its headings and the lines of its steps.
use Rattle.std.proofs.Common.{◌≡◌, ℕ, List, [], ◌∷◌, ◌++◌, map, sym, ap, ◌∙◌}
use Rattle.std.specs.Prelude.{codes}
use Rattle.std.specs.List.{flat_map}
use Rattle.std.proofs.lemmas.List.Concat.{flat_map-cons}
use Rattle.std.proofs.lemmas.List.Folds.{flat_map-map}
use Rattle.semantics.specs.declared.state.Step.{Step}
use Rattle.prooflog.specs.declared.refutation.Version.TheVariants.{One}
use Rattle.prooflog.specs.Steps.{written, step_line, schedule_line}
use Rattle.prooflog.specs.Grammar.{heading_line}
use Rattle.deciding.specs.Decisions.{schedule_text}

pub text_written : (steps : List Step) (out : List ℕ) → out ≡ (codes "evidence 1" ++ 10 ∷ codes "schedule" ++ 10 ∷ []) ++ flat_map step_line (map written steps) → out ≡ schedule_text steps
text_written steps out e =
    let lines : List (List ℕ) = map step_line (map written steps) in
    e ∙ ap (λ (text : List ℕ). heading_line One ++ (schedule_line ++ text)) (sym (flat_map-map (λ line. line) step_line (map written steps)))
    ∙ ap (λ (text : List ℕ). heading_line One ++ text) (sym (flat_map-cons (λ line. line) schedule_line lines))
    ∙ sym (flat_map-cons (λ line. line) (heading_line One) (schedule_line ∷ lines))

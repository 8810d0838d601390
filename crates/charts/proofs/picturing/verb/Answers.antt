use Rattle.std.proofs.Common.{◌≡◌, ℕ, ◌==◌, not, ap, ◌∙◌, take}
use Rattle.std.specs.List.{prefix_len}
use Rattle.std.proofs.lemmas.List.{take_min}
use Rattle.std.proofs.lemmas.List.Folds.{length-prefix_len}
use Rattle.charts.proofs.picturing.verb.Goals as goal

pub returns : goal.returns
returns c =
    let words = c.args.words.now in
    let length_is : c.verb_length.result ≡ prefix_len (λ b. not (b == 32)) words = c.verb_length.ensures ∙ length-prefix_len (λ b. not (b == 32)) words in
    c.split_at.ensures.front ∙ ap (λ (k : ℕ). take k words) c.min.ensures ∙ take_min c.verb_length.result words ∙ ap (λ (k : ℕ). take k words) length_is

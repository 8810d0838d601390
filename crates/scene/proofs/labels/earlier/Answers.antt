use Rattle.std.proofs.Common.{◌==◌, ℕ, ap, ◌∙◌, length, reverse, take}
use Rattle.std.specs.List.{take_while}
use Rattle.std.proofs.lemmas.List.{take_min}
use Rattle.scene.proofs.labels.earlier.Goals as goal

pub returns : goal.returns
returns c =
    let before = c.split_at.ensures.front ∙ ap (λ (k : ℕ). take k c.args.numbers.now) c.min.ensures ∙ take_min c.args.place c.args.numbers.now in
    c.last_ones.ensures ∙ (λ i. length (take_while (λ n. n == c.number_at.ensures i) (reverse (before i))))

use Rattle.std.proofs.Common.{◌≡◌, ◌∙◌, ap, List, ℕ, ◌++◌, append_assoc, codes, decimal}
use Rattle.progress.specs.Telling.{log_percent, percent, tree_percent}
use Rattle.progress.proofs.moment.put_shares.Goals as goal

-- what is written after words and a number stands behind them, whatever the number is called
then_more : (old words : List ℕ) (n m : ℕ) (more new : List ℕ) → n ≡ m → new ≡ old ++ (words ++ decimal n) → new ++ more ≡ old ++ (words ++ (decimal m ++ more))
then_more old words n m more new same is =
    ap (λ (l : List ℕ). l ++ more) (is ∙ ap (λ (k : ℕ). old ++ (words ++ decimal k)) same)
    ∙ append_assoc old (words ++ decimal m) more ∙ ap (λ (l : List ℕ). old ++ l) (append_assoc words (decimal m) more)

pub returns : goal.returns
returns c =
    let m = c.args.moment.now in
    let three = codes " % of the log\n" in
    let two = codes " % of the budget, " ++ (decimal (log_percent m) ++ three) in
    let one = codes " % of the tree, " ++ (decimal (percent m.used m.budget) ++ two) in
    c.in_ok-extend_from_slice.ensures.items
    ∙ then_more _ (codes " % of the budget, ") _ (log_percent m) three _ c.log_percent.ensures c.in_ok-put-3.ensures
    ∙ then_more _ (codes " % of the tree, ") _ (percent m.used m.budget) two _ (c.percent.ensures ∙ ap (λ (b : ℕ). percent m.used b) c.from-budget.ensures) c.in_ok-put-2.ensures
    ∙ then_more _ (codes ", ") _ (tree_percent m) one _ c.tree_percent.ensures.parts c.in_ok-put.ensures

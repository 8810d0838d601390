use Rattle.std.proofs.Common.{◌∙◌, ap, List, ℕ, ◌++◌, codes, decimal}
use Rattle.progress.proofs.Parts.{then_more}
use Rattle.progress.proofs.moment.formed_line.Goals as goal

pub returns : goal.returns
returns c =
    let three = codes " clauses, and is searched next\n" in
    let two = codes " s: the formula has " ++ (decimal c.args.clauses ++ three) in
    let one = codes "progress " ++ (decimal c.args.seconds ++ two) in
    c.in_ok-extend_from_slice.ensures.items
    ∙ then_more _ (codes " s: the formula has ") (decimal c.args.clauses) three _ c.in_ok-put-2.ensures
    ∙ then_more _ (codes "progress ") (decimal c.args.seconds) two _ c.in_ok-put.ensures
    ∙ ap (λ (l : List ℕ). l ++ one) c.new-line.ensures.items

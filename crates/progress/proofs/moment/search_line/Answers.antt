use Rattle.std.proofs.Common.{◌∙◌, ap, List, ℕ, ◌++◌, codes, decimal}
use Rattle.progress.specs.Telling.{shares_text}
use Rattle.progress.proofs.Parts.{then_more, then_two}
use Rattle.progress.proofs.moment.search_line.Goals as goal

pub returns : goal.returns
returns c =
    let m = c.args.moment.now in
    let seven = codes " set lines" ++ shares_text m in
    let six = codes " conflicts, " ++ (decimal m.set_lines ++ seven) in
    let five = codes " lines, " ++ (decimal m.conflicts ++ six) in
    let four = codes " closed, " ++ (decimal m.lines ++ five) in
    let three = codes " cubes open, " ++ (decimal m.closed ++ four) in
    let two = codes " s: " ++ (decimal m.open ++ three) in
    let one = codes "progress " ++ (decimal m.seconds ++ two) in
    then_two _ (codes " set lines") (shares_text m) _ _ c.in_ok-extend_from_slice.ensures.items c.in_ok-put_shares.ensures
    ∙ then_more _ (codes " conflicts, ") (decimal m.set_lines) seven _ c.in_ok-put-6.ensures
    ∙ then_more _ (codes " lines, ") (decimal m.conflicts) six _ c.in_ok-put-5.ensures
    ∙ then_more _ (codes " closed, ") (decimal m.lines) five _ c.in_ok-put-4.ensures
    ∙ then_more _ (codes " cubes open, ") (decimal m.closed) four _ c.in_ok-put-3.ensures
    ∙ then_more _ (codes " s: ") (decimal m.open) three _ c.in_ok-put-2.ensures
    ∙ then_more _ (codes "progress ") (decimal m.seconds) two _ c.in_ok-put.ensures
    ∙ ap (λ (l : List ℕ). l ++ one) c.new-line.ensures.items

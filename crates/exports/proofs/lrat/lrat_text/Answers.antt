use Rattle.std.proofs.Common.{ℕ, ◌+◌, ◌≡◌, ◌++◌, length, List, ap, ◌∙◌, sym, arith}
use Rattle.exports.specs.Lrat.{lrat_text}
use Rattle.exports.proofs.LratTexts.{text_append}
use Rattle.exports.proofs.lrat.lrat_text.Goals as goal

pub returns : goal.returns
returns c =
    let n : ℕ = c.args.clauses in
    let number : n + length c.args.lines.now + 1 ≡ n + 1 + length c.args.lines.now = omega arith in
    c.in_ok-put_lines-2.ensures
    ∙ ap (λ (t : List ℕ). t ++ lrat_text (n + length c.args.lines.now + 1) c.args.added.now) (c.in_ok-put_lines.ensures ∙ ap (λ (t : List ℕ). t ++ lrat_text (n + 1) c.args.lines.now) c.new-out.ensures.items)
    ∙ ap (λ (k : ℕ). lrat_text (n + 1) c.args.lines.now ++ lrat_text k c.args.added.now) number
    ∙ sym (text_append (n + 1) c.args.lines.now c.args.added.now)

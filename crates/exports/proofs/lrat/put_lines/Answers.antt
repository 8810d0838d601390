use Rattle.std.proofs.Common.{ℕ, ◌+◌, ◌≡◌, ◌++◌, ap, ◌∙◌, arith}
use Rattle.exports.specs.Lrat.{lrat_line}
use Rattle.exports.proofs.LratTexts.{text_next}
use Rattle.exports.proofs.lrat.put_lines.Goals as goal

pub loop-place-preserved : goal.loop-place-preserved
loop-place-preserved c =
    let number : c.args.clauses + c.loop-place.place + 1 ≡ c.args.clauses + 1 + c.loop-place.place = omega arith in
    text_next c.args.out.now.items c.loop-place.out.items c.put_line.new.out.items (c.args.clauses + 1) c.loop-place.place c.args.lines.now c.index-lines-place.result c.loop-place-test.true c.loop-place.invariant
    (c.in_ok-put_line.ensures ∙ ap (λ (n : ℕ). c.loop-place.out.items ++ lrat_line n c.index-lines-place.result) number ∙ ap (λ l. c.loop-place.out.items ++ lrat_line (c.args.clauses + 1 + c.loop-place.place) l) c.index-lines-place.is)

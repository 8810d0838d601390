use Rattle.std.proofs.Common.{◌≡◌, ◌+◌, ◌-◌, ◌++◌, ◌∷◌, take, drop, length, ap, subst, ◌∙◌, arith}
use Rattle.std.proofs.lemmas.Grind.{common_steps}
use Rattle.plaintext.specs.Plain.{text_lines}
use Rattle.plaintext.proofs.Cuts.{text_lines_first, text_lines_last, HasNo}
use Rattle.plaintext.proofs.lines.next_line.Goals as goal

pub returns-then-byte-eq10-clause-some : goal.returns-then-byte-eq10-clause-some
returns-then-byte-eq10-clause-some c =
    let bs = c.args.bytes.now in
    let i = c.loop-i.i in
    let whole : bs ≡ take i bs ++ 10 ∷ take (length bs - (i + 1)) (drop (i + 1) bs) = grind (arith, common_steps) in
    ap text_lines whole ∙ text_lines_first (take i bs) (take (length bs - (i + 1)) (drop (i + 1) bs)) c.loop-i.invariant

pub returns-clause-none : goal.returns-clause-none
returns-clause-none c =
    let bs = c.args.bytes.now in
    let whole : take c.loop-i.i bs ≡ bs = grind (arith, common_steps) in
    text_lines_last bs (subst (λ x. HasNo 10 x) whole c.loop-i.invariant)

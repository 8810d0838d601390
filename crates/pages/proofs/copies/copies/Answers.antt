use Rattle.std.proofs.Common.{◌++◌, ◌∷◌, [], ap, ◌∙◌, sym}
use Rattle.refutations.specs.Proofs.{ProofLine}
use Rattle.pages.proofs.Fronts.{one_more_at}
use Rattle.pages.proofs.copies.copies.Goals as goal

pub loop-place-preserved : goal.loop-place-preserved
loop-place-preserved g c =
    c.in_ok-push.ensures.items
    ∙ ap (λ (line : ProofLine). c.loop-place.copies.items ++ line ∷ []) c.in_ok-share.ensures
    ∙ one_more_at c.args.from c.loop-place.place (g.L.CountedList.lines c.args.lines.now) c.loop-place.copies.items c.in-Some.line.now c.loop-place.auto.place (sym c.in-Some.ensures) c.loop-place.invariant

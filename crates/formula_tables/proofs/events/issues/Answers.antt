use Rattle.std.proofs.Common.{◌++◌, ◌∷◌, [], sym, ap, ◌∙◌}
use Rattle.candidates.proofs.Ranges.{range_more}
use Rattle.formula_tables.proofs.events.issues.Goals as goal

pub loop-call-preserved : goal.loop-call-preserved
loop-call-preserved c =
    c.in_ok-push.ensures.items ∙ (ap (λ l. l ++ (c.loop-call.call ∷ [])) c.loop-call.invariant ∙ sym (range_more c.loop-call.call))

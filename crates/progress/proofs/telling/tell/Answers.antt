use Rattle.std.proofs.Common.{arith, ◌∙◌, ◌<◌, ℕ, Option, List, ap, sym, subst}
use Rattle.progress.proofs.Tellings.{HasTold, told_more, told_part}
use Rattle.progress.proofs.telling.tell.Goals as goal
use Rattle.progress.proofs.telling.tell.Goals.{then-seconds-told+in-Ok-tell_moment, else-seconds-told}

pub returns-in_default-tell_moment : goal.returns-in_default-tell_moment
returns-in_default-tell_moment g c =
    let later : c.loop.told < c.at.result.seconds = omega (arith, c.if-seconds-told.true, c.at.ensures.seconds) in
    told_part _ _ _ c.loop.told c.at.result c.loop.invariant later (c.in_default-tell_moment.ensures.part)

pub loop-preserved : goal.loop-preserved
loop-preserved g c =
    let old = g.E.Write.contents c.args.err.now in
    elim c.if-seconds-told.branch [
      | then-seconds-told+in-Ok-tell_moment w ↦
          let later : c.loop.told < w.at.result.seconds = omega (arith, w.if-seconds-told.true, w.at.ensures.seconds) in
          let more = told_more _ _ _ c.loop.told w.at.result c.loop.invariant later w.in-Ok-tell_moment.ensures.all in
          subst (λ (seconds : ℕ). HasTold old (g.E.Write.contents c.if-seconds-told.err) seconds) (w.at.ensures.seconds ∙ sym w.told-is)
          (subst (λ (new : Option (List ℕ)). HasTold old new w.at.result.seconds) (ap g.E.Write.contents (sym w.err-is)) more)
      | else-seconds-told w ↦
          subst (λ (seconds : ℕ). HasTold old (g.E.Write.contents c.if-seconds-told.err) seconds) (sym w.told-is)
          (subst (λ (new : Option (List ℕ)). HasTold old new c.loop.told) (ap g.E.Write.contents (sym w.err-is)) c.loop.invariant)
    ]

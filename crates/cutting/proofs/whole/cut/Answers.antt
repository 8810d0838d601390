use Rattle.std.proofs.Common.{◌≡◌, ℕ, ◌+◌, [], ◌∷◌, length, ap, arith, sym, subst, ◌∙◌, length-append}
use Rattle.std.specs.Global.{Vec}
use Rattle.cutting.specs.Orders.{IsOrder}
use Rattle.cutting.proofs.Orders.{new_text, old_text}
use Rattle.cutting.proofs.whole.cut.Goals.{then-number-len+in_ok-text_of+in_ok-push+in_ok-note, else-number-len}
use Rattle.cutting.proofs.whole.cut.Goals as goal

pub loop-phase-preserved : goal.loop-phase-preserved
loop-phase-preserved c =
    let texts = c.loop-phase.texts in
    let many : length texts.items ≡ c.len-in-loop-phase.result = omega (arith, texts.ok.0, c.len-in-loop-phase.ensures) in
    elim c.if-number-len.branch [
      | then-number-len+in_ok-text_of+in_ok-push+in_ok-note w ↦
          let size : length c.if-number-len.texts.items ≡ length texts.items + 1 =
          ap (λ (v : Vec (Vec ℕ)). length v.items) w.texts-is ∙ ap length w.in_ok-push.ensures.items ∙ length-append texts.items (w.in_ok-text_of.field-0 ∷ []) in
          new_text (length texts.items) _ c.min-number.result c.loop-phase.order.items _ c.loop-phase.invariant
          (omega (arith, w.if-number-len.true, many)) size c.in_ok-push-2.ensures.items
      | else-number-len w ↦
          subst (λ (v : Vec (Vec ℕ)). IsOrder (length v.items) c.push-in-loop-phase.new.self.items) (sym w.texts-is)
          (old_text (length texts.items) c.min-number.result c.loop-phase.order.items _ c.loop-phase.invariant
          (omega (arith, c.min-number.ensures, c.len.ensures, texts.ok.0)) (λ e. w.if-number-len.false (e ∙ many)) c.in_ok-push-2.ensures.items)
    ]

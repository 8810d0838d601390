use Rattle.std.proofs.Common.{◌≡◌, Bool, subst, sym}
use Rattle.std.specs.Global.{Vec}
use Rattle.clocks.specs.parts.Clocks.{AreOrdered}
use Rattle.clocks.proofs.rows.order_races.Goals as goal
use Rattle.clocks.proofs.rows.order_races.Goals.{then-tells_at, else-tells_at}

ordered_is : (one other : Vec Bool) → one ≡ other → one.items ≡ other.items
ordered_is one other is = λ i. (is i).items

pub loop-place-preserved : goal.loop-place-preserved
loop-place-preserved c =
    elim c.if-tells_at.branch [
      | then-tells_at w ↦ λ knows more are within is.
          subst (AreOrdered more c.args.asked.now) (sym (ordered_is c.if-tells_at.ordered _ w.ordered-is))
          (w.order.ensures c.args.asked.now more (c.loop-place.invariant knows more are within is) (c.tells_at.ensures w.if-tells_at.true more is))
      | else-tells_at w ↦ λ knows more are within is.
          subst (AreOrdered more c.args.asked.now) (sym (ordered_is c.if-tells_at.ordered _ w.ordered-is)) (c.loop-place.invariant knows more are within is)
    ]

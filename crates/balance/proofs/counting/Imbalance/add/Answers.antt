use Rattle.std.proofs.Common.{refl, sym, ◌∙◌}
use Rattle.balance.proofs.Sideways.{send_added, taker_added}
use Rattle.balance.proofs.counting.Imbalance.add.Goals as goal

pub returns-in_ok-push : goal.returns-in_ok-push
returns-in_ok-push c = λ numbers number size are.
    send_added c.args.program.now numbers number c.args.place c.args.self.now _ size (sym c.is_send.ensures ∙ c.if-is_send.true) are c.in_ok-push.ensures.items refl

pub returns-in_ok-push-2 : goal.returns-in_ok-push-2
returns-in_ok-push-2 c = λ numbers number size are.
    taker_added c.args.program.now numbers number c.args.place c.args.self.now _ size (sym c.is_send.ensures ∙ c.if-is_send.false) are refl c.in_ok-push-2.ensures.items

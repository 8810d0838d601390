use Rattle.std.proofs.Common.{◌+◌, ◌<◌, All, length, sym, ap, subst}
use Rattle.formula_tables.proofs.EventSlots.{slots_below}
use Rattle.formula_tables.proofs.events.Events.make.Goals as goal

pub make-requires : goal.make-requires
make-requires c =
    let p = c.args.program.now in
    subst (λ n. All (λ s. s < n + n) c.in_ok-slots.slots.items) (sym (ap length c.calls-calls.ensures.value))
    (subst (All (λ s. s < length p.calls + length p.calls)) (sym c.in_ok-slots.ensures) (slots_below p))

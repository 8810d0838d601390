use Rattle.std.proofs.Common.{ℕ, ◌+◌, List, take, ap, refl, sym, subst, arith}
use Rattle.std.specs.Global.{Vec}
use Rattle.std.proofs.lemmas.Option.{slice_get_read}
use Rattle.sealing.specs.declared.loose.Loose.{Loose}
use Rattle.phase_checker.proofs.Tables.{IsEndsTo, ends_done, ends_more, read_at}
use Rattle.phase_checker.proofs.early.ends_of.Goals as goal

pub loop-number-preserved : goal.loop-number-preserved
loop-number-preserved c =
    let phases = c.args.phases.now in
    let followed = c.in_ok-followed.followed.items in
    let ends = c.loop-number.ends.items in
    let count = c.loop-number.number in
    let phase = c.index-phases-number.result in
    let here = slice_get_read phases _ count phase refl (omega arith) c.index-phases-number.is in
    let at = read_at _ _ followed count c.index.result.now c.in_ok-followed.ensures (omega arith) c.index.ensures in
    subst (λ (z : List (Vec Loose)). IsEndsTo phases followed z (count + 1)) (sym {A = List (Vec Loose)} c.in_ok-push.ensures.items)
    (ends_more phases followed ends count c.loop-number.invariant phase c.in_ok-ends_at.field-0 c.index.result.now here at c.in_ok-ends_at.ensures)

pub returns : goal.returns
returns c =
    let order = c.args.order.now in
    let cut = ap (λ (z : ℕ). take z order) c.saturating_sub.ensures in
    ends_done c.args.phases.now c.in_ok-followed.followed.items c.loop-number.ends.items c.loop-number.number c.loop-number.invariant order _ cut c.in_ok-followed.ensures (omega arith)

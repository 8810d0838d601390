use Rattle.std.proofs.Common.{ℕ, ◌+◌, List, sym, subst, arith}
use Rattle.sealing.specs.declared.loose.Loose.{Loose}
use Rattle.phase_checker.specs.parts.Early.{IsReachOfList}
use Rattle.phase_checker.proofs.Reaches.{AreReachesTo, reaches_done, reaches_more}
use Rattle.phase_checker.proofs.early.reaches_of.Goals as goal

pub loop-list-preserved : goal.loop-list-preserved
loop-list-preserved c =
    let senders = c.args.senders.now in
    let ends = c.args.ends.now in
    let index = c.loop-list.list-index in
    let reaches_it = subst (λ (z : List Loose). IsReachOfList senders z c.reach.result) c.deref.ensures.value c.reach.ensures in
    subst (λ (z : List ℕ). AreReachesTo senders ends z (index + 1)) (sym {A = List ℕ} c.in_ok-push.ensures.items)
    (reaches_more senders ends c.loop-list.reaches.items index c.reach.result c.list-item.result c.loop-list.invariant (omega arith) c.list-item.is reaches_it)

pub returns : goal.returns
returns c = reaches_done c.args.senders.now c.args.ends.now c.loop-list.reaches.items c.loop-list.list-index c.loop-list.invariant (omega arith)

use Rattle.std.proofs.Common.{ℕ, List, subst}
use Rattle.std.specs.Global.{Vec}
use Rattle.sealing.specs.declared.loose.Loose.{Loose}
use Rattle.phase_checker.specs.parts.Early.{AreEmpty, AreReachesOfLists, IsFirstWithin}
use Rattle.phase_checker.proofs.FirstEarly.{first_is_early, none_is_early}
use Rattle.phase_checker.proofs.early.first_early.Goals as goal

pub returns-then-are_empty : goal.returns-then-are_empty
returns-then-are_empty c =
    none_is_early c.args.phases.now c.args.order.now c.in_ok-ends.ends.items c.in_ok-ends.ensures
    (subst AreEmpty c.deref.ensures.value (c.are_empty.ensures c.if-are_empty.true))

pub returns : goal.returns
returns c =
    let ends = c.in_ok-ends.ends.items in
    let senders = c.in_ok-senders.senders in
    let reaches = c.in_ok-reaches.reaches.items in
    first_is_early c.args.phases.now c.args.order.now ends c.in_ok-ends.ensures senders reaches c.in_ok-senders.ensures
    (subst (λ (z : List (Vec Loose)). AreReachesOfLists senders z reaches) c.deref-2.ensures.value c.in_ok-reaches.ensures)
    c.first_within.result
    (subst (λ (z : List ℕ). IsFirstWithin c.args.order.now z c.first_within.result) c.deref-3.ensures.value c.first_within.ensures)

use Rattle.std.proofs.Common.{◌+◌, List, sym, ◌∙◌, subst}
use Rattle.narrowing.specs.declared.taken.ChoiceTaken.{ChoiceTaken}
use Rattle.narrowing.specs.Ways.{AreOthersBelow}
use Rattle.narrowing.proofs.Tested.{one_more_way}
use Rattle.narrowing.proofs.ways.put_other.Goals as goal

pub returns : goal.returns
returns c old =
    subst (λ (l : List ChoiceTaken). AreOthersBelow c.args.program.now c.args.call c.args.taken (c.args.send + 1) l) (sym c.in_ok-push.ensures.items)
    (one_more_way c.args.program.now c.args.call c.args.taken c.args.send c.args.others.now.items c.in-Some.way
    (sym c.are_fit.ensures ∙ c.if-not-are_fit.false) (sym c.way_to.ensures ∙ c.in-Some.is) (λ same. absurd (let is = c.is_same.ensures.1 same in let no = c.if-is_same.false in cc)) old)

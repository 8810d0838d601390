use Rattle.std.proofs.Common.{sym, arith}
use Rattle.std.proofs.lemmas.Bool.{eqb-true}
use Rattle.std.proofs.lemmas.Option.{slice_get_within}
use Rattle.phase_checker.proofs.Reaches.{empty_so_far, none_in}
use Rattle.phase_checker.proofs.early.are_empty.Goals as goal

pub loop-list-preserved : goal.loop-list-preserved
loop-list-preserved c =
    let list = c.list-item.result in
    let none = eqb-true _ 0 (sym c.if-not-is_empty.ensures) in
    empty_so_far c.args.ends.now c.loop-list.list-index list c.loop-list.invariant (omega arith) c.list-item.is (none_in list.items (omega (arith, none, list.ok.0)))

pub returns : goal.returns
returns c = λ holds number list there. c.loop-list.invariant number list (omega (arith, slice_get_within c.args.ends.now number list there)) there

use Rattle.std.proofs.Common.{◌+◌, length, take, sym, subst}
use Rattle.std.specs.Global.{Vec}
use Rattle.balance.specs.declared.counting.Imbalance.{Imbalance}
use Rattle.balance.specs.Sides.{AreAllSides}
use Rattle.balance.proofs.Sideways.{table_unnumbered_at, table_numbered_at}
use Rattle.balance.proofs.counting.sides_of.Goals as goal
use Rattle.balance.proofs.counting.sides_of.Goals.{in-Some+in_ok-add, in_default}

pub loop-place-preserved : goal.loop-place-preserved
loop-place-preserved c =
    let p = c.args.program.now in
    let numbers = c.args.numbers.now in
    let place = c.loop-place.place in
    let table = c.loop-place.table.items in
    elim c.match-number.branch [
      | in-Some+in_ok-add w ↦
          subst (λ (z : Vec Imbalance). AreAllSides p (length numbers) (take (place + 1) numbers) z.items) (sym w.table-is)
          (table_numbered_at p numbers place w.in-Some.number table w.index_mut.result.now w.add.new.self c.requires c.loop-place.invariant c.loop-place-test.true w.in-Some.is w.index_mut.ensures.value w.in_ok-add.ensures)
      | in_default w ↦
          subst (λ (z : Vec Imbalance). AreAllSides p (length numbers) (take (place + 1) numbers) z.items) (sym w.table-is)
          (table_unnumbered_at p numbers place table c.loop-place.invariant c.loop-place-test.true w.in_default.is)
    ]

use Rattle.std.proofs.Common.{ℕ, ◌+◌, Option, sym, subst, arith}
use Rattle.std.specs.Global.{Vec}
use Rattle.std.proofs.lemmas.Option.{slice_get-get_or}
use Rattle.phase_checker.proofs.Tables.{IsLastTo, last_done, last_passed, last_put}
use Rattle.phase_checker.proofs.early.last_places.Goals as goal
use Rattle.phase_checker.proofs.early.last_places.Goals.{then-number-count, else-number-count}

pub loop-place-preserved : goal.loop-place-preserved
loop-place-preserved c =
    let order = c.args.order.now in
    let place = c.loop-place.place in
    let here = slice_get-get_or order place 0 (omega arith) in
    elim c.if-number-count.branch [
      | then-number-count w ↦
          subst (λ (z : Vec (Option ℕ)). IsLastTo c.args.count order z.items (place + 1)) (sym w.last-is)
          (last_put c.args.count order c.loop-place.last.items place c.loop-place.invariant _ here w.if-number-count.true)
      | else-number-count w ↦
          subst (λ (z : Vec (Option ℕ)). IsLastTo c.args.count order z.items (place + 1)) (sym w.last-is)
          (last_passed c.args.count order c.loop-place.last.items place c.loop-place.invariant _ here (λ within. omega (arith, within, w.if-number-count.false)))
    ]

pub returns : goal.returns
returns c = last_done c.args.count c.args.order.now c.loop-place.last.items c.loop-place.place c.loop-place.invariant (omega arith)

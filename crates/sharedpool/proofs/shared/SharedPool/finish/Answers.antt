use Rattle.std.proofs.Common.{◌≡◌, ◌<◌, ℕ, List, All, map, length, sym, ap, ◌∙◌, subst, arith}
use Rattle.std.specs.List.{range_with_len}
use Rattle.crossbeam_utils.specs.Seq.{cell_view}
use Rattle.pool.specs.declared.entry.LoggedCall.{LoggedCall}
use Rattle.pool.specs.States.{PoolState}
use Rattle.pool.proofs.Growth.{same_program, same_formula}
use Rattle.sharedpool.specs.declared.room.View.{View}
use Rattle.sharedpool.specs.Views.{items_of, AllBelow}
use Rattle.sharedpool.specs.Seats.{Chair}
use Rattle.sharedpool.proofs.shared.SharedPool.finish.Goals as goal

pub returns-clause-finished : goal.returns-clause-finished
returns-clause-finished g c =
    let locked = c.into_inner-locked.result in
    let seats = c.args.seats.items in
    let keeper = cell_view c.into_parts-pool.result.1 in
    let t = c.take_all_back.ensures in
    let knows = c.into_parts-pool.ensures.knows in
    let all : keeper.all ≡ locked.items = ap (λ (v : View). v.all) knows in
    let many : length seats ≡ c.workers-workers.result = omega (arith, c.len.ensures, c.if-len-workers.false, c.args.seats.ok.0) in
    let made : keeper.workers ≡ length seats = ap (λ (v : View). v.workers) knows ∙ sym c.workers-workers.ensures.made ∙ sym many in
    let some : 0 < length seats = omega (arith, many, c.workers-workers.ensures.some_worker) in
    record {
      items = locked.items;
      legal = c.into_parts-pool.ensures.legal;
      different = t.different;
      below = subst (λ (n : ℕ). All (λ (seat : Chair). seat.worker < n) seats) made t.below;
      lists = subst (λ (l : List LoggedCall). All (λ (seat : Chair). seat.mine ≡ items_of seat.worker l) seats) all t.mine;
      others = subst (λ (n : ℕ). AllBelow n locked.items) made (subst (AllBelow keeper.workers) all (t.others some));
      counts_are = c.in-Ok.ensures ∙ ap (λ n. map (λ worker. length (items_of worker locked.items)) (range_with_len 0 n)) (sym many);
    }

pub returns-clause-program : goal.returns-clause-program
returns-clause-program g c =
    ap (λ (h : PoolState). h.program) c.into_parts-pool.ensures.legal.ends ∙ same_program g.B.PoolName.opening c.into_inner-locked.result.items

pub returns-clause-formula : goal.returns-clause-formula
returns-clause-formula g c =
    ap (λ (h : PoolState). h.formula) c.into_parts-pool.ensures.legal.ends ∙ same_formula g.B.PoolName.opening c.into_inner-locked.result.items

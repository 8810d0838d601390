use Rattle.std.proofs.Common.{◌≡◌, Some, slice_get, arith}
use Rattle.callorder.proofs.Adding.{lines_there}
use Rattle.scene.proofs.LineNumbers.{ranks_more, heading_more, heading_within}
use Rattle.scene.proofs.numbering.line_numbers.Goals as goal

pub push_rank-requires : goal.push_rank-requires
push_rank-requires c =
    let there : slice_get c.args.source.now.ranks c.loop-lines.lines-index ≡ Some c.deref.result.now = lines_there c.ranks-lines-items.result.now c.args.source.now.ranks c.loop-lines.lines-index c.lines-item.result c.deref.result.now c.ranks-lines-items.ensures.lines c.loop-lines-test.true c.lines-item.is c.deref.ensures.value in
    omega (arith, heading_within c.args.source.now c.loop-lines.lines-index c.deref.result.now c.ranks-lines-items.ensures.readable there, c.loop-lines.invariant.heading)

pub overflow_add-heading-in-loop-lines : goal.overflow_add-heading-in-loop-lines
overflow_add-heading-in-loop-lines c =
    let there : slice_get c.args.source.now.ranks c.loop-lines.lines-index ≡ Some c.deref.result.now = lines_there c.ranks-lines-items.result.now c.args.source.now.ranks c.loop-lines.lines-index c.lines-item.result c.deref.result.now c.ranks-lines-items.ensures.lines c.loop-lines-test.true c.lines-item.is c.deref.ensures.value in
    omega (arith, heading_within c.args.source.now c.loop-lines.lines-index c.deref.result.now c.ranks-lines-items.ensures.readable there, c.loop-lines.invariant.heading, c.len.ensures, c.deref.ensures.len)

pub loop-lines-preserved : goal.loop-lines-preserved
loop-lines-preserved c =
    let there : slice_get c.args.source.now.ranks c.loop-lines.lines-index ≡ Some c.deref.result.now = lines_there c.ranks-lines-items.result.now c.args.source.now.ranks c.loop-lines.lines-index c.lines-item.result c.deref.result.now c.ranks-lines-items.ensures.lines c.loop-lines-test.true c.lines-item.is c.deref.ensures.value in
    record {
      heading = omega (arith, heading_more c.args.source.now c.loop-lines.lines-index c.deref.result.now there, c.loop-lines.invariant.heading, c.len.ensures, c.deref.ensures.len);
      numbers = ranks_more c.args.source.now c.loop-lines.lines-index c.loop-lines.heading c.deref.result.now c.loop-lines.numbers.items c.push_rank.new.numbers.items there c.loop-lines.invariant.heading c.loop-lines.invariant.numbers (c.in_ok-push_rank.ensures c.loop-lines.lines-index);
    }

use Rattle.std.proofs.Common.{arith}
use Rattle.places.proofs.Lines.{counted}
use Rattle.places.proofs.map.line_count.Goals as goal
use Rattle.places.proofs.map.line_count.Goals.{then-byte-eq10, else-byte-eq10}

pub loop-byte-preserved : goal.loop-byte-preserved
loop-byte-preserved c =
    let more = counted c.args.text.now c.loop-byte.byte-index c.loop-byte-test.true in
    elim c.if-byte-eq10.branch [
      | then-byte-eq10 w ↦ grind (arith, more, c.loop-byte.invariant, w.if-byte-eq10.true, w.count-is)
      | else-byte-eq10 w ↦ grind (arith, more, c.loop-byte.invariant, w.if-byte-eq10.false, w.count-is)
    ]

use Rattle.std.proofs.Common.{◌≡◌, Some, slice_get, is_some, sym, ap, ◌∙◌, arith}
use Rattle.std.proofs.lemmas.Grind.{common_steps}
use Rattle.leastrun.proofs.Queued.{skipped_more, first_of}
use Rattle.leastrun.proofs.rows.skip.Goals as goal

pub loop-preserved : goal.loop-preserved
loop-preserved c =
    let front : slice_get c.loop.row.items 0 ≡ Some c.in-Some.call = grind (arith, common_steps, c.front.ensures, c.copied.ensures, c.in-Some.is) in
    let taken : c.pop_front-call.result ≡ slice_get c.loop.row.items 0 = grind (arith, common_steps, c.pop_front-call.ensures.items, front) in
    skipped_more c.args.state.now c.args.row.now.items c.loop.row.items c.pop_front-call.new.self.items c.in-Some.call c.loop.invariant
    (first_of c.loop.row.items c.pop_front-call.new.self.items c.pop_front-call.result c.in-Some.call front c.pop_front-call.ensures.items taken)
    (ap is_some (sym c.partner.ensures ∙ c.in-Some-partner.is))

use Rattle.std.proofs.Common.{◌≤◌, length, sym, ◌∙◌, arith}
use Rattle.knowledge.specs.Knowledge.{with_partners}
use Rattle.knowledge.proofs.Entries.{all_told_up_to, one_more}
use Rattle.knowledge.proofs.column.take_out_all_untold.Goals as goal

pub loop-call-preserved : goal.loop-call-preserved
loop-call-preserved c =
    let out = c.take_out_untold-out.ensures in
    one_more c.args.program.now (with_partners c.args.partners.now) c.args.finder c.args.known.now.items c.loop-call.known.items c.take_out_untold-out.new.known.items c.loop-call.changed c.take_out_untold-out.result c.loop-call.call
    c.loop-call.invariant out.covers out.fewer out.same out.told out.places

pub returns-clause-told : goal.returns-clause-told
returns-clause-told c = λ same.
    let size = c.len-call-end.ensures in
    let places = c.loop-call.invariant.places in
    let past : length c.loop-call.known.items ≤ c.loop-call.call = omega (arith, size, places) in
    all_told_up_to c.args.program.now (with_partners c.args.partners.now) c.args.finder c.loop-call.known.items c.loop-call.call past (c.loop-call.invariant.told same)

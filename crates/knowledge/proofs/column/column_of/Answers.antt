use Rattle.knowledge.specs.Knowledge.{with_partners}
use Rattle.knowledge.proofs.Entries.{all_cover, told_justified}
use Rattle.knowledge.proofs.column.column_of.Goals as goal

pub loop-call-init : goal.loop-call-init
loop-call-init c = all_cover c.args.program.now (with_partners c.args.partners.now) c.args.finder c.in_ok-known.known.items c.in_ok-known.ensures

pub loop-call-preserved : goal.loop-call-preserved
loop-call-preserved c = c.take_out_untold.ensures.covers c.loop-call.invariant

pub returns-clause-justified : goal.returns-clause-justified
returns-clause-justified c = told_justified c.args.program.now (with_partners c.args.partners.now) c.args.finder c.settle.new.known.items c.settle.ensures.told

pub returns-clause-greatest : goal.returns-clause-greatest
returns-clause-greatest c = c.settle.ensures.covers c.loop-call.invariant

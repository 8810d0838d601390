use Rattle.knowledge.specs.Knowledge.{with_partners}
use Rattle.clocks.proofs.Leading.{sent_leads}
use Rattle.clocks.proofs.reads.done.Goals as goal

pub returns-then-is_told_by_send : goal.returns-then-is_told_by_send
returns-then-is_told_by_send c = λ knows f h.
    sent_leads c.args.program.now (with_partners c.args.partners.now) c.args.operation c.in-Some.call c.in-Send.mode c.in-Send.blocking c.in-Send.message c.in-Some.ensures c.in-Send.is knows f
    (c.is_told_by_send.ensures c.if-is_told_by_send.true (with_partners c.args.partners.now) c.args.operation knows f (c.fetched.ensures knows f h))

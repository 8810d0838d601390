use Rattle.std.proofs.Common.{◌-◌, sym, ◌∙◌, arith}
use Rattle.knowledge.specs.Knowledge.{with_partners}
use Rattle.clocks.proofs.Leading.{read_leads}
use Rattle.clocks.proofs.reads.read_for.Goals as goal

pub returns-then-are_of_one_rank : goal.returns-then-are_of_one_rank
returns-then-are_of_one_rank c = read_leads c.args.program.now (with_partners c.args.partners.now) c.args.call (c.args.call - 1) c.returned.result (let above = c.if-call-gt0.true in omega arith) (sym c.are_of_one_rank.ensures ∙ c.if-are_of_one_rank.true) c.returned.ensures

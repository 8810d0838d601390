use Rattle.clocks.specs.parts.Clocks.{level}
use Rattle.knowledge.specs.Knowledge.{with_partners}
use Rattle.clocks.proofs.rows.nothing_known.Goals as goal

pub returns : goal.returns
returns c = record {
  rounds = 0;
  are = c.in_ok-rows.ensures;
  orders = c.in_ok-ordered.ensures (level c.args.program.now (with_partners c.args.partners.now) 0);
  told = c.in_ok-told.ensures c.args.columns.now (level c.args.program.now (with_partners c.args.partners.now) 0);
}

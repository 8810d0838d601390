use Rattle.knowledge.specs.Knowledge.{with_partners}
use Rattle.clocks.proofs.Adding.{adds_read}
use Rattle.clocks.proofs.rows.add_read.Goals as goal

pub returns : goal.returns
returns c = adds_read c.args.columns.now (with_partners c.args.partners.now) c.args.rows.now c.args.read.now c.args.row.now.items c.join_at.new.row.items c.add_find_at.new.row.items c.join_at-2.new.row.items c.join_at.ensures c.add_find_at.ensures c.join_at-2.ensures

use Rattle.leastrun.proofs.Taking.{kept_passed}
use Rattle.leastrun.proofs.tables.Tables.pass.Goals as goal

pub returns : goal.returns
returns c fresh kept = kept_passed c.args.program.now c.args.state.now fresh c.args.self.now c.pass_send.new.sends c.pass_finder.new.finders c.pass_send.ensures c.pass_finder.ensures kept

use Rattle.leastrun.proofs.Taking.{kept_posted}
use Rattle.leastrun.proofs.tables.Tables.post.Goals as goal

pub returns : goal.returns
returns c = kept_posted c.args.program.now c.args.state.now c.args.self.now c.add.new.self c.args.call c.requires.fresh c.requires.kept c.in_ok-add.ensures

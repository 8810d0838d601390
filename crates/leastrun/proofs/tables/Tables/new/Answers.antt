use Rattle.leastrun.proofs.Opening.{kept_opening}
use Rattle.leastrun.proofs.tables.Tables.new.Goals as goal

pub returns : goal.returns
returns c = kept_opening c.args.program.now _ c.calls-calls.ensures.kept c.in_ok-forms.ensures c.new.ensures c.new-2.ensures

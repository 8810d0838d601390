use Rattle.std.proofs.Common.{sym, subst, ◌∙◌}
use Rattle.leastrun.specs.parts.Waiting.{IsFind}
use Rattle.leastrun.proofs.Openings.{find_between}
use Rattle.leastrun.proofs.lookup.find_of.Goals as goal

pub returns-clause-some : goal.returns-clause-some
returns-clause-some c =
    subst (IsFind c.args.program.now c.args.state.now) (sym c.step_between.ensures)
    (find_between c.args.program.now c.args.state.now c.args.call c.in-Some.other c.requires.fresh (sym c.is_open.ensures ∙ c.if-not-is_open.false) c.in-Some.ensures.some)

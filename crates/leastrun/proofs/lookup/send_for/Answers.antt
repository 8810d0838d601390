use Rattle.std.proofs.Common.{sym, ◌∙◌}
use Rattle.leastrun.proofs.Entries.{on_some, on_none}
use Rattle.leastrun.proofs.Seeking.{least_send, no_send}
use Rattle.leastrun.proofs.lookup.send_for.Goals as goal

pub returns-clause-some : goal.returns-clause-some
returns-clause-some c =
    on_some c.mate_in.result _ _
    (λ x found. least_send c.args.program.now c.args.state.now c.args.tables.now c.args.call c.in-Some.slot x c.args.known.now c.requires.kept c.requires.known (sym c.finder_slot.ensures ∙ c.in-Some.is) found)
    c.mate_in.ensures.some

pub returns-clause-none : goal.returns-clause-none
returns-clause-none c =
    on_none c.mate_in.result _ _
    (no_send c.args.program.now c.args.state.now c.args.tables.now c.args.call c.in-Some.slot c.args.known.now c.requires.kept c.requires.known (sym c.finder_slot.ensures ∙ c.in-Some.is))
    c.mate_in.ensures.none

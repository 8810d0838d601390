use Rattle.std.proofs.Common.{◌≡◌, List, ℕ, subst}
use Rattle.leastrun.specs.parts.Queues.{row}
use Rattle.leastrun.specs.parts.Waiting.{IsFirstMate, NoMateAmong}
use Rattle.leastrun.proofs.Entries.{on_some, on_none}
use Rattle.leastrun.proofs.Seeking.{least_in, none_in}
use Rattle.leastrun.proofs.lookup.mate_in.Goals as goal

same : (c : goal.After-first_mate) → c.in-Some.row.now.items ≡ row c.args.rows.now c.args.slot
same c = c.in-Some.ensures

pub returns-clause-some : goal.returns-clause-some
returns-clause-some c =
    on_some c.first_mate.result _ _
    (λ x found. least_in c.args.program.now c.args.state.now c.args.rows.now c.args.slot c.args.call x c.requires.order
    (subst (λ (z : List ℕ). IsFirstMate c.args.program.now c.args.state.now z c.args.call x) (same c) found))
    c.first_mate.ensures.some

pub returns-clause-none : goal.returns-clause-none
returns-clause-none c =
    on_none c.first_mate.result _ _
    (λ none. none_in c.args.program.now c.args.state.now c.args.rows.now c.args.slot c.args.call
    (subst (λ (z : List ℕ). NoMateAmong c.args.program.now c.args.state.now z c.args.call) (same c) none))
    c.first_mate.ensures.none

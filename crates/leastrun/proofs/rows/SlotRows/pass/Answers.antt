use Rattle.std.proofs.Common.{◌≡◌, [], refl, sym, ap, subst, ◌∙◌}
use Rattle.std.specs.Option.{IsSome}
use Rattle.std.specs.VecDeque.{deque_len}
use Rattle.std.proofs.lemmas.Bool.{eqb-true}
use Rattle.leastrun.specs.parts.Queues.{row_of, IsSkipped}
use Rattle.leastrun.proofs.Entries.{nothing}
use Rattle.leastrun.proofs.Queued.{passed_at}
use Rattle.leastrun.proofs.rows.SlotRows.pass.Goals as goal

pub returns-else-is_empty : goal.returns-else-is_empty
returns-else-is_empty c =
    let written = (c.get_mut.follows.holds c.skip.new.row).3 (subst IsSome c.in-Some.ensures.value refl) in
    passed_at c.args.state.now c.args.self.now _ c.args.slot c.in-Some.row.now.items c.skip.new.row.items
    (ap row_of (sym c.in-Some.ensures.value)) (ap row_of written.1) c.skip.ensures (λ q differ. ap row_of (written.2 q differ))

pub returns-then-is_empty : goal.returns-then-is_empty
returns-then-is_empty c =
    let written = (c.get_mut.follows.holds c.skip.new.row).3 (subst IsSome c.in-Some.ensures.value refl) in
    let none : c.skip.new.row.items ≡ [] = nothing c.skip.new.row.items (sym c.skip.new.row.ok.0 ∙ eqb-true (deque_len c.skip.new.row) 0 (sym c.is_empty.ensures ∙ c.if-is_empty.true)) in
    passed_at c.args.state.now c.args.self.now _ c.args.slot c.in-Some.row.now.items []
    (ap row_of (sym c.in-Some.ensures.value)) (ap row_of c.remove-row.ensures.updates.1) (subst (IsSkipped c.args.state.now c.in-Some.row.now.items) none c.skip.ensures)
    (λ q differ. ap row_of (c.remove-row.ensures.updates.2 q differ ∙ written.2 q differ))

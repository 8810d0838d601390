use Rattle.std.proofs.Common.{ap, sym, ◌∙◌, length, ◌==◌}
use Rattle.std.specs.List.{count_by}
use Rattle.pool.specs.declared.entry.Entry.{Entry}
use Rattle.crossbeam_utils.specs.Seq.{cell_view}
use Rattle.sharedpool.specs.Views.{items_of}
use Rattle.sharedpool.specs.parts.Seats.{Shared}
use Rattle.sharedpool.proofs.Legal.{counted}
use Rattle.sharedpool.proofs.locked.Locked.count_of.Goals as goal

pub returns : goal.returns
returns g c =
    let count = count_by (λ (e : Entry). e.worker == c.args.worker) in
    c.entries_of.ensures ∙ ap count (c.history.ensures.calls ∙ c.self.invariant.legal.entries)
    ∙ sym (counted c.args.worker (cell_view c.self.inside.keeper).all) ∙ ap (λ (s : Shared). length (items_of c.args.worker s.items)) c.self.view_is

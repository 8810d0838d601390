use Rattle.std.proofs.Common.{sym, ap, ◌∙◌}
use Rattle.crossbeam_utils.specs.Seq.{cell_view}
use Rattle.sharedpool.specs.declared.room.View.{View}
use Rattle.sharedpool.specs.parts.Seats.{Token}
use Rattle.sharedpool.proofs.note.note.Goals as goal

pub join-requires-clause-seat_of : goal.join-requires-clause-seat_of
join-requires-clause-seat_of g c =
    ap (λ (t : Token). t.table_id) c.replace-mine.ensures.value ∙ c.requires.seat_of ∙ sym (c.blank-empty.ensures.of ∙ c.requires.keeper_of)

pub add-requires-clause-keeps : goal.add-requires-clause-keeps
add-requires-clause-keeps g c =
    ap (λ (v : View). v.keeps) c.join.ensures.joined ∙ ap (λ (v : View). v.keeps) c.blank-empty.ensures.same ∙ c.requires.keeps

pub add-requires-clause-sits : goal.add-requires-clause-sits
add-requires-clause-sits g c =
    ap (λ (v : View). v.sits) c.join.ensures.joined ∙ ap (λ (t : Token). (cell_view t).sits) c.replace-mine.ensures.value ∙ c.requires.sits

pub add-requires-clause-worker : goal.add-requires-clause-worker
add-requires-clause-worker g c =
    ap (λ (v : View). v.worker) c.join.ensures.joined ∙ ap (λ (t : Token). (cell_view t).worker) c.replace-mine.ensures.value ∙ c.requires.worker

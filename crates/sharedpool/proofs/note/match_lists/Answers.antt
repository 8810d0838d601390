use Rattle.std.proofs.Common.{sym, ap, ◌∙◌}
use Rattle.crossbeam_utils.specs.Seq.{cell_view}
use Rattle.sharedpool.specs.declared.room.View.{View}
use Rattle.sharedpool.specs.parts.Seats.{Token}
use Rattle.sharedpool.proofs.note.match_lists.Goals as goal

pub join-requires-clause-seat_of : goal.join-requires-clause-seat_of
join-requires-clause-seat_of g c =
    ap (λ (t : Token). t.table_id) c.replace-mine.ensures.value ∙ c.requires.seat_of ∙ sym (c.blank-empty.ensures.of ∙ c.requires.keeper_of)

pub look-requires-clause-keeps : goal.look-requires-clause-keeps
look-requires-clause-keeps g c =
    ap (λ (v : View). v.keeps) c.join.ensures.joined ∙ ap (λ (v : View). v.keeps) c.blank-empty.ensures.same ∙ c.requires.keeps

pub look-requires-clause-sits : goal.look-requires-clause-sits
look-requires-clause-sits g c =
    ap (λ (v : View). v.sits) c.join.ensures.joined ∙ ap (λ (t : Token). (cell_view t).sits) c.replace-mine.ensures.value ∙ c.requires.sits

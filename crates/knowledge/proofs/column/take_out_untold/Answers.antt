use Rattle.std.proofs.Common.{◌≡◌, ◌<◌, List, Bool, true, false, sym, ◌∙◌, subst}
use Rattle.races.specs.Tells.{tells_issue}
use Rattle.knowledge.specs.parts.Knowledge.{CoversJustified, count_known}
use Rattle.knowledge.specs.Knowledge.{column_table, with_partners}
use Rattle.knowledge.proofs.Entries.{entry_of, fewer, still_covers}
use Rattle.knowledge.proofs.column.take_out_untold.Goals as goal

pub returns-clause-covers : goal.returns-clause-covers
returns-clause-covers c = λ covers.
    let untold = subst (λ (z : List Bool). tells_issue c.args.program.now (with_partners c.args.partners.now) (column_table c.args.finder z) c.args.call c.args.finder ≡ false) c.as_slice-2.ensures.value (sym c.tells_issue.ensures ∙ c.if-tells_issue.false) in
    subst (λ (z : List Bool). CoversJustified c.args.program.now (with_partners c.args.partners.now) c.args.finder z) (sym c.take_out.ensures)
    (still_covers c.args.program.now (with_partners c.args.partners.now) c.args.finder c.args.call c.args.known.now.items untold covers)

pub returns-clause-fewer : goal.returns-clause-fewer
returns-clause-fewer c = λ h.
    let known = subst (λ (z : List Bool). column_table c.args.finder z c.args.call c.args.finder ≡ true) c.as_slice.ensures.value (sym c.knows.ensures ∙ c.if-not-knows.false) in
    subst (λ (z : List Bool). count_known z < count_known c.args.known.now.items) (sym c.take_out.ensures)
    (fewer c.args.known.now.items c.args.call (entry_of c.args.finder c.args.known.now.items c.args.call known))

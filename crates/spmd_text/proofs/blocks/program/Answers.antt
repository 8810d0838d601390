use Rattle.std.proofs.Common.{ap, ◌∙◌}
use Rattle.spmd_text.specs.declared.parser.Parser.{Parser}
use Rattle.spmd_text.specs.parts.Programs.{is_all_read}
use Rattle.spmd_text.proofs.Made.{made_goes, made_sound}
use Rattle.spmd_text.proofs.Meeting.{sound_by}
use Rattle.spmd_text.proofs.TextLines.{text_tells}
use Rattle.spmd_text.proofs.WholeTexts.{text_read}
use Rattle.spmd_text.proofs.blocks.program.Goals as goal

pub returns-clause-reads : goal.returns-clause-reads
returns-clause-reads c unset unnamed outside =
    let one = c.heading-policy.ensures.reads in
    text_read unset unnamed outside one (c.parameters-heads.ensures.reads (one.goes.in_parameter ∙ unset)) c.statements-all.ensures.reads
    c.end_text.ensures.goes c.end_text.ensures.sound c.end_text.ensures.fits c.in_turn.ensures

pub returns-clause-ends : goal.returns-clause-ends
returns-clause-ends c sound =
    let m = made_sound c.in_turn.ensures sound in
    let e = c.end_text.ensures.sound (sound_by c.end_text.new.parser c.in_turn.new.parser (made_goes c.in_turn.ensures).sticks sound) in
    ap (λ (s : Parser). is_all_read s.rest.now) (m.0 ∙ e.0) ∙ e.1

pub returns-clause-line : goal.returns-clause-line
returns-clause-line c unset unnamed outside once =
    let one = c.heading-policy.ensures.reads in
    let kept = one.goes.in_parameter ∙ unset in
    let two = c.parameters-heads.ensures.reads kept in
    let three = c.statements-all.ensures.reads in
    text_tells unset unnamed outside once one c.heading-policy.ensures.line two
    (record { sticks = two.goes.sticks; stays = c.parameters-heads.ensures.stays kept; tells = λ block depth early. c.parameters-heads.ensures.line block depth early kept }) c.parameters-heads.ensures.ended three
    (record { sticks = three.goes.sticks; stays = c.statements-all.ensures.stays; tells = c.statements-all.ensures.line }) c.statements-all.ensures.ended
    (record { sticks = c.end_text.ensures.goes.sticks; stays = c.end_text.ensures.stays; tells = c.end_text.ensures.line }) c.in_turn.ensures

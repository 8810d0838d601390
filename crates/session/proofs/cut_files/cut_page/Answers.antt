-- Where messages may race, the program is cut.
use Rattle.std.proofs.Common.{◌∙◌, subst, sym}
use Rattle.files.specs.Contents.{AreAll}
use Rattle.session.proofs.CutPages.{race_page_cut}
use Rattle.session.proofs.cut_files.cut_page.Goals as goal

pub returns-then-is_race-clause-page : goal.returns-then-is_race-clause-page
returns-then-is_race-clause-page g c =
    let held = g.F.FileSet.held in
    let before = held c.args.files.now in
    race_page_cut g.F.FileSet.tells_written before _ (held c.written_page.new.files) c.args.asked.program.now c.args.asked.out.now c.deref.result.now c.deref-then-is_race.result.now
    c.decide-decision.result c.written_page.result c.in_ok-text.ensures.same (c.deref-then-is_race.ensures.value ∙ sym c.deref.ensures.value)
    (subst (AreAll (before c.args.asked.program.now)) (sym c.deref.ensures.value) c.in_ok-text.ensures.bytes) c.decide-decision.ensures
    (sym c.is_race.ensures ∙ c.if-is_race.true) c.written_page.ensures.page

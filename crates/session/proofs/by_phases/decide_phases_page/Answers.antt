-- Where messages may race, the page tells what phases show.
use Rattle.std.proofs.Common.{◌∙◌, option_map, subst, sym}
use Rattle.files.specs.Contents.{AreAll}
use Rattle.session.proofs.JoinedPages.{race_joined}
use Rattle.session.proofs.by_phases.decide_phases_page.Goals as goal

pub returns-then-is_race-clause-page : goal.returns-then-is_race-clause-page
returns-then-is_race-clause-page g c =
    let held = g.F.FileSet.held c.args.files.now in
    race_joined g.F.FileSet.tells_written held (g.F.FileSet.held c.read_whole.new.files) (g.F.FileSet.held c.phases_page.new.files) c.args.asked.program.now
    (option_map (λ path. path.now) c.args.asked.out) c.args.asked.json c.deref.result.now c.deref-then-is_race-2.result.now c.decide_text-decision.result c.phases_page.result
    c.in_ok-text.ensures.same (c.deref-then-is_race-2.ensures.value ∙ sym c.deref.ensures.value)
    (subst (AreAll (held c.args.asked.program.now)) (sym c.deref.ensures.value) c.in_ok-text.ensures.bytes) c.decide_text-decision.ensures.decided
    (sym c.is_race.ensures ∙ c.if-is_race.true) c.phases_page.ensures.page

-- The files are those of the cut.
use Rattle.std.proofs.Common.{List, subst, sym, ℕ}
use Rattle.session.specs.parts.Phasing.{ArePathsApart, IsPageOf, files_of}
use Rattle.session.specs.Phasing.{ChangesThese, Hold}
use Rattle.session.specs.declared.cut_files.Output.{Output}
use Rattle.session.proofs.CutPages.{files_apart, files_within, is_written}
use Rattle.session.proofs.cut_files.written_page.Goals as goal

pub write_all-requires : goal.write_all-requires
write_all-requires g c =
    subst (λ (outputs : List Output). ArePathsApart (files_of outputs)) (sym c.deref-2.ensures.value)
    (files_apart c.args.folder.now c.in_ok-phases.phases c.in_ok-outputs.outputs c.in_ok-outputs.ensures)

pub returns-in_err-write_all-clause-within : goal.returns-in_err-write_all-clause-within
returns-in_err-write_all-clause-within g c =
    let held = g.F.FileSet.held in
    files_within c.args.folder.now c.in_ok-phases.phases c.in_ok-outputs.outputs c.in_ok-outputs.ensures (held c.args.files.now) (held c.write_all.new.files)
    (subst (λ (outputs : List Output). ChangesThese (files_of outputs) (held c.args.files.now) (held c.write_all.new.files)) c.deref-2.ensures.value c.write_all.ensures.others)

pub returns-clause-page : goal.returns-clause-page
returns-clause-page g c =
    let held = g.F.FileSet.held in
    let new = held c.write_all.new.files in
    is_written g.F.FileSet.tells_written (held c.args.files.now) new c.args.folder.now c.in_ok-phases.phases c.in_ok-outputs.outputs c.args.text.now _ _ _ _ c.in_ok-outputs.ensures
    c.in-Ok.ensures.program c.in_ok-make_up.ensures c.in_ok-told.ensures
    (subst (λ (told : List ℕ). IsPageOf c.in_ok-outputs.outputs told c.in_ok-page.page.text.items c.in_ok-page.page.status) c.deref.ensures c.in_ok-page.ensures)
    (λ tells. subst (λ (outputs : List Output). Hold (files_of outputs) new) c.deref-2.ensures.value (c.in_ok-write_all.ensures.held tells))
    (subst (λ (outputs : List Output). ChangesThese (files_of outputs) (held c.args.files.now) new) c.deref-2.ensures.value c.write_all.ensures.others)

pub returns-clause-within : goal.returns-clause-within
returns-clause-within g c =
    let held = g.F.FileSet.held in
    files_within c.args.folder.now c.in_ok-phases.phases c.in_ok-outputs.outputs c.in_ok-outputs.ensures (held c.args.files.now) (held c.write_all.new.files)
    (subst (λ (outputs : List Output). ChangesThese (files_of outputs) (held c.args.files.now) (held c.write_all.new.files)) c.deref-2.ensures.value c.write_all.ensures.others)

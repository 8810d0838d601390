-- The formula is the whole program's.
use Rattle.std.proofs.Common.{inl, inr, subst, sym}
use Rattle.session.specs.parts.Texts.{AreAlikePrograms, StandsFor}
use Rattle.session.proofs.WholeAnswers.{whole_formula, whole_no_formula}
use Rattle.session.proofs.commands.encode_page.Goals as goal

pub returns-in-Ok-clause-page : goal.returns-in-Ok-clause-page
returns-in-Ok-clause-page g c =
    let read = c.deref.result.now in
    let (whole, all, alike) = subst (StandsFor AreAlikePrograms _) (sym c.deref.ensures.value) c.in_ok-program.ensures.bytes in
    (whole, all, inl (whole_formula c.args.asked.dimacs read whole c.in-Ok.text.items alike c.in-Ok.ensures.text, c.status-status.ensures))

pub returns-clause-page : goal.returns-clause-page
returns-clause-page g c =
    let read = c.deref.result.now in
    let (whole, all, alike) = subst (StandsFor AreAlikePrograms _) (sym c.deref.ensures.value) c.in_ok-program.ensures.bytes in
    (whole, all, inr (c.in-Err.reason, whole_no_formula read whole c.in-Err.reason alike c.in-Err.ensures.reason, c.in_ok-page_of-in-Err.ensures))

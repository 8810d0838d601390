use Rattle.std.proofs.Common.{◌∙◌, Some, ap, sym, subst, ℕ, List}
use Rattle.std.proofs.lemmas.Option.{slice_get-get_or}
use Rattle.calltext.specs.Grammar.{long}
use Rattle.callorder.specs.Resolving.{IsTextOfWithin}
use Rattle.session.proofs.MadeUp.{all_programs, one_program_more}
use Rattle.session.proofs.making_up.programs_of.Goals as goal

pub loop-text-preserved : goal.loop-text-preserved
loop-text-preserved c =
    one_program_more c.args.texts.now c.loop-text.text-index c.loop-text.programs.items c.push.new.self.items c.text-item.result c.in-Ok.program
    c.loop-text.invariant
    (slice_get-get_or c.args.texts.now c.loop-text.text-index c.text-item.result c.loop-text-test.true ∙ ap Some (sym c.text-item.is)) (subst (λ (t : List ℕ). IsTextOfWithin long t c.in-Ok.program) c.deref.ensures.value c.in-Ok.ensures.program) c.in_ok-push.ensures.items

pub returns : goal.returns
returns c = all_programs c.args.texts.now c.loop-text.text-index c.loop-text.programs.items c.loop-text-test.false c.loop-text.invariant

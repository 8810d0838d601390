use Rattle.std.proofs.Common.{◌≡◌, ℕ, List, ◌++◌, subst, sym, ap, ◌∙◌}
use Rattle.std.specs.Result.{OnOk}
use Rattle.std.specs.List.{flat_map}
use Rattle.prooflog.specs.parts.Reading.{lines_text, portion_text}
use Rattle.prooflog.proofs.PortionTexts.{portions_text}
use Rattle.prooflog.proofs.portions.put_portions.Goals as goal

pub returns : goal.returns
returns g c =
    let portions = c.in_ok-portions.portions in
    let parts = c.in_ok-parts.parts in
    let texts : flat_map portion_text parts.items ≡ lines_text c.args.lines.items =
    portions_text (λ portion. portion.items) portion_text portions.items parts.items (sym parts.ok.0 ∙ c.in_ok-parts.ensures.len ∙ portions.ok.0)
    (λ i d e lt. let at = (c.in_ok-parts.ensures.each i e lt).1 in at.call.met ∙ ap (λ portion. lines_text portion.items) (sym (at.job_is d)))
    ∙ ap lines_text c.in_ok-portions.ensures in
    subst (λ (t : List ℕ). OnOk c.put_parts.result (c.put_parts.new.out ≡ c.args.out.now ++ t)) texts c.put_parts.ensures

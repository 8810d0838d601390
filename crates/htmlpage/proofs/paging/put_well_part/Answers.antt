use Rattle.std.proofs.Common.{◌≡◌, ◌∙◌, ◌++◌, codes, ℕ, List, Option, inr, refl, sym, subst, append_assoc}
use Rattle.std.specs.Borrow.{Bor}
use Rattle.std.specs.Prelude.{IfSome, option_copied}
use Rattle.semantics.specs.declared.state.Step.{Step}
use Rattle.semantics.specs.RunEnds.{IsFinishedRun}
use Rattle.htmlpage.specs.Page.{IsWellPart}
use Rattle.htmlpage.proofs.paging.put_well_part.Goals as goal

pub picture-requires : goal.picture-requires
picture-requires c =
    inr (subst (λ (well : Option (Bor (List Step))). IfSome (option_copied well) (IsFinishedRun c.args.program.now)) c.in-Some.is c.requires)

pub returns : goal.returns
returns c =
    let old : List ℕ = c.args.out.now.items in
    let new : List ℕ = c.extend_from_slice.new.self.items in
    let heading : List ℕ = codes "</div>\n<h2>A run that ends well</h2>\n<div class=\"timeline\">\n" in
    let drawn : List ℕ = c.in_ok-drawn.drawn.items in
    let added : new ≡ old ++ (heading ++ drawn) = c.in_ok-extend_from_slice.ensures.items ∙ (λ i. c.in_ok-put_text.ensures i ++ c.deref.ensures.value i) ∙ append_assoc old heading drawn in
    subst (λ (well : Option (Bor (List Step))). (part : List ℕ) × IsWellPart c.args.text.now c.args.source.now c.args.program.now (option_copied well) part × (new ≡ old ++ part)) (sym c.in-Some.is)
    (heading ++ drawn, (drawn, c.in_ok-drawn.ensures, refl), added)

-- The page has the places of the map that was read.
use Rattle.std.proofs.Common.{◌≡◌, ◌∙◌, inr, subst, sym, List, ℕ, Option, option_map}
use Rattle.files.specs.Contents.{AreAll}
use Rattle.session.specs.Explaining.{IsExplainPage}
use Rattle.session.proofs.mapped.placed_page.Goals as goal

pub returns-clause-page : goal.returns-clause-page
returns-clause-page g c =
    let held = g.F.FileSet.held in
    let old = held c.args.files.now in
    let evidence = option_map (λ path. path.now) c.args.asked.evidence in
    let same : held c.read_whole-2.new.files ≡ old = c.in_ok-text.ensures.same ∙ c.in_ok-bytes.ensures.same in
    let plain = c.in_ok-page-in-Ok.page in
    let map = c.deref.result.now in (
      c.deref-2.result.now,
      map,
      subst (AreAll (old c.args.asked.program.now)) (sym c.deref-2.ensures.value)
          (subst (λ (h : List ℕ → Option (List ℕ)). AreAll (h c.args.asked.program.now) c.in_ok-text.text.items) c.in_ok-bytes.ensures.same c.in_ok-text.ensures.bytes),
      subst (AreAll (old c.args.map.now)) (sym c.deref.ensures.value) c.in_ok-bytes.ensures.bytes,
      inr (
        c.in-Ok.ensures.whole,
        (
          plain.text.items,
          subst (λ (s : ℕ). IsExplainPage old c.args.asked.program.now evidence c.args.asked.options.budget c.args.asked.form plain.text.items s)
              (sym c.in_ok-woven_page-in-Ok.ensures.status)
              (subst (λ (h : List ℕ → Option (List ℕ)). IsExplainPage h c.args.asked.program.now evidence c.args.asked.options.budget c.args.asked.form plain.text.items plain.status) same
              c.in_ok-page-in-Ok.ensures.page),
          c.in_ok-woven_page-in-Ok.ensures.text map c.in-Ok.ensures.places,
        ),
      ),
    )

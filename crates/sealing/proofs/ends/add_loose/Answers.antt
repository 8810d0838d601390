use Rattle.std.proofs.Common.{ℕ, Bool, List, Option, sym, subst}
use Rattle.knowledge.specs.Knowledge.{with_partners}
use Rattle.sealing.specs.parts.Ends.{GainsEntries, IsUntoldBelow}
use Rattle.sealing.proofs.Untold.{IsAllTold, no_finder_more, finder_more}
use Rattle.sealing.proofs.ends.add_loose.Goals as goal

pub returns-in_default : goal.returns-in_default
returns-in_default c = no_finder_more c.args.program.now c.args.place c.args.loose.now.items (sym c.in_default.ensures)

pub returns : goal.returns
returns c =
    let p = c.args.program.now in
    let place = c.args.place in
    let findings = c.args.findings.now in
    let known = c.in_ok-known.known.items in
    let finder = c.in-Some.finder in
    let old = c.args.loose.now.items in
    let new = c.add_untold.new.loose.items in
    let told : IsAllTold p (with_partners findings.partners.items) place known =
    subst (λ (z : List (Option ℕ)). IsAllTold p (with_partners z) place known) c.as_slice.ensures.value
    (record { justified = c.in_ok-known.ensures.justified; greatest = c.in_ok-known.ensures.greatest }) in
    let adds : GainsEntries old new (IsUntoldBelow p findings known finder p.ranks) =
    subst (λ (z : List Bool). GainsEntries old new (IsUntoldBelow p findings z finder p.ranks)) c.as_slice-3.ensures.value c.in_ok-add_untold.ensures in
    finder_more p findings known place finder c.requires told (sym c.in-Some.ensures) old new adds

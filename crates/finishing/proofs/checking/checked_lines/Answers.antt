use Rattle.std.proofs.Common.{List, Option, IfSome, sym, ◌∙◌, subst}
use Rattle.refutations.specs.Derivations.{Derives}
use Rattle.refutations.specs.Proofs.{ProofLine}
use Rattle.refutations.specs.Refutations.{AreDerived}
use Rattle.finishing.proofs.Growing.{derived_push}
use Rattle.finishing.proofs.checking.checked_lines.Goals as goal

pub loop-line-preserved : goal.loop-line-preserved
loop-line-preserved c =
    let f = c.args.formula.now in
    let line = c.in-Some-checked.line in
    let told : Derives f c.as_slice.result.now line = subst (λ (found : Option ProofLine). IfSome found (Derives f c.as_slice.result.now)) c.in-Some-checked.is c.in_ok-checked.ensures.derived in
    let derived : Derives f c.loop-line.lines.items line = subst (λ (earlier : List ProofLine). Derives f earlier line) c.as_slice.ensures.value told in
    record {
      size = c.checked_line.ensures.size ∙ c.loop-line.invariant.size;
      derived = subst (AreDerived f) (sym c.in_ok-push.ensures.items) (derived_push f c.loop-line.lines.items line c.loop-line.invariant.derived derived);
    }

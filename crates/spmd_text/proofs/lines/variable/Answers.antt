use Rattle.std.proofs.Common.{◌≡◌, ℕ, true, refl, ap, sym, ◌∙◌}
use Rattle.spmd_text.specs.parts.Statements.{scope_of}
use Rattle.spmd_text.specs.Statements.{Scope, may_give}
use Rattle.spmd_text.proofs.Parts.{keeps_of, reads_as, reads_then}
use Rattle.spmd_text.proofs.Scopes.{reads_checked, scope_same}
use Rattle.spmd_text.proofs.StatementForms.{variable_as}
use Rattle.spmd_text.proofs.lines.variable.Goals as goal

pub returns : goal.returns
returns c =
    let one = c.name-name.ensures.reads in
    let k : ℕ = c.name-name.result in
    let scope = scope_same one.goes in
    let may = λ (j : ℕ). may_give (scope_of c.args.parser.now) j ≡ true in
    let refused = c.refuse_fixed.ensures in
    let two = reads_checked may one (λ x same fits. ap (λ (j : ℕ). may_give (scope_of c.args.parser.now) j) same ∙ fits) (keeps_of refused.goes)
    (λ sound. let s = refused.sound sound in (s.0, ap (λ (z : Scope). may_give z k) (sym scope) ∙ s.1))
    (λ fits. refused.fits (ap (λ (z : Scope). may_give z k) scope ∙ fits)) in
    reads_as (variable_as c.args.parser.now k) (reads_then (λ y. refl) (λ y here rest m e ends. refl) two (c.expect.ensures.reads refl))

use Rattle.std.proofs.Common.{◌≡◌, ℕ, arith, false, ap, sym, ◌∙◌}
use Rattle.spmd_text.specs.Statements.{is_one_of}
use Rattle.spmd_text.proofs.Made.{made_goes}
use Rattle.spmd_text.proofs.Meeting.{adds_grows}
use Rattle.spmd_text.proofs.ParameterForms.{parameter_kept, parameter_read}
use Rattle.spmd_text.proofs.Parts.{keeps_of}
use Rattle.spmd_text.proofs.Scopes.{reads_checked}
use Rattle.spmd_text.proofs.lines.parameter.Goals as goal

pub returns-clause-reads : goal.returns-clause-reads
returns-clause-reads c unset =
    let one = c.name-name.ensures.reads in
    let k : ℕ = c.name-name.result in
    let refused = c.refuse_repeated.ensures in
    let named = reads_checked (λ j. is_one_of c.args.parser.now.parameters.items j ≡ false) one (λ x same fits. ap (is_one_of c.args.parser.now.parameters.items) same ∙ fits) (keeps_of refused.goes)
    (λ sound. let s = refused.sound sound in (s.0, ap (λ l. is_one_of l k) (sym one.goes.parameters) ∙ s.1))
    (λ fits. refused.fits (ap (λ l. is_one_of l k) one.goes.parameters ∙ fits)) in
    let kept = adds_grows c.refuse_repeated.new.parser c.keep_parameter.new.parser k c.keep_parameter.ensures in
    parameter_kept
    (parameter_read c.args.line k c.otherwise-otherwise.result named c.keep_parameter.ensures
    (c.otherwise-otherwise.ensures.reads (kept.in_parameter ∙ (named.goes.in_parameter ∙ unset))) c.end_line.ensures) c.keep.ensures

pub returns-clause-shorter : goal.returns-clause-shorter
returns-clause-shorter c =
    let added = adds_grows c.refuse_repeated.new.parser c.keep_parameter.new.parser c.name-name.result c.keep_parameter.ensures in
    omega (arith, c.name-name.ensures.goes.shorter, c.refuse_repeated.ensures.goes.shorter, added.shorter, c.otherwise-otherwise.ensures.shorter, c.end_line.ensures.goes.shorter, (made_goes c.keep.ensures).shorter)

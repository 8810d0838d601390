use Rattle.std.proofs.Common.{refl, sym, subst}
use Rattle.spmd_text.specs.declared.piece.Word.{Word}
use Rattle.spmd_text.specs.declared.piece.Word.TheVariants as word
use Rattle.spmd_text.specs.parts.Parts.{HasRead}
use Rattle.spmd_text.specs.parts.Statements.{begun_part, held, scope_of}
use Rattle.spmd_text.proofs.Scopes.{refused_read}
use Rattle.spmd_text.proofs.StatementForms.{no_form}
use Rattle.spmd_text.proofs.Starts.{simple_call}
use Rattle.spmd_text.proofs.lines.simple.Goals as goal

pub returns-in-Let : goal.returns-in-Let
returns-in-Let c depth simple =
    subst (λ (w : Word). HasRead (begun_part (scope_of c.args.parser.now) depth c.args.line w) c.args.parser.now c.assign.new.parser (held c.assign.result)) (sym c.in-Let.is) (c.assign.ensures depth)

pub returns-in-Error : goal.returns-in-Error
returns-in-Error c depth simple =
    subst (λ (w : Word). HasRead (begun_part (scope_of c.args.parser.now) depth c.args.line w) c.args.parser.now c.unreached.new.parser (held c.unreached.result)) (sym c.in-Error.is) (c.unreached.ensures depth)

pub returns-in-Waitall : goal.returns-in-Waitall
returns-in-Waitall c depth simple =
    subst (λ (w : Word). HasRead (begun_part (scope_of c.args.parser.now) depth c.args.line w) c.args.parser.now c.wait_all.new.parser (held c.wait_all.result)) (sym c.in-Waitall.is) (c.wait_all.ensures depth)

pub returns-in-Param : goal.returns-in-Param
returns-in-Param c depth simple =
    subst (λ (w : Word). HasRead (begun_part (scope_of c.args.parser.now) depth c.args.line w) c.args.parser.now c.refuse.new.parser (held c.refuse.result)) (sym c.in-Param.is)
    (refused_read _ c.refuse.ensures (λ x rest sound e may ends. no_form c.args.parser.now depth c.args.line word.Param x refl refl may))

pub returns-in-Policy : goal.returns-in-Policy
returns-in-Policy c depth simple =
    subst (λ (w : Word). HasRead (begun_part (scope_of c.args.parser.now) depth c.args.line w) c.args.parser.now c.refuse-in-Policy.new.parser (held c.refuse-in-Policy.result)) (sym c.in-Policy.is)
    (refused_read _ c.refuse-in-Policy.ensures (λ x rest sound e may ends. no_form c.args.parser.now depth c.args.line word.Policy x refl refl may))

pub returns-in_default : goal.returns-in_default
returns-in_default c depth simple =
    c.call.ensures depth (simple_call c.args.word simple c.in_default.not-Let c.in_default.not-Error c.in_default.not-Waitall)

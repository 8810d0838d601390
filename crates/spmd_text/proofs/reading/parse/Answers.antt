use Rattle.std.proofs.Common.{List, Option, arith, ℕ, ap, false, sym, subst, ◌≡◌, ◌∙◌, ◌++◌}
use Rattle.std.specs.Option.{IfSome}
use Rattle.spmd_text.specs.declared.fault.ParseFault.{ParseFault}
use Rattle.spmd_text.specs.FirstFaults.{IsFirstWrongLine, AreReadablePieces}
use Rattle.spmd_text.specs.parts.Lines.{IsEnded}
use Rattle.spmd_text.specs.Programs.{SaysProgram, parameters_of}
use Rattle.spmd_text.specs.parts.Statements.{held}
use Rattle.spmd_text.specs.Texts.{HasTextFault, is_memory_reason}
use Rattle.spmd_text.proofs.Readings.{fault_told, text_of}
use Rattle.spmd_text.proofs.reading.parse.Goals as goal

pub returns-in-Some-clause-fault : goal.returns-in-Some-clause-fault
returns-in-Some-clause-fault c =
    let never = subst (λ (o : Option ParseFault). IfSome o (λ fault. is_memory_reason fault.reason ≡ false → AreReadablePieces c.in-Ok.found.names.items c.in-Ok.found.tokens.items → ⊥)) c.in-Some.is c.read-policy.ensures.told in
    let first = subst (λ (o : Option ParseFault). IfSome o (λ fault. is_memory_reason fault.reason ≡ false → IsEnded c.in-Ok.found.tokens.items → IsFirstWrongLine c.in-Ok.found.names.items c.in-Ok.found.tokens.items fault.line)) c.in-Some.is c.read-policy.ensures.first in
    subst (HasTextFault c.args.bytes.now) (sym c.grammar_fault.ensures)
    (fault_told c.args.bytes.now c.in-Ok.found c.in-Some.fault (omega (arith, c.if-bytes-gt65536.false)) c.in-Ok.ensures never first)

pub returns-clause-text : goal.returns-clause-text
returns-clause-text c =
    let kept = ap held c.in-Some-statements.is ∙ sym c.into_inner.ensures in
    text_of c.args.bytes.now c.in-Ok.found c.read-policy.result.policy c.into_inner.result c.put_parameters.new.out (omega (arith, c.if-bytes-gt65536.false)) c.in-Ok.ensures
    (subst (SaysProgram c.in-Ok.found.names.items c.in-Ok.found.tokens.items c.read-policy.result.policy) kept (c.read-policy.ensures.said c.in_default.is))
    (c.in-Ok-put_parameters.ensures
    ∙ (ap (λ (l : List ℕ). l ++ parameters_of c.deref.result.now) c.new-parameters.ensures.items ∙ ap parameters_of (c.deref.ensures ∙ sym c.into_inner.ensures)))

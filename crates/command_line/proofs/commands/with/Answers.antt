use Rattle.std.proofs.Common.{IfOk, subst}
use Rattle.std.proofs.lemmas.Result.{IfOk-weaker}
use Rattle.command_line.specs.CommandLine.{IsShapedAs}
use Rattle.command_line.proofs.CommandLines.{shaped_arg}
use Rattle.command_line.proofs.commands.with.Goals as goal

pub returns : goal.returns
returns c = λ app rule whole is.
    let shaped = subst (λ r. IfOk r (λ d. IsShapedAs d app)) c.in_ok-whole.was whole in
    IfOk-weaker c.arg.result _ _ (λ r adds. shaped_arg _ _ _ app rule shaped is adds) c.arg.ensures

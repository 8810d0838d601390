use Rattle.std.proofs.Common.{IfOk, subst}
use Rattle.std.proofs.lemmas.Result.{IfOk-weaker}
use Rattle.command_line.specs.CommandLine.{IsShapedAs}
use Rattle.command_line.proofs.CommandLines.{shaped_subcommand}
use Rattle.command_line.proofs.commands.under.Goals as goal

pub returns : goal.returns
returns c = λ app sub whole below.
    let shaped = subst (λ r. IfOk r (λ d. IsShapedAs d app)) c.in_ok-whole.was whole in
    let lower = subst (λ r. IfOk r (λ d. IsShapedAs d sub)) c.in_ok-below.was below in
    IfOk-weaker c.subcommand.result _ _ (λ r adds. shaped_subcommand _ _ _ app sub shaped lower adds) c.subcommand.ensures

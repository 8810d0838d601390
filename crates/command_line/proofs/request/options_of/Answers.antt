use Rattle.std.proofs.Common.{sym, codes}
use Rattle.std.proofs.lemmas.Option.{IfSome_then}
use Rattle.command_line.proofs.CommandLines.{number_by_rows}
use Rattle.command_line.proofs.request.options_of.Goals as goal

pub returns-clause-workers : goal.returns-clause-workers
returns-clause-workers c =
    IfSome_then c.make.result c.make.ensures.given
    (λ options is. number_by_rows c.args.matches.now (codes "workers") _ _ _ (sym is.0) c.in_ok-workers.was c.get_one.ensures.none c.get_one.ensures.value)

pub returns-clause-depth : goal.returns-clause-depth
returns-clause-depth c =
    IfSome_then c.make.result c.make.ensures.given
    (λ options is. number_by_rows c.args.matches.now (codes "depth") _ _ _ (sym is.1) c.in_ok-depth.was c.get_one-2.ensures.none c.get_one-2.ensures.value)

pub returns-clause-budget : goal.returns-clause-budget
returns-clause-budget c =
    IfSome_then c.make.result c.make.ensures.given
    (λ options is. number_by_rows c.args.matches.now (codes "budget") _ _ _ (sym is.2) c.in_ok-budget.was c.get_one-3.ensures.none c.get_one-3.ensures.value)

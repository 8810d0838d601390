use Rattle.std.proofs.Common.{◌≡◌, Option, Some, None, codes}
use Rattle.std.specs.Prelude.{IfSome}
use Rattle.std.specs.Borrow.{Bor}
use Rattle.clap.specs.Words.{Text}
use Rattle.command_line.specs.Requests.{path_of}
use Rattle.command_line.proofs.CommandLines.{given_by_rows}
use Rattle.command_line.proofs.request.color_below.Goals as goal

where_given : (given : Option (Bor Text)) (first : Option Text) → first ≡ path_of given → IfSome given (λ (when : Bor Text). first ≡ Some when.now)
where_given None first e = tt
where_given (Some when) first e = e

pub returns : goal.returns
returns c = where_given c.get_str.result _ (given_by_rows c.args.subcommand.1.now (codes "color") c.get_str.result c.get_str.ensures)

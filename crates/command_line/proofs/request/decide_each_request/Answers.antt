use Rattle.std.proofs.Common.{refl, sym}
use Rattle.command_line.proofs.CommandLines.{given_by_rows}
use Rattle.command_line.proofs.request.decide_each_request.Goals as goal

pub returns : goal.returns
returns c = record {
  command = refl;
  values = (sym c.in_ok-programs.ensures, given_by_rows c.args.matches.now _ c.get_str.result c.get_str.ensures, c.is_beside_several-beside.ensures, c.is_set.ensures, c.requires);
}

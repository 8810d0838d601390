use Rattle.std.proofs.Common.{refl}
use Rattle.command_line.proofs.CommandLines.{path_by_rows}
use Rattle.command_line.proofs.request.phases_request.Goals as goal

pub returns : goal.returns
returns c =
    let m = c.args.matches.now in
    record {
      command = refl;
      values = (
        path_by_rows m _ c.get_str.result _ c.get_str.ensures c.in_ok-get_str.was,
        path_by_rows m _ c.get_str-2.result _ c.get_str-2.ensures c.in_ok-get_str-2.was,
      );
    }

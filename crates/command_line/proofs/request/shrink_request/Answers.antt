use Rattle.std.proofs.Common.{refl}
use Rattle.command_line.proofs.CommandLines.{given_by_rows, path_by_rows}
use Rattle.command_line.proofs.request.shrink_request.Goals as goal

pub returns : goal.returns
returns c =
    let m = c.args.matches.now in
    record {
      command = refl;
      values = (
        path_by_rows m _ c.get_str.result _ c.get_str.ensures c.in_ok-get_str.was,
        given_by_rows m _ c.get_str-2.result c.get_str-2.ensures,
        given_by_rows m _ c.get_str-3.result c.get_str-3.ensures,
      );
    }

use Rattle.std.proofs.Common.{sym, refl, codes}
use Rattle.command_line.proofs.CommandLines.{number_by_rows, path_by_rows}
use Rattle.command_line.proofs.request.check_request.Goals as goal

pub returns : goal.returns
returns c =
    let m = c.args.matches.now in
    record {
      command = refl;
      values = (
        path_by_rows m _ c.get_str.result _ c.get_str.ensures c.in_ok-program.was,
        path_by_rows m _ c.get_str-2.result _ c.get_str-2.ensures c.in_ok-get_str.was,
        number_by_rows m (codes "pieces") _ _ _ (sym c.in_ok-make.ensures.given) c.in_ok-pieces.was c.get_one.ensures.none c.get_one.ensures.value,
        c.is_set.ensures,
      );
    }

use Rattle.std.proofs.Common.{sym, refl, codes}
use Rattle.command_line.proofs.CommandLines.{given_by_rows, number_by_rows, path_by_rows}
use Rattle.command_line.proofs.request.unroll_request.Goals as goal

pub returns : goal.returns
returns c =
    let m = c.args.matches.now in
    record {
      command = refl;
      values = (
        path_by_rows m _ c.get_str.result _ c.get_str.ensures c.in_ok-get_str.was,
        number_by_rows m (codes "ranks") _ _ _ refl c.in_ok-ranks.was c.get_one.ensures.none c.get_one.ensures.value,
        sym c.in_ok-settings.ensures,
        given_by_rows m _ c.get_str-2.result c.get_str-2.ensures,
        given_by_rows m _ c.get_str-3.result c.get_str-3.ensures,
        given_by_rows m _ c.get_str-4.result c.get_str-4.ensures,
      );
    }

use Rattle.std.proofs.Common.{refl}
use Rattle.command_line.proofs.CommandLines.{given_by_rows}
use Rattle.command_line.proofs.request.decide_phases_request.Goals as goal

pub returns : goal.returns
returns c =
    let m = c.args.matches.now in
    record {
      command = refl;
      values = (
        c.requires.program,
        given_by_rows m _ c.get_str.result c.get_str.ensures,
        c.is_set.ensures,
        c.is_set-2.ensures,
        c.requires.text,
        c.requires.one,
        c.requires.phases,
      );
    }

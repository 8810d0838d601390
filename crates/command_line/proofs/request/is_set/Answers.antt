use Rattle.std.proofs.Common.{◌∙◌, ap, sym, Bool, false, Option}
use Rattle.std.specs.Prelude.{unwrap_or}
use Rattle.command_line.proofs.CommandLines.{flag_by_rows}
use Rattle.command_line.proofs.request.is_set.Goals as goal

pub returns-in-Some : goal.returns-in-Some
returns-in-Some c =
    ap (λ (o : Option Bool). unwrap_or o false) (sym c.in-Some.is)
    ∙ flag_by_rows _ c.args.matches.now c.args.flag.now c.get_one.result c.get_one.ensures.none c.get_one.ensures.value

pub returns-in-None : goal.returns-in-None
returns-in-None c =
    ap (λ (o : Option Bool). unwrap_or o false) (sym c.in-None.is)
    ∙ flag_by_rows _ c.args.matches.now c.args.flag.now c.get_one.result c.get_one.ensures.none c.get_one.ensures.value

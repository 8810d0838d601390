use Rattle.std.proofs.Common.{◌∙◌, ap, sym, Bool, codes}
use Rattle.std.specs.Prelude.{◌||◌, is_some}
use Rattle.clap.specs.Words.{first_of, found_of, rows_of}
use Rattle.command_line.proofs.CommandLines.{is_given_by_rows}
use Rattle.command_line.proofs.request.are_several.Goals as goal

pub returns-else-has_two : goal.returns-else-has_two
returns-else-has_two c =
    let m = c.args.matches.now in
    c.is_some.ensures ∙ is_given_by_rows m (codes "junit") c.get_str.result c.get_str.ensures
    ∙ sym (ap (λ (b : Bool). b || is_some (first_of (codes "junit") (rows_of (found_of m)))) (sym c.has_two.ensures ∙ c.if-has_two.false))

use Rattle.std.proofs.Common.{◌∙◌, ap, sym, Bool, codes}
use Rattle.std.specs.Prelude.{◌||◌, not}
use Rattle.clap.specs.Words.{found_of, rows_of}
use Rattle.command_line.specs.Requests.{form_in, is_of_several}
use Rattle.command_line.proofs.CommandLines.{is_given_by_rows}
use Rattle.command_line.proofs.request.is_for_one.Goals as goal

pub returns-then-is_some : goal.returns-then-is_some
returns-then-is_some c =
    let m = c.args.matches.now in
    let given = sym (is_given_by_rows m (codes "map") c.get_str.result c.get_str.ensures) in
    c.if-is_some.true ∙ sym (ap (λ (b : Bool). b || not (is_of_several (form_in (rows_of (found_of m))))) (given ∙ sym c.is_some.ensures ∙ c.if-is_some.true))

pub returns-else-is_some : goal.returns-else-is_some
returns-else-is_some c =
    let m = c.args.matches.now in
    let given = sym (is_given_by_rows m (codes "map") c.get_str.result c.get_str.ensures) in
    ap not (c.is_of_several.ensures ∙ ap is_of_several c.form_of.ensures)
    ∙ sym (ap (λ (b : Bool). b || not (is_of_several (form_in (rows_of (found_of m))))) (given ∙ sym c.is_some.ensures ∙ c.if-is_some.false))

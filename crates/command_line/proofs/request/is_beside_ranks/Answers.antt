use Rattle.std.proofs.Common.{◌∙◌, ap, sym, Bool, codes}
use Rattle.std.specs.Prelude.{◌||◌}
use Rattle.clap.specs.Words.{found_of, one_of, rows_of}
use Rattle.command_line.specs.Requests.{is_true}
use Rattle.command_line.proofs.CommandLines.{is_given_by_rows}
use Rattle.command_line.proofs.request.is_beside_ranks.Goals as goal

pub returns-then-is_some : goal.returns-then-is_some
returns-then-is_some c =
    let m = c.args.matches.now in
    let given = sym (is_given_by_rows m (codes "out") c.get_str.result c.get_str.ensures) in
    c.if-is_some.true ∙ sym (ap (λ (b : Bool). b || (is_true (one_of (codes "progress") (rows_of (found_of m))) || is_true (one_of (codes "phases") (rows_of (found_of m))))) (given ∙ sym c.is_some.ensures ∙ c.if-is_some.true))

pub returns-else-is_some : goal.returns-else-is_some
returns-else-is_some c =
    let m = c.args.matches.now in
    let given = sym (is_given_by_rows m (codes "out") c.get_str.result c.get_str.ensures) in
    c.is_one_told.ensures ∙ sym (ap (λ (b : Bool). b || (is_true (one_of (codes "progress") (rows_of (found_of m))) || is_true (one_of (codes "phases") (rows_of (found_of m))))) (given ∙ sym c.is_some.ensures ∙ c.if-is_some.false))

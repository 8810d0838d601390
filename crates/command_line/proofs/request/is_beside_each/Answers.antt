use Rattle.std.proofs.Common.{◌∙◌, ap, sym, Bool, codes}
use Rattle.std.specs.Prelude.{◌||◌}
use Rattle.clap.specs.Words.{found_of, rows_of}
use Rattle.command_line.specs.Requests.{is_for_one}
use Rattle.command_line.proofs.CommandLines.{given_by_rows}
use Rattle.command_line.proofs.request.is_beside_each.Goals as goal

pub returns-then-is_spmd_asked : goal.returns-then-is_spmd_asked
returns-then-is_spmd_asked c =
    let m = c.args.matches.now in
    let rows = rows_of (found_of m) in
    let asked = c.is_spmd_asked.ensures rows (given_by_rows m (codes "ranks") c.get_str.result c.get_str.ensures) c.requires (given_by_rows m (codes "collectives") c.get_str-2.result c.get_str-2.ensures) in
    sym (ap (λ (b : Bool). b || is_for_one rows) (sym asked ∙ c.if-is_spmd_asked.true))

pub returns : goal.returns
returns c =
    let m = c.args.matches.now in
    let rows = rows_of (found_of m) in
    let asked = c.is_spmd_asked.ensures rows (given_by_rows m (codes "ranks") c.get_str.result c.get_str.ensures) c.requires (given_by_rows m (codes "collectives") c.get_str-2.result c.get_str-2.ensures) in
    c.is_for_one.ensures ∙ sym (ap (λ (b : Bool). b || is_for_one rows) (sym asked ∙ c.if-is_spmd_asked.false))

use Rattle.std.proofs.Common.{◌∙◌, ap, refl, sym, map, ℕ, List, codes}
use Rattle.std.specs.Borrow.{Bor}
use Rattle.clap.specs.Words.{found_of, rows_of}
use Rattle.command_line.proofs.CommandLines.{given_by_rows, path_by_rows}
use Rattle.command_line.proofs.request.explain_one_request.Goals as goal

pub returns-then-is_spmd_asked : goal.returns-then-is_spmd_asked
returns-then-is_spmd_asked c =
    let m = c.args.matches.now in
    let ranks = given_by_rows m (codes "ranks") c.get_str-ranks.result c.get_str-ranks.ensures in
    let settings = ap (map (λ (s : Bor (List ℕ)). s.now)) c.deref.ensures.value ∙ c.in_ok-settings.ensures in
    record {
      command = refl;
      values = (
        path_by_rows m _ c.get_str.result _ c.get_str.ensures c.in_ok-program.was,
        ranks,
        sym c.in_ok-settings.ensures,
        given_by_rows m _ c.get_str-collectives.result c.get_str-collectives.ensures,
        given_by_rows m _ c.get_str-then-is_spmd_asked.result c.get_str-then-is_spmd_asked.ensures,
        c.in_ok-options.ensures.workers,
        c.in_ok-options.ensures.depth,
        c.in_ok-options.ensures.budget,
        c.form_of.ensures,
        given_by_rows m _ c.get_str-then-is_spmd_asked-2.result c.get_str-then-is_spmd_asked-2.ensures,
        sym (c.is_spmd_asked.ensures (rows_of (found_of m)) ranks settings (given_by_rows m (codes "collectives") c.get_str-collectives.result c.get_str-collectives.ensures)) ∙ c.if-is_spmd_asked.true,
        c.requires,
      );
    }

pub returns : goal.returns
returns c =
    let m = c.args.matches.now in
    record {
      command = refl;
      values = (
        path_by_rows m _ c.get_str.result _ c.get_str.ensures c.in_ok-program.was,
        given_by_rows m _ c.get_str-2.result c.get_str-2.ensures,
        c.in_ok-options.ensures.workers,
        c.in_ok-options.ensures.depth,
        c.in_ok-options.ensures.budget,
        c.form_of-2.ensures,
        given_by_rows m _ c.get_str-3.result c.get_str-3.ensures,
        sym (c.is_spmd_asked.ensures (rows_of (found_of m)) (given_by_rows m (codes "ranks") c.get_str-ranks.result c.get_str-ranks.ensures) (ap (map (λ (s : Bor (List ℕ)). s.now)) c.deref.ensures.value ∙ c.in_ok-settings.ensures)
            (given_by_rows m (codes "collectives") c.get_str-collectives.result c.get_str-collectives.ensures)) ∙ c.if-is_spmd_asked.false,
        c.requires,
      );
    }

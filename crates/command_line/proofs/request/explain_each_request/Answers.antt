use Rattle.std.proofs.Common.{◌∙◌, ◌∷◌, ap, refl, map, ℕ, List}
use Rattle.std.specs.Borrow.{Bor}
use Rattle.command_line.proofs.CommandLines.{given_by_rows, path_by_rows}
use Rattle.command_line.proofs.request.explain_each_request.Goals as goal

pub returns : goal.returns
returns c =
    let m = c.args.matches.now in
    let further = ap (map (λ (s : Bor (List ℕ)). s.now)) c.deref-2.ensures.value ∙ c.in_ok-further.ensures in
    record {
      command = refl;
      values = (
        (c.in_ok-program.program.now, path_by_rows m _ c.get_str.result _ c.get_str.ensures c.in_ok-program.was, c.in-Ok.ensures ∙ ap (λ (l : List (List ℕ)). c.in_ok-program.program.now ∷ l) further),
        given_by_rows m _ c.get_str-2.result c.get_str-2.ensures,
        c.in_ok-options.ensures.workers,
        c.in_ok-options.ensures.depth,
        c.in_ok-options.ensures.budget,
        c.form_of.ensures,
        c.is_beside_each-beside.ensures,
        c.requires,
      );
    }

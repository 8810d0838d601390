use Rattle.std.proofs.Common.{ap, ◌∙◌, map, List, ℕ}
use Rattle.std.specs.Borrow.{Bor}
use Rattle.command_line.proofs.CommandLines.{no_texts_by_rows, texts_by_rows}
use Rattle.command_line.proofs.request.texts_of.Goals as goal

pub returns-in-None : goal.returns-in-None
returns-in-None c =
    ap (map (λ (text : Bor (List ℕ)). text.now)) c.new.ensures.items
    ∙ no_texts_by_rows c.args.matches.now c.args.id.now c.get_strs.result c.get_strs.ensures c.in-None.is

pub returns-in-Ok : goal.returns-in-Ok
returns-in-Ok c =
    ap (map (λ (text : Bor (List ℕ)). text.now)) c.in-Ok.ensures.items
    ∙ texts_by_rows c.args.matches.now c.args.id.now c.get_strs.result c.in-Some.texts c.get_strs.ensures c.in-Some.is

use Rattle.std.proofs.Common.{ℕ, ◌++◌, List, ap, ◌∙◌}
use Rattle.std.specs.Prelude.{codes}
use Rattle.charts.specs.Picture.{box, box_head, box_mark, stub, title}
use Rattle.charts.proofs.Parts.{four_parts}
use Rattle.charts.proofs.picturing.put_told_issue.Goals as goal

pub returns : goal.returns
returns c =
    let told = c.args.told.now in
    four_parts c.args.out.now.items (box_head c.args.ranks c.args.count c.args.column told.rank) (title told) (box c.args.count c.args.colour.now (box_mark c.args.count told)) (stub c.args.left ++ codes "</g>\n")
    c.put_box_head.new.out.items c.put_title.new.out.items c.put_box.new.out.items c.put_parts.new.out.items
    (c.in_ok-put_box_head.ensures ∙ ap (λ (rank : ℕ). c.args.out.now.items ++ box_head c.args.ranks c.args.count c.args.column rank) c.rank.ensures)
    c.in_ok-put_title.ensures
    (c.in_ok-put_box.ensures ∙ ap (λ (mark : List ℕ). c.put_title.new.out.items ++ box c.args.count c.args.colour.now mark) (c.deref.ensures.value ∙ c.in_ok-mark.ensures))
    (c.in_ok-put_parts.ensures ∙ ap (λ (red : List ℕ). c.put_box.new.out.items ++ (red ++ codes "</g>\n")) c.stub.ensures)

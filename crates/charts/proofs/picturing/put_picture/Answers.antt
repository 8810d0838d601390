use Rattle.std.proofs.Common.{◌≡◌, ℕ, ◌++◌, List, length, slice_index, ap, ◌∙◌}
use Rattle.std.specs.List.{flat_map}
use Rattle.charts.specs.declared.placing.PlacedAct.{PlacedAct}
use Rattle.charts.specs.Chart.{columns, undrawn_text}
use Rattle.charts.specs.Picture.{arc_at, arrow_of, box_of, rank_row, top}
use Rattle.charts.proofs.Parts.{seven_parts}
use Rattle.charts.proofs.picturing.put_picture.Goals as goal

pub returns : goal.returns
returns c =
    let p = c.args.program.now in
    let calls = c.args.calls.now in
    let cols = c.args.placed.now in
    let at : ℕ → ℕ = slice_index cols.issues.items in
    let cycle = c.args.cycle.now in
    let marks = c.args.marks.now in
    let ranks_are : c.ranks-ranks.result ≡ p.ranks = c.ranks-ranks.ensures.value in
    seven_parts c.args.out.now.items (top c.args.well p.ranks cols.count) (undrawn_text c.args.before) (columns (rank_row p c.args.end.now calls cols.count at cycle) p.ranks) (flat_map (box_of p c.args.end.now calls cols.count) cols.steps.items) (flat_map (arrow_of c.args.well p.ranks calls cols.count at marks) cols.steps.items) (columns (arc_at p.ranks cols.count cycle) (length cycle)) _
    c.put_top.new.out.items c.put_undrawn_text.new.out.items c.put_rows.new.out.items c.put_boxes.new.out.items c.put_arrows.new.out.items c.put_arcs.new.out.items c.put_text.new.out.items
    (c.in_ok-put_top.ensures ∙ ap (λ (ranks : ℕ). c.args.out.now.items ++ top c.args.well ranks cols.count) ranks_are)
    c.in_ok-put_undrawn_text.ensures
    c.in_ok-put_rows.ensures
    (c.in_ok-put_boxes.ensures ∙ ap (λ (steps : List PlacedAct). c.put_rows.new.out.items ++ flat_map (box_of p c.args.end.now calls cols.count) steps) c.deref.ensures.value)
    (c.in_ok-put_arrows.ensures ∙ ap (λ (ranks : ℕ). c.put_boxes.new.out.items ++ flat_map (arrow_of c.args.well ranks calls cols.count at marks) cols.steps.items) ranks_are)
    (c.in_ok-put_arcs.ensures ∙ ap (λ (ranks : ℕ). c.put_arrows.new.out.items ++ columns (arc_at ranks cols.count cycle) (length cycle)) ranks_are)
    c.in_ok-put_text.ensures

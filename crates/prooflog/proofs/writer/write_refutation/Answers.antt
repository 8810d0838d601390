use Rattle.std.proofs.Common.{ℕ, List, ◌++◌, ap, ◌∙◌}
use Rattle.prooflog.specs.parts.Reading.{front_text, lines_text, tree_text}
use Rattle.prooflog.proofs.Writings.{refutation_text}
use Rattle.prooflog.proofs.writer.write_refutation.Goals as goal

pub returns : goal.returns
returns c =
    let front = c.in_ok-put_front.ensures ∙ ap (λ (t : List ℕ). t ++ front_text c.args.refutation.now) c.new-out.ensures.items in
    let lines = c.in_ok-put_lines.ensures ∙ (λ i. front i ++ lines_text (c.lines.ensures.same i)) in
    refutation_text c.args.refutation.now c.put_tree.new.out.items c.lines.ensures.limits
    (c.in_ok-put_tree.ensures ∙ (λ i. lines i ++ tree_text (c.tree.ensures.same i)))

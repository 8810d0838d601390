use Rattle.std.proofs.Common.{ℕ, List, ◌++◌, subst, ap, ◌∙◌}
use Rattle.prooflog.specs.Refutations.{IsRefutation}
use Rattle.prooflog.specs.parts.Reading.{front_text, lines_text, tree_text}
use Rattle.prooflog.proofs.Writings.{refutation_text}
use Rattle.prooflog.proofs.writer.write_refutation_in.Goals as goal

pub returns : goal.returns
returns g c =
    let r = c.args.refutation in
    let front = c.of-text.ensures ∙ c.in_ok-put_front.ensures ∙ ap (λ (t : List ℕ). t ++ front_text r) c.new-front.ensures.items in
    let lines = c.in_ok-put_portions.ensures ∙ (λ i. front i ++ lines_text (c.into_parts-lines.ensures.lines i)) in
    let tree = c.in_ok-put_tree.ensures ∙ (λ i. c.new-end.ensures.items i ++ tree_text (c.into_parts-lines.ensures.tree i)) in
    refutation_text r c.push.new.self (subst IsRefutation c.refutation.view_is c.refutation.invariant) (c.in_ok-push.ensures ∙ (λ i. lines i ++ tree i))

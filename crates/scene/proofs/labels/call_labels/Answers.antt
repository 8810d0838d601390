use Rattle.std.proofs.Common.{◌≡◌, ℕ, List, length, map, ap, ◌∙◌, arith, Bor}
use Rattle.scene.specs.Labels.{labels}
use Rattle.scene.proofs.Listed.{labels_more}
use Rattle.scene.proofs.labels.call_labels.Goals as goal

pub loop-place-preserved : goal.loop-place-preserved
loop-place-preserved c =
    labels_more (map (λ x. x.now) c.in_ok-lines.lines.items) (map (λ x. x.now) c.deref.result.now) c.in_ok-numbers.numbers.items c.deref-in-loop-place.result.now c.args.program.now.calls c.calls-call-items.result.now c.loop-place.place _
    c.loop-place.labels.items c.push.new.self.items c.in_ok-label_at.field-0 (ap (λ (ls : List (Bor (List ℕ))). map (λ x. x.now) ls) c.deref.ensures.value) c.deref-in-loop-place.ensures.value c.calls-call-items.ensures.value (omega arith)
    c.in_ok-label_at.ensures c.in_ok-push.ensures.items c.loop-place.invariant

pub returns : goal.returns
returns c =
    let end : c.loop-place.place ≡ length c.args.program.now.calls = omega (arith, ap length c.calls-call-items.ensures.value) in
    c.loop-place.invariant ∙ (λ i. labels (c.in_ok-lines.ensures i) (c.in_ok-numbers.ensures i) c.args.program.now.calls (end i))

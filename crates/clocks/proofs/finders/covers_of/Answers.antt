use Rattle.std.proofs.Common.{ℕ, ap, length, ◌+◌, ◌∙◌, subst, arith}
use Rattle.std.proofs.lemmas.List.{length_push}
use Rattle.clocks.specs.parts.Finders.{IsCover}
use Rattle.clocks.proofs.Listed.{covers_push}
use Rattle.clocks.proofs.finders.covers_of.Goals as goal

pub loop-place-preserved : goal.loop-place-preserved
loop-place-preserved c =
    record {
      size = ap length c.in_ok-push.ensures.items ∙ length_push _ _ ∙ ap (λ k. k + 1) c.loop-place.invariant.size;
      are = covers_push c.args.columns.now c.args.group.now c.loop-place.covers.items _ c.cover_at-whole.result c.loop-place.place c.loop-place.invariant.size c.in_ok-push.ensures.items c.cover_at-whole.ensures c.loop-place.invariant.are;
      now = λ i next. subst (λ (z : ℕ). IsCover c.args.columns.now c.args.group.now z c.cover_at-whole.result) (omega (arith, next)) c.cover_at-whole.ensures;
    }

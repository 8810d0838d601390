use Rattle.std.proofs.Common.{ℕ, List, ap, length, ◌+◌, ◌∙◌, subst}
use Rattle.std.proofs.lemmas.List.{length_push}
use Rattle.clocks.specs.parts.Finders.{AreCoversOf}
use Rattle.clocks.proofs.Listed.{groups_push}
use Rattle.clocks.proofs.finders.Covers.new.Goals as goal

pub loop-group-preserved : goal.loop-group-preserved
loop-group-preserved c =
    record {
      size = ap length c.in_ok-push.ensures.items ∙ length_push _ _ ∙ ap (λ k. k + 1) c.loop-group.invariant.size;
      are =
          groups_push c.args.columns.now c.args.finders.now c.loop-group.covers.items _ c.in_ok-own.own c.loop-group.group c.loop-group.invariant.size c.in_ok-push.ensures.items
          (subst (λ (z : List ℕ). AreCoversOf c.args.columns.now z c.in_ok-own.own.items) c.calls.ensures c.in_ok-own.ensures) c.loop-group.invariant.are;
    }

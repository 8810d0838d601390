use Rattle.std.proofs.Common.{List, ℕ, Some, ap, sym, ◌∙◌, arith}
use Rattle.std.specs.Global.{Vec}
use Rattle.std.proofs.lemmas.Option.{slice_get-get_or}
use Rattle.scene.proofs.Edges.{edges_more}
use Rattle.scene.proofs.lasting.lasting_edges.Goals as goal

pub loop-rank-preserved : goal.loop-rank-preserved
loop-rank-preserved c =
    record {
      size = omega (arith, c.loop-rank.invariant.size, c.in_ok-push.ensures.len);
      within =
          edges_more c.args.awaited.now c.loop-rank.lasting.items c.push.new.self.items c.loop-rank.rank c.index-awaited-rank.result c.in_ok-lasting_of.field-0
          (slice_get-get_or c.args.awaited.now c.loop-rank.rank c.index-awaited-rank.result (omega arith) ∙ ap (λ (v : Vec ℕ). Some v) (sym c.index-awaited-rank.is)) c.loop-rank.invariant.size
          c.in_ok-push.ensures.items c.in_ok-lasting_of.ensures c.loop-rank.invariant.within;
    }

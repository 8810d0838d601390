use Rattle.std.proofs.Common.{[], ◌∷◌, arith}
use Rattle.std.proofs.lemmas.List.{length-append}
use Rattle.callorder.proofs.Adding.{Expands-next}
use Rattle.callorder.proofs.expand.expand_owned.Goals as goal

pub loop-lines-preserved : goal.loop-lines-preserved
loop-lines-preserved c =
    let size = c.loop-lines.invariant.1 in (
      Expands-next c.loop-lines.expansion _ c.loop-lines.yielded c.in-Some.lines c.loop-lines.rank _ size c.as_slice.ensures.value c.loop-lines.invariant.0 c.in_ok-push_rank.ensures,
      omega (arith, size, length-append c.loop-lines.yielded (c.in-Some.lines ∷ [])),
    )

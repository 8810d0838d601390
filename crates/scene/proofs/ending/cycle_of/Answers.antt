use Rattle.std.proofs.Common.{◌≢◌, ℕ, List, Option, subst}
use Rattle.std.specs.Global.{Vec}
use Rattle.std.specs.List.{AllPairs}
use Rattle.std.specs.Option.{MatchOption}
use Rattle.std.specs.Prelude.{IfSome}
use Rattle.waits.specs.Cycles.{IsCycle}
use Rattle.scene.proofs.Edges.{cycle_within}
use Rattle.scene.proofs.Ends.{told_cycle}
use Rattle.scene.proofs.ending.cycle_of.Goals as goal

pub returns-in-Some : goal.returns-in-Some
returns-in-Some c =
    told_cycle c.args.awaited.now c.in-Some.ranks.items
    (cycle_within c.args.lasting.now c.args.awaited.now c.requires c.in-Some.ranks.items
    (subst (λ (o : Option (Vec ℕ)). MatchOption o ((ranks : List ℕ) → IsCycle c.args.lasting.now ranks → ⊥) (λ ranks. IsCycle c.args.lasting.now ranks.items)) c.in-Some.is c.in_ok-found.ensures.cycle))
    (subst (λ (o : Option (Vec ℕ)). IfSome o (λ ranks. AllPairs (λ one other. one ≢ other) ranks.items)) c.in-Some.is c.in_ok-found.ensures.once)

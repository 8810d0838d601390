use Rattle.std.proofs.Common.{[], ◌∷◌, length-append, arith}
use Rattle.std.proofs.lemmas.List.Elements.{All-push}
use Rattle.steal.specs.parts.Rows.{IsFreshOwner}
use Rattle.steal.proofs.Rows.{fresh_more}
use Rattle.steal.proofs.supply.deques.Goals as goal

pub loop-preserved : goal.loop-preserved
loop-preserved c =
    let owner = c.in_ok-owner.owner in
    let thieves = c.in_ok-owner.thieves in
    rw (c.in_ok-push.ensures.items, c.in_ok-push-2.ensures.items)
    record {
      size = omega (arith, length-append c.loop.owners.items (owner ∷ []), c.loop.invariant.size);
      owners = All-push (IsFreshOwner c.args.count) c.loop.owners.items owner c.loop.invariant.owners c.in_ok-owner.ensures.owner;
      rows = fresh_more c.args.count c.loop.owners.items c.loop.rows.items owner thieves c.loop.invariant.rows (omega (arith, thieves.ok.0, c.in_ok-owner.ensures.count)) c.in_ok-owner.ensures.thieves;
    }

use Rattle.std.proofs.Common.{rules}
use Rattle.sharedpool.proofs.Moves.{adds}
use Rattle.sharedpool.proofs.passes.add.Goals as goal

pub load_as-requires : goal.load_as-requires
load_as-requires g c =
    let r = c.requires in
    (search rules, (search rules, (r.keeper_of, adds _ _ g.J.ItemName.item r.keeps r.sits r.worker)))

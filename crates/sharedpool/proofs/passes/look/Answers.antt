use Rattle.std.proofs.Common.{rules}
use Rattle.sharedpool.proofs.Moves.{looks}
use Rattle.sharedpool.proofs.passes.look.Goals as goal

pub load_as-requires : goal.load_as-requires
load_as-requires g c =
    let r = c.requires in
    (search rules, (search rules, (r.keeper_of, looks _ _ r.keeps r.sits)))

use Rattle.std.proofs.Common.{rules}
use Rattle.sharedpool.proofs.Moves.{takes_back}
use Rattle.sharedpool.proofs.passes.take_back.Goals as goal

pub load_as-requires : goal.load_as-requires
load_as-requires g c =
    let r = c.requires in
    (search rules, (search rules, (r.keeper_of, takes_back _ _ r.keeps r.sits)))

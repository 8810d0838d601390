use Rattle.std.proofs.Common.{rules}
use Rattle.sharedpool.proofs.Moves.{joins}
use Rattle.sharedpool.proofs.passes.join.Goals as goal

pub join_pass-requires : goal.join_pass-requires
join_pass-requires c =
    let r = c.requires in
    (search rules, (search rules, ((r.keeper_of, r.seat_of, r.free), joins _ _ _ _ r.keeps r.sits)))

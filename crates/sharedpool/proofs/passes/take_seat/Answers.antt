use Rattle.std.proofs.Common.{rules}
use Rattle.sharedpool.proofs.Moves.{seats}
use Rattle.sharedpool.proofs.passes.take_seat.Goals as goal

pub split_pass-requires : goal.split_pass-requires
split_pass-requires c =
    let r = c.requires in
    (search rules, (search rules, (r.keeper_of, seats _ _ r.keeps r.none_taken)))

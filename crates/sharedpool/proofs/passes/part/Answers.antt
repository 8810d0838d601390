use Rattle.std.proofs.Common.{rules}
use Rattle.sharedpool.proofs.Moves.{parts}
use Rattle.sharedpool.proofs.passes.part.Goals as goal

pub split_pass-requires : goal.split_pass-requires
split_pass-requires c =
    let r = c.requires in
    (search rules, (search rules, (r.keeper_of, parts _ _ r.keeps r.sits)))

use Rattle.std.proofs.Common.{rules}
use Rattle.sharedpool.proofs.Moves.{blanks}
use Rattle.sharedpool.proofs.passes.blank.Goals as goal

pub split_pass-requires : goal.split_pass-requires
split_pass-requires c = (search rules, (search rules, (c.requires, blanks _ _)))

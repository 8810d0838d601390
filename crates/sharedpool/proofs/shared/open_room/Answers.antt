use Rattle.std.proofs.Common.{rules, [], ◌∷◌}
use Rattle.sharedpool.proofs.Moves.{begins}
use Rattle.sharedpool.proofs.shared.open_room.Goals as goal

pub ruled-requires : goal.ruled-requires
ruled-requires c = (search rules, (search rules, begins (0 ∷ [])))

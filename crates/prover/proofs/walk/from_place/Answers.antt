use Rattle.prover.proofs.Rotated.{rotated}
use Rattle.prover.proofs.walk.from_place.Goals as goal

pub returns : goal.returns
returns g c = rotated c.args.list.items c.rotate_left.new.self.items _ c.rotate_left.ensures.items

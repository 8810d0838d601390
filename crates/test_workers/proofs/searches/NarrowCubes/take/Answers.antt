use Rattle.steal.proofs.Deques.{same_deques}
use Rattle.test_workers.proofs.searches.NarrowCubes.take.Goals as goal

pub returns : goal.returns
returns c = record { deques = same_deques c.args.self.now.cubes c.take.new.self c.take.ensures.same.0 }

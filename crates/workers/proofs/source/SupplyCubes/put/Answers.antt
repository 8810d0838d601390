use Rattle.steal.proofs.Deques.{same_deques}
use Rattle.workers.proofs.source.SupplyCubes.put.Goals as goal

pub returns : goal.returns
returns c = record { deques = same_deques c.args.self.now c.put.new.self c.put.ensures.same.0 }

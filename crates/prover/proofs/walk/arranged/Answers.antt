use Rattle.std.proofs.lemmas.List.Sorted.{IsPermutation-trans}
use Rattle.prover.proofs.walk.arranged.Goals as goal

pub returns : goal.returns
returns g c = IsPermutation-trans c.args.list.items c.from_place.result.items c.in_turn.result.items c.from_place.ensures c.in_turn.ensures

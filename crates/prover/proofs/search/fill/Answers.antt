use Rattle.std.proofs.Common.{◌%◌, ◌∙◌, length}
use Rattle.std.proofs.Math.Seq.{map-set_same}
use Rattle.steal.specs.Supplies.{deques_of}
use Rattle.steal.proofs.Deques.{same_deques}
use Rattle.prover.proofs.search.fill.Goals as goal

pub returns-in_err-put : goal.returns-in_err-put
returns-in_err-put c =
    map-set_same deques_of c.loop-place.supplies (c.loop-place.place % length c.args.supplies.now) c.put.new.self _ (same_deques _ c.put.new.self c.in_err-put.ensures.same.0)
    ∙ c.loop-place.invariant

pub loop-place-preserved : goal.loop-place-preserved
loop-place-preserved c =
    map-set_same deques_of c.loop-place.supplies (c.loop-place.place % length c.args.supplies.now) c.put.new.self _ (same_deques _ c.put.new.self c.in_ok-put.ensures.same.0)
    ∙ c.loop-place.invariant

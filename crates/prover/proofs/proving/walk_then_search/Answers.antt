use Rattle.prover.proofs.proving.walk_then_search.Goals as goal

pub returns-in-Some-clause-finishes : goal.returns-in-Some-clause-finishes
returns-in-Some-clause-finishes g c = c.in-Some.ensures.finishes c.args.options.budget c.args.text.now

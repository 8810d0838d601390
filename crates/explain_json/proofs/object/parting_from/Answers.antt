use Rattle.std.proofs.Common.{List, subst, sym}
use Rattle.semantics.specs.declared.state.Step.{Step}
use Rattle.semantics.specs.RunEnds.{IsFinishedRun}
use Rattle.frequency.specs.declared.judging.Frequency.{Frequency}
use Rattle.frequency.specs.Frequencies.{IsFrequency}
use Rattle.explain_json.proofs.object.parting_from.Goals as goal

pub parting_of-requires-clause-steps : goal.parting_of-requires-clause-steps
parting_of-requires-clause-steps c = c.requires.stuck.run

pub parting_of-requires-clause-others : goal.parting_of-requires-clause-others
parting_of-requires-clause-others c =
    (subst (λ (steps : List Step). IsFinishedRun c.args.program.now steps) (sym c.deref.ensures.value)
    (subst (λ (often : Frequency). IsFrequency c.args.program.now often) c.in-Sometimes.is c.requires.frequency)).run

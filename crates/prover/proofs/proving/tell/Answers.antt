use Rattle.std.proofs.Common.{subst}
use Rattle.prover.specs.parts.Searches.{IsEvidenceOn}
use Rattle.prover.proofs.proving.tell.Goals as goal

pub returns-in-Refutation : goal.returns-in-Refutation
returns-in-Refutation g c = λ p text on is_text. c.told_refutation.ensures p text (subst (IsEvidenceOn p) c.in-Refutation.is on) is_text

pub returns-in-Schedule : goal.returns-in-Schedule
returns-in-Schedule g c = λ p text on is_text. c.told_schedule.ensures.answer p text (subst (IsEvidenceOn p) c.in-Schedule.is on) is_text

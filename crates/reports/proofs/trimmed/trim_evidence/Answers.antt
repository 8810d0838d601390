use Rattle.std.proofs.Common.{Err, ap, ◌∙◌}
use Rattle.reports.proofs.Shorter.{shortens_from, why_untrimmed}
use Rattle.reports.proofs.trimmed.trim_evidence.Goals as goal

pub returns-in-Ok-write_evidence-clause-shortened : goal.returns-in-Ok-write_evidence-clause-shortened
returns-in-Ok-write_evidence-clause-shortened c =
    shortens_from c.args.evidence.now c.in-Ok.evidence c.trim_in_place.new.evidence c.trim_in_place.result _ _ c.in-Ok.ensures.found c.in-Ok-trim_in_place.is c.trim_in_place.ensures.number_only c.in-Ok-trim_in_place.ensures.trimmed
    c.in-Ok-write_evidence.ensures c.lines_of-before.ensures c.lines_of.ensures

pub returns-in-Err-trim_in_place-clause-why : goal.returns-in-Err-trim_in_place-clause-why
returns-in-Err-trim_in_place-clause-why c =
    why_untrimmed c.args.evidence.now c.in-Ok.evidence c.in-Err-trim_in_place.fault c.from-in-Err-trim_in_place.result c.in-Ok.ensures.found c.from-in-Err-trim_in_place.ensures (λ e. c.trim_in_place.ensures.number (c.in-Err-trim_in_place.is ∙ ap Err e))
    (λ e. c.trim_in_place.ensures.not_refutation.0 (c.in-Err-trim_in_place.is ∙ ap Err e))

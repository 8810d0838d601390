-- The copy has a stray number where the refutation has one.
use Rattle.std.proofs.Common.{sym, subst, ◌∙◌}
use Rattle.prooflog.specs.declared.evidence.Evidence.TheVariants.{Refutation}
use Rattle.prooflog.specs.declared.trims.TrimFault.TheVariants.{Number}
use Rattle.prooflog.specs.Refutations.{ClaimedRefutation}
use Rattle.prooflog.specs.Trims.{HasStrayNumber}
use Rattle.prooflog.proofs.TrimLaws.{never_both, same_fault}
use Rattle.prooflog.proofs.trims.trimmed_copy.Goals as goal

pub returns-in-Ok-trim_in_place-clause-number_only : goal.returns-in-Ok-trim_in_place-clause-number_only
returns-in-Ok-trim_in_place-clause-number_only c = λ stray.
    let of_copy = subst (λ (r : ClaimedRefutation). HasStrayNumber (Refutation r)) (sym c.in-Ok.ensures) stray in
    absurd (never_both c.trim_in_place.result c.in-Ok-trim_in_place.field-0 c.in-Ok-trim_in_place.is (c.trim_in_place.ensures.number_only of_copy))

pub returns-in-Err-trim_in_place-clause-number : goal.returns-in-Err-trim_in_place-clause-number
returns-in-Err-trim_in_place-clause-number c = λ told.
    subst (λ (r : ClaimedRefutation). HasStrayNumber (Refutation r)) c.in-Ok.ensures (c.trim_in_place.ensures.number (c.in-Err-trim_in_place.is ∙ same_fault c.in-Err-trim_in_place.fault Number told))

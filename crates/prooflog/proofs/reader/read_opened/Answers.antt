use Rattle.std.proofs.Common.{subst}
use Rattle.prooflog.specs.Steps.{schedule_line}
use Rattle.prooflog.specs.Grammar.{refutation_line}
use Rattle.prooflog.specs.parts.Reading.{IsOpened}
use Rattle.prooflog.specs.declared.reader.EvidenceKind.TheVariants.{Schedule, Refutation}
use Rattle.prooflog.specs.declared.refutation.Version.TheVariants.{One}
use Rattle.prooflog.proofs.Headings.{after_headings, is_schedule_text, is_refutation_text}
use Rattle.prooflog.proofs.reader.read_opened.Goals as goal

pub returns-in-Ok-clause-found : goal.returns-in-Ok-clause-found
returns-in-Ok-clause-found c =
    let opened : IsOpened c.args.bytes.now Schedule c.args.opening.rest.now = subst (λ kind. IsOpened c.args.bytes.now kind c.args.opening.rest.now) c.in-Schedule.is c.requires.opened in
    is_schedule_text c.args.bytes.now c.args.opening.rest.now c.in-Ok.schedule opened c.in-Ok.ensures.limits c.in-Ok.ensures.found

pub returns-in-Schedule-clause-fault : goal.returns-in-Schedule-clause-fault
returns-in-Schedule-clause-fault c =
    let opened : IsOpened c.args.bytes.now Schedule c.args.opening.rest.now = subst (λ kind. IsOpened c.args.bytes.now kind c.args.opening.rest.now) c.in-Schedule.is c.requires.opened in
    after_headings c.args.bytes.now c.args.opening.rest.now schedule_line One c.in-Err.fault opened c.in-Err.ensures.fault

pub returns-in-Ok-read_refutation-clause-found : goal.returns-in-Ok-read_refutation-clause-found
returns-in-Ok-read_refutation-clause-found c =
    let version = c.in-Refutation.version in
    let v = c.in-Refutation.variables in
    let n = c.in-Refutation.clauses in
    let opened : IsOpened c.args.bytes.now (Refutation version v n) c.args.opening.rest.now = subst (λ kind. IsOpened c.args.bytes.now kind c.args.opening.rest.now) c.in-Refutation.is c.requires.opened in
    is_refutation_text c.args.bytes.now c.args.opening.rest.now version v n c.in-Ok-read_refutation.refutation opened.0
    c.in-Ok-read_refutation.ensures.counts c.in-Ok-read_refutation.ensures.limits c.in-Ok-read_refutation.ensures.cut

pub returns-clause-fault : goal.returns-clause-fault
returns-clause-fault c =
    let version = c.in-Refutation.version in
    let v = c.in-Refutation.variables in
    let n = c.in-Refutation.clauses in
    let opened : IsOpened c.args.bytes.now (Refutation version v n) c.args.opening.rest.now = subst (λ kind. IsOpened c.args.bytes.now kind c.args.opening.rest.now) c.in-Refutation.is c.requires.opened in
    after_headings c.args.bytes.now c.args.opening.rest.now (refutation_line v n) version c.in-Err-read_refutation.fault opened.0 c.in-Err-read_refutation.ensures.fault

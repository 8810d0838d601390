use Rattle.std.proofs.Common.{◌≡◌, [], ◌∷◌, ◌++◌, ap, sym, ◌∙◌, arith}
use Rattle.plaintext.specs.Plain.{text_lines}
use Rattle.prooflog.specs.declared.refutation.Version.TheVariants.{One}
use Rattle.prooflog.specs.Steps.{schedule_line}
use Rattle.prooflog.specs.Grammar.{heading_line, refutation_line}
use Rattle.prooflog.proofs.Headings.{first_faulty, first_unended, first_is, second_faulty, second_unended, second_over, no_schedule, no_counts, counts_line, second_is}
use Rattle.prooflog.proofs.reader.opening_of.Goals.{then-variables-gt-LARGEST_NUMBER-via-then-variables-gt-LARGEST_NUMBER, then-variables-gt-LARGEST_NUMBER-via-else-variables-gt-LARGEST_NUMBER+then-clauses-gt-LARGEST_NUMBER}
use Rattle.prooflog.proofs.reader.opening_of.Goals as goal

pub returns-in_default-clause-fault : goal.returns-in_default-clause-fault
returns-in_default-clause-fault c = first_unended c.args.bytes.now c.in_default.ensures.none

pub returns-in_default-version_of-clause-fault : goal.returns-in_default-version_of-clause-fault
returns-in_default-version_of-clause-fault c =
    first_faulty c.args.bytes.now (c.in-Some.heading.now ++ 10 ∷ []) (text_lines c.in-Some.rest.now) c.in-Some.ensures.some c.in_default-version_of.ensures.none

pub returns-in_default-next_line-clause-fault : goal.returns-in_default-next_line-clause-fault
returns-in_default-next_line-clause-fault c = second_unended c.args.bytes.now c.in-Some.rest.now c.in-Some-version_of.version (first_is c.args.bytes.now c.in-Some.rest.now c.in-Some.heading.now c.in-Some-version_of.version c.in-Some.ensures.some c.in-Some-version_of.ensures.some) c.in_default-next_line.ensures.none

pub returns-in_default-counts_of-clause-fault : goal.returns-in_default-counts_of-clause-fault
returns-in_default-counts_of-clause-fault c =
    let first = first_is c.args.bytes.now c.in-Some.rest.now c.in-Some.heading.now c.in-Some-version_of.version c.in-Some.ensures.some c.in-Some-version_of.ensures.some in
    second_faulty c.args.bytes.now c.in-Some.rest.now (c.in-Some-next_line.kind.now ++ 10 ∷ []) (text_lines c.in-Some-next_line.rest.now) c.in-Some-version_of.version first c.in-Some-next_line.ensures.some
    (λ is. no_schedule c.in-Some-next_line.kind.now (c.is_schedule.ensures.no c.if-is_schedule.false is)) (no_counts c.in-Some-next_line.kind.now c.in_default-counts_of.ensures.none)

pub returns-then-variables-gt-LARGEST_NUMBER-clause-fault : goal.returns-then-variables-gt-LARGEST_NUMBER-clause-fault
returns-then-variables-gt-LARGEST_NUMBER-clause-fault c =
    let first = first_is c.args.bytes.now c.in-Some.rest.now c.in-Some.heading.now c.in-Some-version_of.version c.in-Some.ensures.some c.in-Some-version_of.ensures.some in
    let read = c.in-Some-counts_of.ensures.some in
    second_over c.args.bytes.now c.in-Some.rest.now (c.in-Some-next_line.kind.now ++ 10 ∷ []) (text_lines c.in-Some-next_line.rest.now) c.in-Some-version_of.version read.0 read.1 first c.in-Some-next_line.ensures.some (counts_line c.in-Some-next_line.kind.now read.0 read.1 read.2)
    (λ fits. elim c.then-variables-gt-LARGEST_NUMBER.branch [
      | then-variables-gt-LARGEST_NUMBER-via-then-variables-gt-LARGEST_NUMBER w ↦ grind (arith, read.3, fits.0, w.if-variables-gt-LARGEST_NUMBER.true)
      | then-variables-gt-LARGEST_NUMBER-via-else-variables-gt-LARGEST_NUMBER+then-clauses-gt-LARGEST_NUMBER w ↦ grind (arith, read.4, fits.1, w.if-clauses-gt-LARGEST_NUMBER.true)
    ])

pub returns-then-is_schedule-clause-opened : goal.returns-then-is_schedule-clause-opened
returns-then-is_schedule-clause-opened c =
    let first = first_is c.args.bytes.now c.in-Some.rest.now c.in-Some.heading.now c.in-Some-version_of.version c.in-Some.ensures.some c.in-Some-version_of.ensures.some in
    let found = c.is_schedule.ensures.yes c.if-is_schedule.true in
    let kind : schedule_line ≡ c.in-Some-next_line.kind.now ++ 10 ∷ [] = ap (λ word. word ++ 10 ∷ []) (sym found.1) in
    second_is c.args.bytes.now c.in-Some.rest.now c.in-Some-next_line.rest.now schedule_line (c.in-Some-next_line.kind.now ++ 10 ∷ []) One
    (first ∙ ap (λ version. heading_line version ∷ text_lines c.in-Some.rest.now) found.0) c.in-Some-next_line.ensures.some kind

pub returns-clause-opened : goal.returns-clause-opened
returns-clause-opened c =
    let first = first_is c.args.bytes.now c.in-Some.rest.now c.in-Some.heading.now c.in-Some-version_of.version c.in-Some.ensures.some c.in-Some-version_of.ensures.some in
    let read = c.in-Some-counts_of.ensures.some in
    let v : c.in-Some-counts_of.variables ≡ read.0 = grind (arith, read.3, c.if-variables-gt-LARGEST_NUMBER.false) in
    let n : c.in-Some-counts_of.clauses ≡ read.1 = grind (arith, read.4, c.if-clauses-gt-LARGEST_NUMBER.false) in
    let second = refutation_line c.in-Some-counts_of.variables c.in-Some-counts_of.clauses in
    let kind : refutation_line c.in-Some-counts_of.variables c.in-Some-counts_of.clauses ≡ c.in-Some-next_line.kind.now ++ 10 ∷ [] = (λ i. refutation_line (v i) (n i)) ∙ counts_line c.in-Some-next_line.kind.now read.0 read.1 read.2 in
    (second_is c.args.bytes.now c.in-Some.rest.now c.in-Some-next_line.rest.now second (c.in-Some-next_line.kind.now ++ 10 ∷ []) c.in-Some-version_of.version first c.in-Some-next_line.ensures.some kind, grind (arith, c.if-variables-gt-LARGEST_NUMBER.false), grind (arith, c.if-clauses-gt-LARGEST_NUMBER.false))

use Rattle.std.proofs.Common.{◌≡◌, ◌+◌, ◌<◌, ◌≤◌, [], ◌∷◌, ◌++◌, length, arith, ap, sym, subst, ◌∙◌, rules}
use Rattle.std.proofs.lemmas.Grind.{common_steps}
use Rattle.plaintext.specs.Plain.{text_lines}
use Rattle.prooflog.specs.Steps.{written, step_line, IsStepInRange}
use Rattle.prooflog.proofs.StepLines.{no_step_line, step_line_of, over_range, read_step}
use Rattle.prooflog.proofs.Schedules.{SoFar, one_more, stop_syntax, stop_range, stop_large, unended}
use Rattle.prooflog.proofs.reader.read_steps.Goals as goal

pub returns-in_default-step_of-clause-fault : goal.returns-in_default-step_of-clause-fault
returns-in_default-step_of-clause-fault c =
    let line = c.in-Some.line.now in
    stop_syntax c.args.bytes.now c.loop-line.rest.now c.loop-line.number c.loop-line.steps.items c.loop-line.invariant (line ++ 10 ∷ []) (text_lines c.in-Some.after.now) c.in-Some.ensures.some
    (no_step_line line c.in_default-step_of.ensures.none) (λ e. grind (arith, common_steps, ap length e))

pub returns-in_default-step_in_range-clause-fault : goal.returns-in_default-step_in_range-clause-fault
returns-in_default-step_in_range-clause-fault c =
    let line = c.in-Some.line.now in
    let read = c.in-Some-step_of.ensures.some in
    stop_range c.args.bytes.now c.loop-line.rest.now c.loop-line.number c.loop-line.steps.items c.loop-line.invariant (line ++ 10 ∷ []) (text_lines c.in-Some.after.now) c.in-Some.ensures.some
    read.0 (step_line_of line read.0 read.1) (over_range read.0 c.in-Some-step_of.written read.2 c.in_default-step_in_range.ensures.none)

pub returns-then-len-ge-MOST_STEPS-clause-fault : goal.returns-then-len-ge-MOST_STEPS-clause-fault
returns-then-len-ge-MOST_STEPS-clause-fault c =
    let line = c.in-Some.line.now in
    let read = c.in-Some-step_of.ensures.some in
    let found = c.in-Some-step_in_range.ensures.some in
    let same : c.in-Some-step_of.written ≡ read.0 = read_step read.0 c.in-Some-step_of.written read.2 found.0 in
    let full : 4096 ≤ length c.loop-line.steps.items = grind (arith, common_steps, c.len.ensures, c.if-len-ge-MOST_STEPS.true) in
    stop_large c.args.bytes.now c.loop-line.rest.now c.loop-line.number c.loop-line.steps.items c.loop-line.invariant (line ++ 10 ∷ []) (text_lines c.in-Some.after.now) c.in-Some.ensures.some
    read.0 (step_line_of line read.0 read.1) (subst IsStepInRange same found.0) full

pub loop-line-preserved : goal.loop-line-preserved
loop-line-preserved c =
    let line = c.in-Some.line.now in
    let read = c.in-Some-step_of.ensures.some in
    let step = c.in-Some-step_in_range.step in
    let found = c.in-Some-step_in_range.ensures.some in
    let same : written step ≡ read.0 = found.1 ∙ read_step read.0 c.in-Some-step_of.written read.2 found.0 in
    let room : length c.loop-line.steps.items < 4096 = grind (arith, common_steps, c.len.ensures, c.if-len-ge-MOST_STEPS.false) in
    subst (λ items. SoFar c.args.bytes.now c.in-Some.after.now (c.loop-line.number + 1) items) (sym c.in_ok-push.ensures.items) (
    one_more c.args.bytes.now c.loop-line.rest.now c.in-Some.after.now c.loop-line.number c.loop-line.steps.items step (line ++ 10 ∷ []) c.loop-line.invariant c.in-Some.ensures.some
    (ap step_line same ∙ step_line_of line read.0 read.1) (subst IsStepInRange (sym found.1) found.0) room
    )

pub returns-then-not-is_empty-clause-fault : goal.returns-then-not-is_empty-clause-fault
returns-then-not-is_empty-clause-fault c =
    unended c.args.bytes.now c.loop-line.rest.now c.loop-line.number c.loop-line.steps.items c.loop-line.invariant c.in_default.ensures.none (λ e. grind (arith, common_steps, ap length e))

pub loop-line-init : goal.loop-line-init
loop-line-init c = search rules

pub returns-in_default-step_of-clause-limits : goal.returns-in_default-step_of-clause-limits
returns-in_default-step_of-clause-limits c = search rules

pub returns-in_default-step_of-clause-found : goal.returns-in_default-step_of-clause-found
returns-in_default-step_of-clause-found c = search rules

pub returns-in_default-step_in_range-clause-limits : goal.returns-in_default-step_in_range-clause-limits
returns-in_default-step_in_range-clause-limits c = search rules

pub returns-in_default-step_in_range-clause-found : goal.returns-in_default-step_in_range-clause-found
returns-in_default-step_in_range-clause-found c = search rules

pub returns-then-len-ge-MOST_STEPS-clause-limits : goal.returns-then-len-ge-MOST_STEPS-clause-limits
returns-then-len-ge-MOST_STEPS-clause-limits c = search rules

pub returns-then-len-ge-MOST_STEPS-clause-found : goal.returns-then-len-ge-MOST_STEPS-clause-found
returns-then-len-ge-MOST_STEPS-clause-found c = search rules

pub overflow_add-number : goal.overflow_add-number
overflow_add-number c = search rules

pub loop-line-smaller : goal.loop-line-smaller
loop-line-smaller c = search rules

pub returns-then-not-is_empty-clause-limits : goal.returns-then-not-is_empty-clause-limits
returns-then-not-is_empty-clause-limits c = search rules

pub returns-then-not-is_empty-clause-found : goal.returns-then-not-is_empty-clause-found
returns-then-not-is_empty-clause-found c = search rules

pub of_checked-requires : goal.of_checked-requires
of_checked-requires c = search rules

pub returns-clause-limits : goal.returns-clause-limits
returns-clause-limits c = search rules

pub returns-clause-found : goal.returns-clause-found
returns-clause-found c = grind (arith, common_steps)

pub returns-clause-fault : goal.returns-clause-fault
returns-clause-fault c = search rules

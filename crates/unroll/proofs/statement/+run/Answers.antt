use Rattle.std.proofs.Common.{◌≡◌, ℕ, suc, ◌+◌, ◌-◌, Some, None, ap, sym, subst, ◌∙◌, arith}
use Rattle.spmd_tree.specs.declared.tree.SpmdStatement.{SpmdStatement}
use Rattle.unroll.specs.parts.Runs.{Stops, seen_run}
use Rattle.unroll.specs.Runs.{TextRun, Outcome, Done}
use Rattle.unroll.specs.Statements.{meaning}
use Rattle.unroll.proofs.Turns.{turns_over, turn_refused, turn_fails, turn_done}
use Rattle.unroll.proofs.statement.+run.Goals as goal

pub returns-then-is_over : goal.returns-then-is_over
returns-then-is_over t c =
    let n : ℕ = c.args.scope.most_turns - c.loop-turn._turn in
    let body : TextRun → Outcome = λ r. meaning c.in-Repeat.body.value c.args.scope r in
    let whole : Outcome = meaning c.args.statement.now c.args.scope (seen_run c.args.machine.now) in
    turns_over n body c.args.scope c.in-Repeat.line c.in-Repeat.name c.in-Repeat.step c.args.machine.now.turn c.loop-turn.span (seen_run c.loop-turn.machine) whole c.loop-turn.invariant (sym c.if-is_over.ensures)
    ∙ ap Done (sym c.finish.ensures)

pub returns-in-Err-begin_turn : goal.returns-in-Err-begin_turn
returns-in-Err-begin_turn t c =
    let n : ℕ = c.args.scope.most_turns - c.loop-turn._turn in
    let m : ℕ = c.args.scope.most_turns - (c.loop-turn._turn + 1) in
    let more : n ≡ suc m = omega arith in
    let body : TextRun → Outcome = λ r. meaning c.in-Repeat.body.value c.args.scope r in
    let whole : Outcome = meaning c.args.statement.now c.args.scope (seen_run c.args.machine.now) in
    turn_refused n m body c.args.scope c.in-Repeat.line c.in-Repeat.name c.in-Repeat.step c.args.machine.now.turn c.loop-turn.span (seen_run c.loop-turn.machine) whole c.in-Err-begin_turn.stop (seen_run c.begin_turn.new.machine)
    c.loop-turn.invariant more (sym c.if-is_over.ensures) c.in-Err-begin_turn.ensures

pub returns-in-Err-run : goal.returns-in-Err-run
returns-in-Err-run t c =
    let n : ℕ = c.args.scope.most_turns - c.loop-turn._turn in
    let m : ℕ = c.args.scope.most_turns - (c.loop-turn._turn + 1) in
    let more : n ≡ suc m = omega arith in
    let body : TextRun → Outcome = λ r. meaning c.in-Repeat.body.value c.args.scope r in
    let whole : Outcome = meaning c.args.statement.now c.args.scope (seen_run c.args.machine.now) in
    turn_fails n m body c.args.scope c.in-Repeat.line c.in-Repeat.name c.in-Repeat.step c.args.machine.now.turn c.loop-turn.span (seen_run c.loop-turn.machine) (seen_run c.begin_turn.new.machine) whole c.in-Err-run.stop (seen_run c.run-in-loop-turn.new.machine)
    c.loop-turn.invariant more (sym c.if-is_over.ensures) c.in-Ok-begin_turn.ensures
    (subst (λ (b : SpmdStatement). Stops c.in-Err-run.stop (meaning b c.args.scope (seen_run c.begin_turn.new.machine)) (seen_run c.run-in-loop-turn.new.machine)) c.deref-in-loop-turn.ensures c.in-Err-run.ensures)

pub returns-in-None : goal.returns-in-None
returns-in-None t c =
    let n : ℕ = c.args.scope.most_turns - c.loop-turn._turn in
    let m : ℕ = c.args.scope.most_turns - (c.loop-turn._turn + 1) in
    let more : n ≡ suc m = omega arith in
    let body : TextRun → Outcome = λ r. meaning c.in-Repeat.body.value c.args.scope r in
    let whole : Outcome = meaning c.args.statement.now c.args.scope (seen_run c.args.machine.now) in
    sym (turn_done n m body c.args.scope c.in-Repeat.line c.in-Repeat.name c.in-Repeat.step c.args.machine.now.turn c.loop-turn.span (seen_run c.loop-turn.machine) (seen_run c.begin_turn.new.machine) (seen_run c.run-in-loop-turn.new.machine) whole None
    c.loop-turn.invariant more (sym c.if-is_over.ensures) c.in-Ok-begin_turn.ensures
    (subst (λ (b : SpmdStatement). meaning b c.args.scope (seen_run c.begin_turn.new.machine) ≡ Done (seen_run c.run-in-loop-turn.new.machine)) c.deref-in-loop-turn.ensures c.in-Ok-run.ensures)
    c.in-None.ensures)
    ∙ ap Done (sym c.finish-in-None.ensures)

pub loop-turn-preserved : goal.loop-turn-preserved
loop-turn-preserved t c =
    let n : ℕ = c.args.scope.most_turns - c.loop-turn._turn in
    let m : ℕ = c.args.scope.most_turns - (c.loop-turn._turn + 1) in
    let more : n ≡ suc m = omega arith in
    let body : TextRun → Outcome = λ r. meaning c.in-Repeat.body.value c.args.scope r in
    let whole : Outcome = meaning c.args.statement.now c.args.scope (seen_run c.args.machine.now) in
    turn_done n m body c.args.scope c.in-Repeat.line c.in-Repeat.name c.in-Repeat.step c.args.machine.now.turn c.loop-turn.span (seen_run c.loop-turn.machine) (seen_run c.begin_turn.new.machine) (seen_run c.run-in-loop-turn.new.machine) whole (Some c.in-Some.next)
    c.loop-turn.invariant more (sym c.if-is_over.ensures) c.in-Ok-begin_turn.ensures
    (subst (λ (b : SpmdStatement). meaning b c.args.scope (seen_run c.begin_turn.new.machine) ≡ Done (seen_run c.run-in-loop-turn.new.machine)) c.deref-in-loop-turn.ensures c.in-Ok-run.ensures)
    c.in-Some.ensures

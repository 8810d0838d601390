use Rattle.std.proofs.Common.{ℕ, rules, Result, Err, length, arith, ap, sym, subst, ◌∙◌}
use Rattle.clauses.specs.Clauses.{Conjunction}
use Rattle.encode.specs.Encodings.{EncodedProgram}
use Rattle.pool.specs.declared.entry.PublishFault.{PublishFault}
use Rattle.pool.specs.parts.Batches.{IsExtended}
use Rattle.pool.specs.Replies.{resolved_lines, DeriveAfter}
use Rattle.pool.specs.States.{PoolWithHistory, next_number, IsPublished}
use Rattle.pool.proofs.Renumbered.{some_so}
use Rattle.pool.proofs.Soundness.{sound_with, sound_publish, published_ok, known_ok, lines_count}
use Rattle.pool.proofs.keep.Pool.publish_as.Goals as goal

pub invariant_of-self-in-Ok : goal.invariant_of-self-in-Ok
invariant_of-self-in-Ok c =
    let e = c.in-Ok.ensures in
    let log = c.self.inside.log in
    let lines = resolved_lines c.next_number-base.result c.as_slice-lines.result.now in
    let derive = subst (λ (f : Conjunction). DeriveAfter f log lines) (c.formula-formula.ensures.same ∙ ap (λ (e : EncodedProgram). e.formula) c.deref.ensures) e.reply.0 in (
      sound_with _ c.answer.new.self.reasons (sound_publish _ lines c.extend.new.log e.ok c.self.invariant.0 derive e.reply.1),
      c.self.invariant.1,
      e.size ∙ c.self.invariant.2,
    )

pub returns-in-Ok-clause-reply : goal.returns-in-Ok-clause-reply
returns-in-Ok-clause-reply c =
    let h = c.args.self.now.held in
    let e = c.in-Ok.ensures in
    let base = c.next_number-base.ensures ∙ ap (λ (k : PoolWithHistory). next_number k.held) c.self.view_is in
    let log_is = ap (λ (k : PoolWithHistory). k.held.log) c.self.view_is in
    subst (λ (r : Result ℕ PublishFault). IsPublished h c.args.batch.now.lines.items r) (sym c.answer.ensures.reply) (
      base,
      published_ok h c.formula-formula.result.now c.self.inside.log c.as_slice-lines.result.now c.args.batch.now.lines.items c.next_number-base.result (c.formula-formula.ensures.same ∙ ap (λ (e : EncodedProgram). e.formula) c.deref.ensures ∙ ap (λ (k : PoolWithHistory). k.held.formula) c.self.view_is) log_is c.as_slice-lines.ensures.value base e.reply.0,
      omega (arith, e.reply.1, ap length log_is, lines_count c.next_number-base.result c.as_slice-lines.result.now c.args.batch.now.lines.items c.as_slice-lines.ensures.value),
    )

pub returns-in-Err-Full-clause-reply : goal.returns-in-Err-Full-clause-reply
returns-in-Err-Full-clause-reply c =
    let h = c.args.self.now.held in
    let base = c.next_number-base.ensures ∙ ap (λ (k : PoolWithHistory). next_number k.held) c.self.view_is in
    let log_is = ap (λ (k : PoolWithHistory). k.held.log) c.self.view_is in
    let lines = resolved_lines c.next_number-base.result c.as_slice-lines.result.now in
    let told = subst (λ (fault : PublishFault). IsExtended c.formula-formula.result.now c.self.inside.log lines (Err fault)) c.in-Err-Full.field-0-is c.in-Err-Full.ensures.reply in
    subst (λ (r : Result ℕ PublishFault). IsPublished h c.args.batch.now.lines.items r) (sym c.answer-in-Err-Full.ensures.reply) (
      published_ok h c.formula-formula.result.now c.self.inside.log c.as_slice-lines.result.now c.args.batch.now.lines.items c.next_number-base.result (c.formula-formula.ensures.same ∙ ap (λ (e : EncodedProgram). e.formula) c.deref.ensures ∙ ap (λ (k : PoolWithHistory). k.held.formula) c.self.view_is) log_is c.as_slice-lines.ensures.value base told.0,
      omega (arith, told.1, ap length log_is, lines_count c.next_number-base.result c.as_slice-lines.result.now c.args.batch.now.lines.items c.as_slice-lines.ensures.value),
    )

pub returns-in-Ok-clause-pool : goal.returns-in-Ok-clause-pool
returns-in-Ok-clause-pool c = search rules

pub extend-requires-clause-derived : goal.extend-requires-clause-derived
extend-requires-clause-derived c =
    let h = c.args.self.now.held in
    let base = c.next_number-base.ensures ∙ ap (λ (k : PoolWithHistory). next_number k.held) c.self.view_is in
    let log_is = ap (λ (k : PoolWithHistory). k.held.log) c.self.view_is in
    some_so c.args.derived
    (λ derived.
    known_ok h c.formula-formula.result.now c.self.inside.log c.as_slice-lines.result.now c.args.batch.now.lines.items c.next_number-base.result (c.formula-formula.ensures.same ∙ ap (λ (e : EncodedProgram). e.formula) c.deref.ensures ∙ ap (λ (k : PoolWithHistory). k.held.formula) c.self.view_is) log_is c.as_slice-lines.ensures.value base derived)
    c.requires.derived

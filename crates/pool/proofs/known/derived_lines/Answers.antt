use Rattle.std.proofs.Common.{ℕ, length, ap, subst, arith}
use Rattle.pool.specs.Replies.{resolved_lines, DeriveAfter}
use Rattle.pool.proofs.known.derived_lines.Goals as goal

pub returns-in-Ok-clause-derived : goal.returns-in-Ok-clause-derived
returns-in-Ok-clause-derived c =
    subst (λ (n : ℕ). DeriveAfter c.args.formula.now c.args.log.now (resolved_lines n c.args.batch.now)) (omega (arith, ap length c.clauses.ensures.same, c.len.ensures.same, c.requires.few_clauses, c.requires.few_lines)) c.in-Ok.ensures.derive

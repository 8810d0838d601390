use Rattle.std.proofs.Common.{List, subst}
use Rattle.std.specs.Prelude.{IfSome}
use Rattle.refutations.specs.declared.batch.BatchLine.{BatchLine}
use Rattle.clauses.specs.Clauses.{Conjunction}
use Rattle.refutations.specs.Proofs.{ProofLine}
use Rattle.pool.specs.Moves.{number_after}
use Rattle.pool.specs.Replies.{resolved_lines, DeriveAfter}
use Rattle.test_scripts.proofs.shares.derived.Goals as goal

pub returns-in-Ok-clause-derived : goal.returns-in-Ok-clause-derived
returns-in-Ok-clause-derived c =
    let found = c.derived_lines.result in
    let formula = c.formula-formula.result.now in
    let log = c.log.result.now in
    let lines = c.args.batch.now.lines.items in
    subst (λ (f : Conjunction). IfSome found (λ _. DeriveAfter f c.args.pool.now.held.log (resolved_lines (number_after f c.args.pool.now.held.log) lines))) c.formula-formula.ensures
    (subst (λ (l : List ProofLine). IfSome found (λ _. DeriveAfter formula l (resolved_lines (number_after formula l) lines))) c.log.ensures
    (subst (λ (b : List BatchLine). IfSome found (λ _. DeriveAfter formula log (resolved_lines (number_after formula log) b))) c.deref.ensures.value c.derived_lines.ensures.derived))

use Rattle.std.proofs.Common.{rules, ◌≡◌, ◌++◌, map, false, Option, IfNone, subst, arith}
use Rattle.std.proofs.lemmas.List.{length-append}
use Rattle.refutations.specs.Proofs.{ProofLine, are_numbers}
use Rattle.pool.specs.Replies.{resolved, resolved_hint}
use Rattle.pool.proofs.Hints.{derived_numbers}
use Rattle.pool.proofs.extend.checked_line.Goals as goal

pub returns-in_default-clause-not_derived : goal.returns-in_default-clause-not_derived
returns-in_default-clause-not_derived c = λ derived.
    let line = c.args.line.now in
    let log = c.args.earlier.now.log.now in
    let more = c.args.earlier.now.more.now in
    let none : are_numbers (map (resolved_hint c.args.base) line.hints.items) ≡ false =
    subst (λ (found : Option ProofLine). IfNone found (are_numbers (map (resolved_hint c.args.base) line.hints.items) ≡ false)) c.in_default.is c.in_ok-made.ensures.none
    in
    let all = derived_numbers c.args.formula.now (log ++ more) (resolved c.args.base line) (omega (arith, c.requires.few, length-append log more)) derived in
    cc

pub returns-in-Ok-clause-not_derived : goal.returns-in-Ok-clause-not_derived
returns-in-Ok-clause-not_derived c = search rules

pub returns-in-Err-clause-derived : goal.returns-in-Err-clause-derived
returns-in-Err-clause-derived c = search rules

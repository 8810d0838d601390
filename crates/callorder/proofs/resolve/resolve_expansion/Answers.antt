use Rattle.std.proofs.Common.{ℕ, ◌≤◌, subst, ◌∙◌}
use Rattle.calltext.specs.Grammar.{long}
use Rattle.callorder.proofs.Resolved.{first_found, none_found, made_is, made_is_program}
use Rattle.callorder.proofs.resolve.resolve_expansion.Goals as goal

pub returns-in-Some-clause-fault : goal.returns-in-Some-clause-fault
returns-in-Some-clause-fault c = λ text e. first_found c.args.limits text c.in-Some.found (c.in-Some.ensures text (c.in_ok-linked.ensures text e.calls e.ranks_are))

pub of_calls-requires : goal.of_calls-requires
of_calls-requires c =
    let text = c.requires.text.0 in
    let e = c.requires.text.1 in
    made_is_program c.args.limits long text _ c.requires.limits.within.calls
    (made_is text c.args.policy c.args.ranks c.in_ok-calls.calls.items e.policy_is e.ranks_are (c.in_ok-calls.ensures text (c.in_ok-linked.ensures text e.calls e.ranks_are)))
    (subst (λ (n : ℕ). 1 ≤ n) e.ranks_are e.some) (subst (λ (n : ℕ). n ≤ 2147483647) e.ranks_are e.few) (c.in_default.ensures text (c.in_ok-linked.ensures text e.calls e.ranks_are))

pub returns-clause-program : goal.returns-clause-program
returns-clause-program c = λ text e. record {
  no_fault = none_found c.args.limits text (c.in_default.ensures text (c.in_ok-linked.ensures text e.calls e.ranks_are));
  is = c.of_calls.ensures ∙ made_is text c.args.policy c.args.ranks c.in_ok-calls.calls.items e.policy_is e.ranks_are (c.in_ok-calls.ensures text (c.in_ok-linked.ensures text e.calls e.ranks_are));
}

use Rattle.std.proofs.Common.{◌≡◌, ℕ, Option, Some, None, subst, sym, ◌∙◌}
use Rattle.prover.specs.parts.Walks.{NoIssueBy}
use Rattle.prover.proofs.Walks.{nothing_but_sees, if_none, on_none}
use Rattle.prover.proofs.walk.next_issue_or_match.Goals as goal

pub returns-in-None-clause-none : goal.returns-in-None-clause-none
returns-in-None-clause-none c =
    nothing_but_sees c.args.program.now c.args.state.now c.args.manner.held_back c.args.ranks.now c.requires.of c.requires.others
    (if_none c.next_issue-issue-2.result _ c.is_some-3.result c.is_some-3.ensures c.if-is_some-3.false c.next_issue-issue-2.ensures.none)
    (λ rank e. let both : ◌≡◌ {A = Option ℕ} None (Some rank) = sym c.in-None.is ∙ e in absurd cc)
    (if_none c.in_ok-matching.matching _ c.is_some-2.result c.is_some-2.ensures c.if-is_some-2.false c.in_ok-matching.ensures.none)

pub returns-in-Some-clause-none : goal.returns-in-Some-clause-none
returns-in-Some-clause-none c =
    on_none c.issue_of.result _ _
    (λ held_waits.
    nothing_but_sees c.args.program.now c.args.state.now c.args.manner.held_back c.args.ranks.now c.requires.of c.requires.others
    (if_none c.next_issue-issue-2.result _ c.is_some-3.result c.is_some-3.ensures c.if-is_some-3.false c.next_issue-issue-2.ensures.none)
    (λ rank e. let same : ◌≡◌ {A = Option ℕ} (Some c.in-Some.rank) (Some rank) = sym c.in-Some.is ∙ e in
    let is : c.in-Some.rank ≡ rank = cc in subst (NoIssueBy c.args.program.now c.args.state.now) is held_waits)
    (if_none c.in_ok-matching.matching _ c.is_some-2.result c.is_some-2.ensures c.if-is_some-2.false c.in_ok-matching.ensures.none))
    c.issue_of.ensures.none

use Rattle.std.proofs.Common.{ap, subst, sym, ◌∙◌}
use Rattle.prooflog.specs.Refutations.{ClaimedRefutation, IsRefutation}
use Rattle.prooflog.proofs.TrimLaws.{made_of_parts, named_as, never_both, trimmed_within}
use Rattle.prooflog.proofs.refutation.Refutation.trim.Goals as goal

pub returns-clause-trimmed : goal.returns-clause-trimmed
returns-clause-trimmed c =
    let is = c.self.view_is in
    made_of_parts c.args.self.now c.self.inside.variables c.self.inside.clauses c.self.inside.lines.items c.trim.new.lines.items c.self.inside.tree c.trim.new.tree (ap (λ (r : ClaimedRefutation). r.variables) is)
    (ap (λ (r : ClaimedRefutation). r.clauses) is) (ap (λ (r : ClaimedRefutation). r.lines) is) (ap (λ (r : ClaimedRefutation). r.nodes) is) c.in_ok-trim.ensures.lines c.in_ok-trim.ensures.tree

pub invariant_of-self-2 : goal.invariant_of-self-2
invariant_of-self-2 c =
    let is = c.self.view_is in
    let made =
    made_of_parts c.args.self.now c.self.inside.variables c.self.inside.clauses c.self.inside.lines.items c.trim.new.lines.items c.self.inside.tree c.trim.new.tree (ap (λ (r : ClaimedRefutation). r.variables) is)
    (ap (λ (r : ClaimedRefutation). r.clauses) is) (ap (λ (r : ClaimedRefutation). r.lines) is) (ap (λ (r : ClaimedRefutation). r.nodes) is) c.in_ok-trim.ensures.lines c.in_ok-trim.ensures.tree in
    subst IsRefutation (sym made) (trimmed_within c.args.self.now (subst IsRefutation is c.self.invariant))

pub returns-clause-number_only : goal.returns-clause-number_only
returns-clause-number_only c = λ stray.
    let is = c.self.view_is in
    let same =
    named_as c.args.self.now c.self.inside.clauses c.self.inside.lines.items c.self.inside.tree (ap (λ (r : ClaimedRefutation). r.clauses) is) (ap (λ (r : ClaimedRefutation). r.lines) is)
    (ap (λ (r : ClaimedRefutation). r.nodes) is) in
    absurd (never_both c.trim.result c.in_ok-trim.field-0 c.in_ok-trim.was (c.trim.ensures.number_only (same ∙ stray)))

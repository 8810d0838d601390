use Rattle.std.proofs.Common.{ap, sym, subst, ◌∙◌}
use Rattle.std.specs.Prelude.{IfSome}
use Rattle.clauses.specs.Clauses.{Conjunction}
use Rattle.encode.specs.Encodings.{EncodedProgram}
use Rattle.sharedpool.specs.Seats.{Chair, IsViewTold, IsDerivedFrom}
use Rattle.sharedpool.proofs.Told.{told_published}
use Rattle.sharedpool.proofs.shared.SharedPoolShare.publish.Goals as goal

pub invariant_of-seat : goal.invariant_of-seat
invariant_of-seat g c = (
  subst (λ (s : Chair). IsViewTold g.B.PoolName.opening.formula s.mine c.seat.inside.view) (sym c.publish.ensures.seat) (told_published g.B.PoolName.opening.formula c.seat.inside.ticket c.args.batch.now.lines.items c.publish.result c.seat.inside.view c.seat.invariant.0),
  c.derived_from-derived.ensures.size ∙ c.seat.invariant.1,
)

pub publish-requires-clause-derived : goal.publish-requires-clause-derived
publish-requires-clause-derived g c =
    let same = c.formula-formula.ensures.same ∙ ap (λ (e : EncodedProgram). e.formula) c.deref.ensures ∙ c.args.self.now.lent in
    subst (λ (f : Conjunction). IfSome c.derived_from-derived.result (λ _. IsDerivedFrom f c.seat.inside.view c.args.batch.now.lines.items)) same c.derived_from-derived.ensures.derived

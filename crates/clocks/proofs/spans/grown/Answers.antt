use Rattle.std.proofs.Common.{refl, sym}
use Rattle.clocks.proofs.SpanNames.{longer_span}
use Rattle.clocks.proofs.spans.grown.Goals as goal

pub returns-clause-some : goal.returns-clause-some
returns-clause-some c = (
  longer_span c.args.program.now c.args.state.now c.args.call c.args.span c.longer.result c.partner.result c.requires (c.if-not-may_follow.ensures.0 refl) (sym c.if-not-is_finder.ensures)
      c.partner.ensures c.longer.ensures,
  c.longer.ensures.first,
)

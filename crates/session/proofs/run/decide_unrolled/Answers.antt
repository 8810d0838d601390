use Rattle.std.proofs.Common.{◌∙◌, inl, inr, refl, sym}
use Rattle.session.proofs.Ended.{ended}
use Rattle.session.proofs.run.decide_unrolled.Goals as goal

pub returns-in_default : goal.returns-in_default
returns-in_default g c = λ words terminal.
    (refl, inl (sym c.barriers_in.ensures ∙ c.in_default.is, (c.no_way.ensures.status, refl, c.no_way.ensures.told)))

pub returns-in-Ok : goal.returns-in-Ok
returns-in-Ok g c = λ words terminal. (
  c.decide_unrolled_page-page.ensures.same,
  inr (
    c.in-Some.barriers,
    sym c.barriers_in.ensures ∙ c.in-Some.is,
    inr (
      c.in-Ok.wanted.first,
      c.in-Ok.wanted.last,
      c.in-Ok.ensures.ranked,
      ended c.decide_unrolled_page-page.result c.decide_unrolled_page-page.ensures.page c.decide_unrolled_page-page.ensures.stop c.finish.ensures,
    ),
  ),
)

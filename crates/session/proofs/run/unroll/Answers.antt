use Rattle.std.proofs.Common.{◌∙◌, inl, inr, refl, sym}
use Rattle.session.proofs.Ended.{ended}
use Rattle.session.proofs.run.unroll.Goals as goal

pub returns-in_default : goal.returns-in_default
returns-in_default g c = λ words terminal.
    (λ path other. refl, inl (sym c.barriers_in.ensures ∙ c.in_default.is, (c.no_way.ensures.status, refl, c.no_way.ensures.told)))

pub returns : goal.returns
returns g c = λ words terminal. (
  c.unroll_page-page.ensures.others,
  inr (
    c.in-Some.barriers,
    sym c.barriers_in.ensures ∙ c.in-Some.is,
    ended c.unroll_page-page.result c.unroll_page-page.ensures.page c.unroll_page-page.ensures.stop c.finish.ensures,
  ),
)

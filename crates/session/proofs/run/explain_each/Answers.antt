use Rattle.std.proofs.Common.{inl, inr, refl}
use Rattle.session.proofs.Ended.{ended_as}
use Rattle.session.proofs.run.explain_each.Goals as goal

pub returns-then-asked : goal.returns-then-asked
returns-then-asked g c = λ words terminal. inl (c.if-asked.true, refl, (c.complain_of_words.ensures.status, refl, c.complain_of_words.ensures.told))

pub returns : goal.returns
returns g c = λ words terminal. inr (
  c.if-asked.false,
  (
    c.explain_each_page-page.ensures.others,
    ended_as c.explain_each_page-page.result refl c.is_object.ensures c.explain_each_page-page.ensures.page c.explain_each_page-page.ensures.stop c.finish.ensures,
  ),
)

use Rattle.std.proofs.Common.{◌∙◌, inl, inr, refl, subst, sym, Bool, false}
use Rattle.command_line.specs.Requests.{path_of}
use Rattle.session.specs.Sweeping.{IsRanked}
use Rattle.session.proofs.Ended.{ended_as}
use Rattle.session.proofs.run.explain_unrolled.Goals as goal

pub returns-in_default : goal.returns-in_default
returns-in_default g c = λ words terminal.
    (refl, inl (sym c.barriers_in.ensures ∙ c.in_default.is, (c.no_way.ensures.status, refl, c.no_way.ensures.told)))

pub returns-in-Ok : goal.returns-in-Ok
returns-in-Ok g c = λ words terminal. (
  c.explain_unrolled_page-page.ensures.same,
  inr (
    c.in-Some.barriers,
    sym c.barriers_in.ensures ∙ c.in-Some.is,
    inr (
      c.in-Ok.wanted.first,
      c.in-Ok.wanted.last,
      subst (λ (beside : Bool). IsRanked (path_of c.args.asked.now.ranks) beside false c.in-Ok.wanted.first c.in-Ok.wanted.last) c.is_beside_explain.ensures c.in-Ok.ensures.ranked,
      ended_as c.explain_unrolled_page-page.result refl c.is_object.ensures c.explain_unrolled_page-page.ensures.page c.explain_unrolled_page-page.ensures.stop c.finish.ensures,
    ),
  ),
)

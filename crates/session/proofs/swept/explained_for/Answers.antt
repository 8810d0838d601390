use Rattle.std.proofs.Common.{map, subst, Bool, ℕ, List}
use Rattle.std.specs.Borrow.{Bor}
use Rattle.std.specs.Prelude.{IfOk}
use Rattle.session.specs.Sweeping.{IsExplainedFor, IsPageFor}
use Rattle.session.proofs.SweptPages.{refused_for}
use Rattle.session.proofs.swept.explained_for.Goals as goal

pub returns-in-Err-Refused : goal.returns-in-Err-Refused
returns-in-Err-Refused g c =
    let asked = c.args.asked.now in
    let IsPage = IsExplainedFor asked.options.budget asked.form in
    subst (λ (json : Bool). IfOk c.refused_for.result (λ page. IsPageFor asked.program.now c.args.source.now (map (λ s. s.now) asked.settings.items) c.args.barriers json IsPage c.args.ranks page.text.items page.status))
    c.is_object.ensures
    (subst (λ (ss : List (Bor (List ℕ))). IfOk c.refused_for.result (λ page. IsPageFor asked.program.now c.args.source.now (map (λ s. s.now) ss) c.args.barriers c.is_object.result IsPage c.args.ranks page.text.items page.status))
    c.deref.ensures.value
    (refused_for asked.program.now c.args.source.now (map (λ s. s.now) c.deref.result.now) c.args.barriers c.is_object.result IsPage c.args.ranks
    c.in-Err-Refused.field-0 c.in-Err-Refused.told c.deref-in-Err-Refused.result.now c.refused_for.result c.in-Err-Refused.field-0-is c.deref-in-Err-Refused.ensures.value
    c.in-Err-Refused.ensures.refused c.refused_for.ensures.text c.refused_for.ensures.status))

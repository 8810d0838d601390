use Rattle.std.proofs.Common.{sym, ◌∙◌, arith}
use Rattle.clocks.proofs.Listed.{next_cover}
use Rattle.clocks.proofs.finders.cover_at.Goals as goal

pub returns : goal.returns
returns c =
    next_cover c.args.columns.now c.args.group.now c.args.place c.in-Some.finder c.args.before c.cover_of-own.result c.both.result c.requires (λ e. let some = c.if-place-eq0.false in omega (arith, some, e)) (sym c.call_in.ensures ∙ c.in-Some.is) c.cover_of-own.ensures c.both.ensures

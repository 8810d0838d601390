use Rattle.std.proofs.Common.{sym, ◌∙◌, arith}
use Rattle.std.proofs.lemmas.Bool.{eqb-true}
use Rattle.prover.proofs.Walks.{none_found, none_there}
use Rattle.prover.proofs.walk.next_find.Goals as goal

pub returns-clause-none : goal.returns-clause-none
returns-clause-none c =
    none_found c.args.program.now c.args.state.now c.args.sees c.in_ok-open_sends.field-0.items c.arranged-sends.result.items c.deref.result.now c.in_ok-open_finders.field-0.items c.arranged-finders.result.items c.deref-2.result.now c.find_of.result
    c.in_ok-open_sends.ensures c.arranged-sends.ensures c.deref.ensures.value c.in_ok-open_finders.ensures c.arranged-finders.ensures c.deref-2.ensures.value c.find_of.ensures.none

pub returns-then-is_empty-clause-none : goal.returns-then-is_empty-clause-none
returns-then-is_empty-clause-none c =
    none_there c.args.program.now c.args.state.now c.args.sees c.in_ok-open_finders.field-0.items c.arranged-finders.result.items c.in_ok-open_finders.ensures c.arranged-finders.ensures
    (omega (arith, c.arranged-finders.result.ok, eqb-true c.arranged-finders.result.len 0 (sym c.is_empty.ensures ∙ c.if-is_empty.true)))

use Rattle.knowledge.proofs.column.settle.Goals as goal

pub returns-then-not-changed-clause-covers : goal.returns-then-not-changed-clause-covers
returns-then-not-changed-clause-covers c = λ covers. c.take_out_all_untold-changed.ensures.covers (c.passes.invariant covers)

pub passes-preserved : goal.passes-preserved
passes-preserved c = λ covers. c.take_out_all_untold-changed.ensures.covers (c.passes.invariant covers)

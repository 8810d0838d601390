use Rattle.std.proofs.Common.{map, ap, ◌∙◌}
use Rattle.pool.specs.parts.Batches.{capped_hint}
use Rattle.pool.proofs.Hints.{made_from, none_from}
use Rattle.pool.proofs.extend.resolved_line.Goals as goal

pub returns-clause-made : goal.returns-clause-made
returns-clause-made c =
    made_from c.args.base c.args.line.now c.in_ok-literals.literals.items c.in_ok-hints.hints.items c.from_vecs.result (c.in_ok-literals.ensures.items ∙ c.literals.ensures.same) (c.in_ok-hints.ensures ∙ ap (map (capped_hint c.args.base)) c.as_slice.ensures.value) c.from_vecs.ensures.when.0 c.from_vecs.ensures.made

pub returns-clause-none : goal.returns-clause-none
returns-clause-none c =
    none_from c.args.base c.args.line.now c.in_ok-literals.literals.items c.in_ok-hints.hints.items c.from_vecs.result (c.in_ok-literals.ensures.items ∙ c.literals.ensures.same) c.literals.ensures.rises (c.in_ok-hints.ensures ∙ ap (map (capped_hint c.args.base)) c.as_slice.ensures.value) c.from_vecs.ensures.when.1

use Rattle.std.proofs.Common.{rules}
use Rattle.std.proofs.lemmas.Fn.{filter_same}
use Rattle.explain.specs.Losing.{has_more_sends}
use Rattle.explain.proofs.lost.losing.Goals as goal

pub returns : goal.returns
returns c = record {
  all = c.in_ok-told.told.items;
  are = c.in_ok-told.ensures;
  is = filter_same _ has_more_sends _ (λ x b f k. search rules) _ _ c.retain.ensures.filtered;
}

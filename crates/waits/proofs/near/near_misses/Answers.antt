use Rattle.std.proofs.Common.{◌≡◌, ℕ, List, IfOk, sym, ◌∙◌, subst}
use Rattle.waits.proofs.NearMisses.{near_where_none_fits}
use Rattle.waits.proofs.near.near_misses.Goals as goal

pub returns : goal.returns
returns c =
    subst (λ (list : List ℕ). IfOk c.unmatched_misses.result (λ places. places.items ≡ list))
    (near_where_none_fits c.args.program.now c.args.state.now c.args.call (sym c.has_unmatched_fit.ensures ∙ c.if-has_unmatched_fit.false))
    c.unmatched_misses.ensures

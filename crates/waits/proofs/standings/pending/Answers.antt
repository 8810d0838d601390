use Rattle.std.proofs.Common.{inl, inr, sym, ◌∙◌}
use Rattle.waits.proofs.StuckRanks.{next_is, waits_past_first, waits_made, waits_not}
use Rattle.waits.proofs.standings.pending.Goals as goal
use Rattle.waits.proofs.standings.pending.Goals.{else-is_of_rank-via-then-is_of_rank+else-not-returned, else-is_of_rank-via-else-is_of_rank}

pub returns-then-next-eq0-clause-none : goal.returns-then-next-eq0-clause-none
returns-then-next-eq0-clause-none c =
    waits_past_first _ _ _ c.unwrap_or-next.result (next_is c.args.state.now c.args.rank _ _ c.next_of.ensures c.unwrap_or-next.ensures) c.if-next-eq0.true

pub returns-then-not-returned-clause-some : goal.returns-then-not-returned-clause-some
returns-then-not-returned-clause-some c =
    waits_made _ _ _ c.unwrap_or-next.result (next_is c.args.state.now c.args.rank _ _ c.next_of.ensures c.unwrap_or-next.ensures) c.if-next-eq0.false (sym c.is_of_rank.ensures ∙ c.if-is_of_rank.true) (sym c.returned.ensures ∙ c.if-not-returned.true)

pub returns-clause-none : goal.returns-clause-none
returns-clause-none c =
    waits_not c.args.program.now c.args.state.now c.args.rank c.unwrap_or-next.result (next_is c.args.state.now c.args.rank _ _ c.next_of.ensures c.unwrap_or-next.ensures)
    (elim c.else-is_of_rank.branch [
      | else-is_of_rank-via-then-is_of_rank+else-not-returned w ↦ inr (sym w.returned.ensures ∙ w.if-not-returned.false)
      | else-is_of_rank-via-else-is_of_rank w ↦ inl (sym c.is_of_rank.ensures ∙ w.if-is_of_rank.false)
    ])

use Rattle.std.proofs.Common.{rules, ◌<◌, length, get_or, refl, sym, ◌∙◌, ap, arith}
use Rattle.calltext.specs.Grammar.{long}
use Rattle.waits.proofs.StuckRanks.{next_is}
use Rattle.waits.proofs.NeededRanks.{found_missing, none_missing, later_ranks, past_all, there_at}
use Rattle.waits.proofs.waiting.is_missing.Goals as goal

pub returns-then-calls-place : goal.returns-then-calls-place
returns-then-calls-place c =
    let next = next_is c.args.state.now c.args.rank _ _ c.next_of.ensures c.unwrap_or-next.ensures in
    let within : c.loop-place.place < length c.calls-calls.result.now = omega arith in (
      λ never. absurd (cc),
      λ missing. absurd (none_missing c.args.program.now c.args.state.now c.args.operation c.args.rank c.unwrap_or-next.result c.loop-place.place next c.loop-place.invariant
          (later_ranks long c.args.program.now c.args.rank c.loop-place.place (get_or c.calls-calls.result.now c.loop-place.place _) c.calls-calls.ensures.kept (there_at c.calls-calls.result.now c.args.program.now.calls c.loop-place.place _ c.calls-calls.ensures.value within) c.if-calls-place.true) missing),
    )

pub returns-then-fits_with : goal.returns-then-fits_with
returns-then-fits_with c =
    let next = next_is c.args.state.now c.args.rank _ _ c.next_of.ensures c.unwrap_or-next.ensures in
    (λ _. found_missing c.args.program.now c.args.state.now c.args.operation c.args.rank c.unwrap_or-next.result c.loop-place.place next (search rules) (sym c.is_of_rank.ensures ∙ c.if-is_of_rank.true) (sym c.fits_with.ensures ∙ c.if-fits_with.true), λ _. refl)

pub returns : goal.returns
returns c =
    let next = next_is c.args.state.now c.args.rank _ _ c.next_of.ensures c.unwrap_or-next.ensures in (
      λ never. absurd (cc),
      λ missing. absurd (none_missing c.args.program.now c.args.state.now c.args.operation c.args.rank c.unwrap_or-next.result c.loop-place.place next c.loop-place.invariant
          (past_all c.args.program.now c.args.rank c.loop-place.place (omega (arith, ap length c.calls-calls.ensures.value))) missing),
    )
